use Rattle.ajp_container.proofs.SentLaws.{owed-spelled}
use Rattle.ajp_container.proofs.laws.what_is_sent_is_spelled.Goals as goal

pub returns : goal.returns
returns c = owed-spelled
