use Rattle.drill.proofs.EndLaws.{end_to_end}
use Rattle.drill.proofs.laws.a_reply_is_the_applications_answer.Goals as goal

pub returns : goal.returns
returns c = end_to_end
