use Rattle.ajp_reply.proofs.ReplyLaws.{spells-only}
use Rattle.ajp_reply.proofs.laws.one_message_a_payload.Goals as goal

pub returns : goal.returns
returns c = spells-only
