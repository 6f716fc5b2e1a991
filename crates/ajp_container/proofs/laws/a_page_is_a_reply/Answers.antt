use Rattle.ajp_container.proofs.AnswerLaws.{page-is_reply}
use Rattle.ajp_container.proofs.laws.a_page_is_a_reply.Goals as goal

pub returns : goal.returns
returns c = page-is_reply
