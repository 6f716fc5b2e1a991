use Rattle.ajp_reply.proofs.ReplyLaws.{written-spelled, written-only}
use Rattle.ajp_reply.proofs.laws.written_messages_are_read_again.Goals as goal

pub returns-clause-spelled : goal.returns-clause-spelled
returns-clause-spelled c = written-spelled

pub returns-clause-alone : goal.returns-clause-alone
returns-clause-alone c = written-only
