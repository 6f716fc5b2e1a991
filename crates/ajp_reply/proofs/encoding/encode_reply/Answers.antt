use Rattle.ajp_reply.proofs.ReplyLaws.{written-spelled}
use Rattle.ajp_reply.proofs.encoding.encode_reply.Goals as goal

pub returns-clause-spelled : goal.returns-clause-spelled
returns-clause-spelled c = written-spelled c.args.message.now c.requires c.in-Some.ensures.fits
