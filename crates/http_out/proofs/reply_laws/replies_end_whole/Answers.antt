use Rattle.http_out.proofs.ReplyLaws.{ends}
use Rattle.http_out.proofs.reply_laws.replies_end_whole.Goals as goal

pub returns : goal.returns
returns c = ends
