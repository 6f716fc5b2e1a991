use Rattle.http_out.proofs.ReplyLaws.{grows}
use Rattle.http_out.proofs.reply_laws.replies_grow_by_chunks.Goals as goal

pub returns : goal.returns
returns c = grows
