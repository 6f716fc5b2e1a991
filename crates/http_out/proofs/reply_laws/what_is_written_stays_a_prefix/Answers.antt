use Rattle.http_out.proofs.ReplyLaws.{stays}
use Rattle.http_out.proofs.reply_laws.what_is_written_stays_a_prefix.Goals as goal

pub returns : goal.returns
returns c = stays
