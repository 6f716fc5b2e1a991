use Rattle.std.proofs.Common.{◌≡◌, ℕ, List, length, Option, Some, Result, Ok, Err, refl, subst, sym}
use Rattle.http_out.specs.declared.reply_head.OutError.{OutError}
use Rattle.http_out.specs.declared.reply_head.OutError.TheVariants as Out
use Rattle.http_out.specs.Framing.{spent}
use Rattle.http_out.specs.Writer.{Writer, IsOpenReply, IsChunkStep, framing_now}
use Rattle.http_out.proofs.WriterLaws.{open-from_step}
use Rattle.wire_checks.proofs.replies.pass_on.Goals as goal

-- whatever a chunk answers, the reply was not ended
still-open : (w now : Writer) (chunk : List ℕ) (sent sent_now : Option (List ℕ)) (result : Result Unit OutError) → IsOpenReply w → IsChunkStep w chunk now sent sent_now result → IsOpenReply now
still-open w now chunk sent sent_now (Ok u) is_open step = open-from_step w now chunk sent sent_now (Ok u) is_open step
still-open w now chunk sent sent_now (Err Out.Disagree) is_open step = subst IsOpenReply (sym step.1) is_open
still-open w now chunk sent sent_now (Err Out.Fault) is_open step = rw step.2.state (record { framing = spent (framing_now w) (length chunk); given = refl; goes_on = is_open.goes_on })
still-open w now chunk sent sent_now (Err Out.NoMemory) is_open step = rw step.2.state (record { framing = spent (framing_now w) (length chunk); given = refl; goes_on = is_open.goes_on })
still-open w now chunk sent sent_now (Err Out.BadReply) is_open step = absurd step

pub returns : goal.returns
returns c = still-open c.args.writer.now c.chunk.new.self c.args.chunk.now (Some c.args.client.now.sent) (Some c.chunk.new.client.sent) c.chunk.result c.requires c.chunk.ensures.step
