use Rattle.std.proofs.Common.{◌≡◌, refl}
use Rattle.http_out.specs.declared.framing.RequestKind.{RequestKind}
use Rattle.http_out.specs.declared.reply_head.ReplyHead.{ReplyHead}
use Rattle.http_out.specs.Framing.{framing_of}
use Rattle.http_out.specs.Writer.{Writer, IsOpenReply, new_writer, after_head}
use Rattle.wire_checks.proofs.replies.opened.Goals as goal

-- a new writer's reply is open once a head was taken
open-from_head : (kind : RequestKind) (h : ReplyHead) (w now : Writer) → w ≡ new_writer kind → now ≡ after_head w h → IsOpenReply now
open-from_head kind h w now made taken = rw (taken, made) (record { framing = framing_of kind h; given = refl; goes_on = refl })

pub returns : goal.returns
returns c = open-from_head _ c.in_ok-head_with.field-0 c.new-writer.result _ c.new-writer.ensures c.in_ok-headers.ensures.1
