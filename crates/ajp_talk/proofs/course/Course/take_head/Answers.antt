-- The head was judged as the writer judged it.
use Rattle.std.proofs.Common.{refl, sym, ap, ◌∙◌, List, ℕ, Bool}
use Rattle.ajp_talk.specs.Replies.{is_listed}
use Rattle.ajp_talk.proofs.ReplyLaws.{head-refused, head-taken}
use Rattle.ajp_talk.proofs.course.Course.take_head.Goals as goal

pub returns-in-Err-BadReply : goal.returns-in-Err-BadReply
returns-in-Err-BadReply c =
    head-refused c.args.self.now c.args.parts c.reply_head.result c.headers.new.self c.reply_head.ensures (rw c.in-Err-BadReply.field-0-is at c.in-Err-BadReply.ensures)

pub returns-then-is_listed : goal.returns-then-is_listed
returns-then-is_listed c =
    let t = head-taken c.args.self.now c.args.parts c.reply_head.result c.headers.new.self c.reply_head.ensures c.in-Ok.ensures in
    let listed = ap (λ (l : List (ℕ × Bool)). is_listed l c.args.parts.status) (sym c.as_slice.ensures) ∙ sym c.is_listed.ensures ∙ c.if-is_listed.true in
    (c.if-self.false, t.0, refl, listed, t.1)

pub returns : goal.returns
returns c =
    let t = head-taken c.args.self.now c.args.parts c.reply_head.result c.headers.new.self c.reply_head.ensures c.in-Ok.ensures in
    let unlisted = ap (λ (l : List (ℕ × Bool)). is_listed l c.args.parts.status) (sym c.as_slice.ensures) ∙ sym c.is_listed.ensures ∙ c.if-is_listed.false in
    (c.if-self.false, t.0, unlisted, t.1)
