use Rattle.std.proofs.Common.{◌≡◌, ◌∷◌, [], ◌++◌, length, ◌+◌, ◌<◌, take, ap, ◌∙◌, arith}
use Rattle.std.proofs.lemmas.Grind.{common_steps, flat_map-append}
use Rattle.journal_text.specs.Lines.{lines_text}
use Rattle.journal_text.specs.SegmentText.{member_line, member_lines}
use Rattle.journal_text.proofs.LineFacts.{member_lines_more}
use Rattle.journal_text.proofs.writing.put_members.Goals as goal

pub loop-i-preserved : goal.loop-i-preserved
loop-i-preserved c =
    let ms = c.args.members.now in
    let rs = c.args.rows.now in
    let i = c.loop-i.i in
    let m = c.index-members-i.result in
    let r = c.index-rows-i.result in
    let inside : i < length ms = c.loop-i-test.true in
    let more = member_lines_more ms rs i m r inside (omega (arith, inside, c.requires)) in
    let at : member_lines (take (i + 1) ms) (take (i + 1) rs) ≡ member_lines (take i ms) (take i rs) ++ member_line m r ∷ [] =
    rw (← c.index-members-i.is, ← c.index-rows-i.is) at more in
    let text : lines_text c.args.rules (member_lines (take (i + 1) ms) (take (i + 1) rs))
    ≡ lines_text c.args.rules (member_lines (take i ms) (take i rs)) ++ lines_text c.args.rules (member_line m r ∷ []) =
    ap (lines_text c.args.rules) at ∙ flat_map-append _ (member_lines (take i ms) (take i rs)) (member_line m r ∷ []) in
    rw text (grind (arith, common_steps, c.loop-i.invariant, c.in_ok-put_member_line.ensures))
