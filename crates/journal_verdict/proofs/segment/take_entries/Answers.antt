use Rattle.std.proofs.Common.{arith}
use Rattle.journal_verdict.proofs.SegmentFacts.{ends_right, ends_wrong, lines_whole}
use Rattle.journal_verdict.proofs.segment.take_entries.Goals as goal

pub bad-requires : goal.bad-requires
bad-requires c =
    let leaves = rw c.in-Err.is at c.in_ok-wrong.ensures in
    omega (arith, leaves.0, c.lines_before-before.ensures, lines_whole c.args.counted, c.requires.few)

pub returns-in-Err : goal.returns-in-Err
returns-in-Err c =
    ends_wrong c.args.lines c.args.entries c.args.counted c.lines_before-before.result c.in-Err.wrong c.bad.result c.lines_before-before.ensures
    (rw c.in-Err.is at c.in_ok-wrong.ensures) c.bad.ensures

pub overflow_cast-result : goal.overflow_cast-result
overflow_cast-result c = omega (arith, c.requires.few, c.lines_before-before.ensures, lines_whole c.args.counted, c.len-number.ensures)

pub returns-in-Ok : goal.returns-in-Ok
returns-in-Ok c =
    ends_right c.args.lines c.args.entries c.args.counted c.in-Ok.ended.0 c.in-Ok.ended.1 _ _ (rw c.in-Ok.is at c.in_ok-wrong.ensures)
    (omega (arith, c.lines_before-before.ensures, lines_whole c.args.counted, c.len-number.ensures)) (omega (arith, c.len-number.ensures))
