use Rattle.std.proofs.Common.{arith}
use Rattle.journal_verdict.proofs.SegmentFacts.{after_ends, after_opening, lines_whole}
use Rattle.journal_verdict.proofs.segment.take_segment.Goals as goal

pub bad-requires : goal.bad-requires
bad-requires c =
    let within = rw c.in-Some.is at c.in_ok-wrong.ensures in
    omega (arith, within.1, lines_whole c.args.counted, c.requires.few)

pub returns-in-Some : goal.returns-in-Some
returns-in-Some c =
    let wrong = rw c.in-Some.is at c.in_ok-wrong.ensures in
    after_opening c.args.reached c.args.counted c.in-Some.wrong c.bad.result wrong.0 c.bad.ensures

pub returns-in-None : goal.returns-in-None
returns-in-None c =
    after_ends c.args.reached c.args.counted c.take_entries.result (rw c.in-None.is at c.in_ok-wrong.ensures) c.take_entries.ensures
