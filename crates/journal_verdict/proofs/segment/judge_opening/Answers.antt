use Rattle.journal_text.proofs.SegmentProps.{opening_valid}
use Rattle.journal_verdict.proofs.SegmentFacts.{judges_opening}
use Rattle.journal_verdict.proofs.segment.judge_opening.Goals as goal

pub first_difference-requires-clause-valid : goal.first_difference-requires-clause-valid
first_difference-requires-clause-valid c = opening_valid c.args.counted.now.segment

pub returns-in-Some : goal.returns-in-Some
returns-in-Some c =
    rw c.in-Some.is
    (judges_opening c.as_slice.result.now c.as_slice-in-Some.result.now c.in-Some.name c.in-Some.ending c.args.counted.now c.first_difference.result
    c.as_slice.ensures c.as_slice-in-Some.ensures c.first_difference.ensures.same c.first_difference.ensures.wrong)
