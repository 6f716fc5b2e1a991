use Rattle.journal_text.proofs.SegmentProps.{opening_valid}
use Rattle.journal_verdict.proofs.segment.end_of_all.Goals as goal

pub end_of-requires-clause-valid : goal.end_of-requires-clause-valid
end_of-requires-clause-valid c = opening_valid c.args.segment
