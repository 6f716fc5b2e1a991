use Rattle.journal_text.proofs.SegmentProps.{opening_valid}
use Rattle.journal_verdict.proofs.run.Run.begin.Goals as goal

pub resume-requires-clause-valid : goal.resume-requires-clause-valid
resume-requires-clause-valid c = opening_valid c.args.segment
