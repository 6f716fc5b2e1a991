use Rattle.journal_verdict.proofs.SegmentFacts.{leaves_from}
use Rattle.journal_verdict.proofs.segment.end_of.Goals as goal

pub returns : goal.returns
returns c =
    leaves_from c.in_ok-resume.field-0 c.args.rules c.args.opening c.args.entries.now c.args.count c.replay.result
    c.in_ok-resume.ensures.resumed c.replay.ensures
