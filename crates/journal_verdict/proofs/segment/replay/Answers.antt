use Rattle.journal_verdict.proofs.SegmentFacts.{leaves_wrong}
use Rattle.journal_verdict.proofs.segment.replay.Goals as goal

pub returns-in-Some : goal.returns-in-Some
returns-in-Some c = leaves_wrong _ _ _ _ _ (rw c.in-Some.is at c.in_ok-wrong.ensures)
