use Rattle.std.proofs.Common.{refl}
use Rattle.journal_verdict.proofs.segment.leave.Goals as goal

pub returns-in-Err : goal.returns-in-Err
returns-in-Err c = rw c.in-Err.is at c.in_ok-wrong.ensures

pub returns-in-Ok : goal.returns-in-Ok
returns-in-Ok c = (refl, rw c.in-Ok.is at c.in_ok-wrong.ensures)
