use Rattle.std.proofs.Common.{◌≡◌, drop}
use Rattle.status_worker.specs.Escapes.{has_good_escapes}
use Rattle.status_worker.proofs.escapes.has_good_escapes.Given as goal

abbrev pub invariant-loop-at : goal.invariant-loop-at
invariant-loop-at l = has_good_escapes (drop l.at l.part) ≡ has_good_escapes l.part
