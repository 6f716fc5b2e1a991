-- The pair isn't among those that were looked at, from the end.
use Rattle.std.proofs.Common.{◌≡◌, ◌-◌, false, length, drop}
use Rattle.lb_book.specs.Desks.{holds}
use Rattle.lb_shared.proofs.stake.last_place.Given as goal

abbrev pub invariant-loop-back : goal.invariant-loop-back
invariant-loop-back l = holds (drop (length l.held - l.back) l.held) l.pair ≡ false
