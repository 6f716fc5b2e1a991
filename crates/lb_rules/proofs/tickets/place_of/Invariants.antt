use Rattle.std.proofs.Common.{ℕ, List, ◌-◌, ◌<◌, ◌≤◌, length, get_or}
use Rattle.lb_rules.proofs.tickets.place_of.Given as goal

pub record IsBetween (xs : List (ℕ × ℕ)) (ticket low high : ℕ) : Type 0 where
  pub ordered : low ≤ high
  pub within : high ≤ length xs
  pub below : (i : ℕ) (d : ℕ × ℕ) → i < low → (get_or xs i d).0 < ticket
  pub above : (i : ℕ) (d : ℕ × ℕ) → high ≤ i → i < length xs → ticket < (get_or xs i d).0

abbrev pub invariant-loop-low : goal.invariant-loop-low
invariant-loop-low l = IsBetween l.tickets l.ticket l.low l.high

abbrev pub decreases-loop-low : goal.decreases-loop-low
decreases-loop-low l = l.high - l.low
