-- Rows that are stepped one after the other.
use Rattle.std.specs.Prelude.{◌≡◌, ℕ, ◌<◌, ◌≤◌, List, length, slice_index_or}
use Rattle.lb_rules.specs.declared.standing.Standing.{Standing}

-- The first n rows were stepped, and the others are as before.
pub record AreStepped (step : ℕ → Standing → Standing) (n : ℕ) (old new : List Standing) : Type 0 where
  pub whole : length new ≡ length old
  pub below : (m : ℕ) (d : Standing) → m < n → slice_index_or new m d ≡ step m (slice_index_or old m d)
  pub above : (m : ℕ) (d : Standing) → n ≤ m → slice_index_or new m d ≡ slice_index_or old m d
