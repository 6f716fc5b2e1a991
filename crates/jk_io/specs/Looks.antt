-- When a reach looks through its idle links, and what a rest makes of that.
use Rattle.std.specs.Prelude.{ℕ, ◌≡◌, ◌+◌, ◌^◌, ◌<◌, ◌≤◌, Option, Some, None}

-- the seconds between two looks, and the moment of the last one
pub record LookTimes : Type 0 where
  pub every : ℕ
  pub last : ℕ

-- so many seconds passed since then
pub record HavePassed (seconds since now : ℕ) : Type 0 where
  pub fits : since + seconds < 2 ^ 64
  pub passed : since + seconds ≤ now

-- If a look was due at this moment, it was done; else there was none. What never looks, or doesn't tell it, stays so.
abbrev pub LooksIfDue : Option LookTimes → ℕ → Option LookTimes → Type 0
LooksIfDue None now after = after ≡ None
LooksIfDue (Some before) now after =
    (HavePassed before.every before.last now → after ≡ Some (record before { last = now }))
    × ((HavePassed before.every before.last now → ⊥) → after ≡ Some before)
