-- How long a link waits for its client, to say whether it waits.
use Rattle.std.specs.Prelude.{◌≡◌, ℕ, ◌+◌, ◌≤◌, ◌⊎◌, Option, None}

-- a look is brief: it waits 10 milliseconds at most, 2,560 in all, and not at all where it isn't told whether workers are free
pub record IsBrief {L : Type 0} (leisure : Option L) (before after : ℕ) : Type 0 where
  pub brief : after ≤ before + 10
  pub few : after ≤ 2560 ⊎ (after ≡ before)
  pub untold : leisure ≡ None → after ≡ before
