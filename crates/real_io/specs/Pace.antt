-- How many bytes a client is to give or take, and when it has lost its link.
use Rattle.std.specs.Prelude.{◌≡◌, ℕ, ◌+◌, ◌*◌, ◌<◌, ◌≤◌, min}
use Rattle.real_io.specs.declared.pace.Pace.{Pace}

-- the bytes of 20 seconds at a rate a second, in a u64
abbrev pub least_of : ℕ → ℕ
least_of rate = min (rate * 20) 18446744073709551615

-- after more bytes went: where so many did, the 20 seconds begin anew
pub record PaceGoesOn (before : Pace) (count now : ℕ) (after : Pace) : Type 0 where
  pub anew : before.least ≤ before.went + count → after ≡ record before { since = now; went = 0 }
  pub on : before.went + count < before.least → after ≡ record before { went = before.went + count }

-- fewer bytes went than are to go in 20 seconds, and these are over
abbrev pub IsLost : Pace → ℕ → Type 0
IsLost pace now = (pace.went < pace.least) × (pace.since + 20000 ≤ now)
