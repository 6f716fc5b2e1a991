-- When a client has waited too long, and when all ends after a stop.
use Rattle.std.specs.Prelude.{◌≡◌, ℕ, ◌+◌, ◌*◌, ◌<◌, ◌≤◌, ◌⊎◌, ◌==◌, if◌then◌else◌, min, Option, Some, None}
use Rattle.waiting_room.specs.declared.stay.Limits.{Limits}
use Rattle.waiting_room.specs.declared.stay.Phase.{Phase}
use Rattle.waiting_room.specs.declared.stay.Phase.TheVariants.{Head, Between, Lingers}
use Rattle.waiting_room.specs.declared.stay.Stay.{Stay}

-- seconds as milliseconds, in a u64
abbrev pub millis_of : ℕ → ℕ
millis_of seconds = min (seconds * 1000) 18446744073709551615

-- a limit has passed since a moment; 0 is none
abbrev pub HasPassed : ℕ → ℕ → ℕ → Type 0
HasPassed since limit now = (0 < limit) × (since + limit ≤ now)

-- the head isn't whole in time, by its first byte or the accept; the next one doesn't begin in time; or it lingers for 2
-- seconds without a byte, or for 30 in all
abbrev pub IsOverIn : Phase → Limits → ℕ → ℕ → ℕ → Type 0
IsOverIn Head limits since last now = HasPassed since limits.head now
IsOverIn Between limits since last now = HasPassed since limits.keep now
IsOverIn Lingers limits since last now = (last + 2000 ≤ now) ⊎ (since + 30000 ≤ now)

abbrev pub IsOver : Limits → Stay → ℕ → Type 0
IsOver limits stay now = IsOverIn stay.phase limits stay.since stay.last now

-- the wait after a look at a client, of whose next head so many bytes came: that of a head goes on, whatever came, and that between
-- two requests ends with the first byte
abbrev pub stay_after : Phase → Stay → ℕ → ℕ → Stay
stay_after Head stay count now = stay
stay_after Between stay count now = if count == 0 then stay else record { phase = Head; since = now; last = now }
stay_after Lingers stay count now = stay

-- how long a wait lasted that is one between two requests
abbrev pub between_of : Phase → ℕ → Option ℕ
between_of Between lasted = Some lasted
between_of Head lasted = None
between_of Lingers lasted = None

-- when all ends after a stop at this moment, at which requests under way may take so many seconds
abbrev pub end_after : (now : ℕ) → (grace : ℕ) → ℕ
end_after now grace = min (now + millis_of grace) 18446744073709551615
