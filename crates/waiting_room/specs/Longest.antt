-- Which of the clients in a room has waited longest in a phase, and so goes where too many wait.
use Rattle.std.specs.Prelude.{◌≡◌, ℕ, ◌<◌, ◌≤◌, ◌⊎◌, List, length, Option, Some, None, IsSome}
use Rattle.waiting_room.specs.Rooms.{stay_at}
use Rattle.waiting_room.specs.declared.stay.Stay.{Stay}
use Rattle.waiting_room.specs.declared.stay.Phase.{Phase}
use Rattle.waiting_room.specs.declared.stay.Phase.TheVariants.{Head, Between}
use Rattle.waiting_room.specs.declared.places.Place.{Place}

-- of the clients who wait in a phase at the first `count` places none has waited longer than the one at this place
pub record IsLongestIn {C : Type 0} (phase : Phase) (places : List (Place C)) (count at : ℕ) : Type 0 where
  pub stay : Stay
  pub within : at < count
  pub waits : stay_at places at ≡ Some stay
  pub in_phase : stay.phase ≡ phase
  pub first : (other : ℕ) → other < count → (its : Stay) → stay_at places other ≡ Some its → its.phase ≡ phase
      → stay.since ≤ its.since

-- the place of one who has waited longest in a phase; none where no client waits in it
abbrev pub LongestIn : {C : Type 0} → Phase → List (Place C) → (count : ℕ) → Option ℕ → Type 0
LongestIn phase places count (Some at) = IsLongestIn phase places count at
LongestIn phase places count None =
    (other : ℕ) → other < count → (its : Stay) → stay_at places other ≡ Some its → its.phase ≡ phase → ⊥

-- the place of the client who goes where too many wait: of those between two requests one who has waited longest; where there is
-- none, of those whose head isn't whole
abbrev pub GoesFirst : {C : Type 0} → List (Place C) → Option ℕ → Type 0
GoesFirst places answer = (IsSome answer × LongestIn Between places (length places) answer)
    ⊎ (LongestIn Between places (length places) None × LongestIn Head places (length places) answer)
