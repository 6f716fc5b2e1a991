-- The places of a waiting room, and what its calls do with a client.
use Rattle.std.specs.Prelude.{◌≡◌, ℕ, ◌<◌, ◌⊎◌, List, [], ◌∷◌, ◌++◌, length, Some, None, Bool, true, false, slice_get, slice_set}
use Rattle.std.specs.Prelude.{Option, IfSome}
use Rattle.waiting_room.specs.declared.stay.Stay.{Stay}
use Rattle.waiting_room.specs.declared.places.Place.{Place}
use Rattle.waiting_room.specs.declared.places.Place.TheVariants.{Free, Waits, Away}

-- what contracts see of the places: each with the client that waits there, and those that are ready for a worker, in order,
-- each with the number of its place and its wait
pub record RoomState (C : Type 0) : Type 0 where
  pub places : List (Place C)
  pub ready : List (ℕ × Stay × C)

-- one place changed, and no other
pub record Changes {C : Type 0} (before : List (Place C)) (at : ℕ) (was is : Place C) (after : List (Place C)) : Type 0 where
  pub was_there : slice_get before at ≡ Some was
  pub is_there : after ≡ slice_set before at is

-- a free place was taken, or one more was made
abbrev pub TakesPlace : {C : Type 0} → List (Place C) → ℕ → Place C → List (Place C) → Type 0
TakesPlace before at is after = Changes before at Free is after ⊎ ((at ≡ length before) × (after ≡ before ++ is ∷ []))

-- the wait of the client who waits at a place
abbrev pub stay_in : {C : Type 0} → Option (Place C) → Option Stay
stay_in (Some (Waits stay client)) = Some stay
stay_in (Some (Away came)) = None
stay_in (Some Free) = None
stay_in None = None

abbrev pub stay_at : {C : Type 0} → List (Place C) → ℕ → Option Stay
stay_at places at = stay_in (slice_get places at)

-- the client of one place who is away is told no news of until now; all else stays
abbrev pub SeenAs : {C : Type 0} → Option (Place C) → List (Place C) → ℕ → List (Place C) → Type 0
SeenAs (Some (Away came)) before at after = after ≡ slice_set before at (Away false)
SeenAs (Some (Waits stay client)) before at after = after ≡ before
SeenAs (Some Free) before at after = after ≡ before
SeenAs None before at after = after ≡ before

abbrev pub IsLookedOver : {C : Type 0} → List (Place C) → ℕ → List (Place C) → Type 0
IsLookedOver before at after = SeenAs (slice_get before at) before at after

-- the client of one place who was away went; all else stays
abbrev pub FreedAs : {C : Type 0} → Option (Place C) → List (Place C) → ℕ → List (Place C) → Type 0
FreedAs (Some (Away came)) before at after = after ≡ slice_set before at Free
FreedAs (Some (Waits stay client)) before at after = after ≡ before
FreedAs (Some Free) before at after = after ≡ before
FreedAs None before at after = after ≡ before

abbrev pub IsFreed : {C : Type 0} → List (Place C) → ℕ → List (Place C) → Type 0
IsFreed before at after = FreedAs (slice_get before at) before at after

-- something came for a place: a client who waits there is ready now, as the last; of one who is away it is noted
abbrev pub StirsAs : {C : Type 0} → Option (Place C) → RoomState C → ℕ → RoomState C → Type 0
StirsAs (Some (Waits stay client)) before at after =
    (after.places ≡ slice_set before.places at (Away false)) × (after.ready ≡ before.ready ++ (at, stay, client) ∷ [])
StirsAs (Some (Away came)) before at after = (after.places ≡ slice_set before.places at (Away true)) × (after.ready ≡ before.ready)
StirsAs (Some Free) before at after = after ≡ before
StirsAs None before at after = after ≡ before

abbrev pub Stirs : {C : Type 0} → RoomState C → ℕ → RoomState C → Type 0
Stirs before at after = StirsAs (slice_get before.places at) before at after

-- a client came back who was away: it waits, or it is ready where something came since, and it is the same client
abbrev pub GivesBackAs : {C : Type 0} → Option (Place C) → RoomState C → ℕ → Stay → C → RoomState C → Type 0
GivesBackAs (Some (Away false)) before at stay client after =
    (after.places ≡ slice_set before.places at (Waits stay client)) × (after.ready ≡ before.ready)
GivesBackAs (Some (Away true)) before at stay client after =
    (after.places ≡ slice_set before.places at (Away false)) × (after.ready ≡ before.ready ++ (at, stay, client) ∷ [])
GivesBackAs (Some (Waits other kept)) before at stay client after = ⊥
GivesBackAs (Some Free) before at stay client after = ⊥
GivesBackAs None before at stay client after = ⊥

abbrev pub GivesBack : {C : Type 0} → RoomState C → ℕ → Stay → C → RoomState C → Type 0
GivesBack before at stay client after = GivesBackAs (slice_get before.places at) before at stay client after
