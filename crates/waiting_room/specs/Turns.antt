-- Whom a worker gets next, and what a stop leaves to the workers.
use Rattle.std.specs.Prelude.{◌≡◌, ◌⊎◌, ℕ, Bool, true, List, [], ◌∷◌, Some, slice_get}
use Rattle.waiting_room.specs.Counts.{MayComeIn}
use Rattle.waiting_room.specs.declared.client.Client as clients
use Rattle.waiting_room.specs.declared.places.Place.{Place}
use Rattle.waiting_room.specs.declared.places.Place.TheVariants.{Away}
use Rattle.waiting_room.specs.declared.room.Turn.{Turn}
use Rattle.waiting_room.specs.declared.room.Turn.TheVariants.{Client, Closed, Nobody}
use Rattle.waiting_room.specs.declared.stay.Stay.{Stay}
use Rattle.waiting_room.specs.declared.table.Table.{Table}

-- nobody gets a client any more: it was stopped, or no client is there and none may come
abbrev pub Ends : Table → Type 0
Ends table = (table.is_stopped ≡ true) ⊎ ((MayComeIn table → ⊥) × (table.clients ≡ 0))

-- the room's word that it ended, and why
abbrev pub IsClosedBy : Table → Turn → Type 0
IsClosedBy table (Closed end) = Ends table × (end.is_stopped ≡ table.is_stopped)
IsClosedBy table Nobody = ⊥
IsClosedBy table (Client at stay client) = ⊥

-- who is ready first is given, whether it was stopped or not
abbrev pub GivesOf : Table → List (ℕ × Stay × clients.Client) → Turn → Type 0
GivesOf table ((at, stay, client) ∷ rest) turn = turn ≡ Client at stay client
GivesOf table [] turn = IsClosedBy table turn ⊎ ((turn ≡ Nobody) × (Ends table → ⊥))

abbrev pub GivesTurn : Table → Turn → Type 0
GivesTurn table turn = GivesOf table table.places.ready turn

-- each place of a client who is away, as one whom a worker has, stays so
abbrev pub KeepsAway : {C : Type 0} → List (Place C) → List (Place C) → Type 0
KeepsAway before after = (at : ℕ) → (came : Bool) → slice_get before at ≡ Some (Away came) → slice_get after at ≡ Some (Away came)
