-- A desk that is lent, if one is: which it is, its state, its seat and its shelf.
use Rattle.std.specs.Prelude.{ℕ, [], Option, Some, None}
use Rattle.std.specs.Borrow.{MutBor}
use Rattle.lb_book.specs.Desks.{DeskState}
use Rattle.lb_shared.specs.Histories.{SeatNote, no_seat}
use Rattle.lb_shared.specs.SharedDesks.{shared_desk}
use Rattle.lb_shared.specs.Shelves.{ShelfNote, no_shelf}

-- which desk is lent, what it tells as each desk does, its seat, and its shelf
abbrev pub name_in : {B : Type 0} → Option (MutBor B) → ℕ
name_in None = 0
name_in (Some d) = d.ghost_name

abbrev pub state_in : {B : Type 0} → (B → DeskState) → Option (MutBor B) → DeskState
state_in state None = shared_desk [] 0 [] [] 0 0 0 0 None
state_in state (Some d) = state d.now

abbrev pub seat_in : {B : Type 0} → (B → SeatNote) → Option (MutBor B) → SeatNote
seat_in seat None = no_seat
seat_in seat (Some d) = seat d.now

abbrev pub shelf_in : {B : Type 0} → (B → ShelfNote) → Option (MutBor B) → ShelfNote
shelf_in shelf None = no_shelf
shelf_in shelf (Some d) = shelf d.now
