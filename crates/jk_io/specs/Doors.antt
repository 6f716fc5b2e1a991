-- A door at a moment, and how clients come from it and go back. Read this first.
use Rattle.std.specs.Prelude.{ℕ, ◌≡◌, ◌≤◌, ◌+◌, List, [], ◌∷◌, Option}
use Rattle.jk_io.specs.Told.{appended, prepended, IsEmpty, Rose}
use Rattle.jk_io.specs.declared.traits.surroundings.Peer.{Peer}
use Rattle.jk_io.specs.declared.arrivals.Arrival.{Arrival}
use Rattle.jk_io.specs.declared.arrivals.Arrival.TheVariants as arrival

-- The clients to come, each a link and its peer; the links that were left; and how often the door failed.
pub record DoorSide (C : Type 0) : Type 0 where
  pub coming : Option (List (C × Peer))
  pub left : Option (List C)
  pub faults : ℕ

-- a door at a moment, by what its type tells: `side D.coming D.left D.faults door`
abbrev pub side : {D C : Type 0} → (D → Option (List (C × Peer))) → (D → Option (List C)) → (D → ℕ) → D → DoorSide C
side coming left faults door = record { coming = coming door; left = left door; faults = faults door }

-- The next client came, and nothing else.
pub record Gives {C : Type 0} (before after : DoorSide C) (link : C) (peer : Peer) : Type 0 where
  pub client : before.coming ≡ prepended ((link, peer) ∷ []) after.coming
  pub left : after.left ≡ before.left
  pub faults : after.faults ≡ before.faults

-- No client came.
pub record GivesNone {C : Type 0} (before after : DoorSide C) : Type 0 where
  pub coming : after.coming ≡ before.coming
  pub left : after.left ≡ before.left
  pub no_fewer : before.faults ≤ after.faults

-- A door that answered so.
abbrev pub Arrives : {C : Type 0} → (before after : DoorSide C) → Arrival C → Type 0
Arrives before after (arrival.Client link peer) = Gives before after link peer
Arrives before after arrival.Closed = GivesNone before after × IsEmpty after.coming
Arrives before after arrival.Fault = GivesNone before after × Rose before.faults after.faults
Arrives before after arrival.NoMemory = GivesNone before after

-- how many links can be left after such an answer
abbrev pub room_after : {C : Type 0} → ℕ → Arrival C → ℕ
room_after room (arrival.Client link peer) = room + 1
room_after room arrival.Closed = room
room_after room arrival.Fault = room
room_after room arrival.NoMemory = room

-- These clients came, in order, and these links were left, in order.
pub record GaveAndGot {C : Type 0} (before after : DoorSide C) (clients : List (C × Peer)) (links : List C) : Type 0 where
  pub gave : before.coming ≡ prepended clients after.coming
  pub got : after.left ≡ appended before.left links
  pub no_fewer : before.faults ≤ after.faults

-- Each but maybe the last is so.
abbrev pub AllButLast : {T : Type 0} → (T → Type 0) → List T → Type 0
AllButLast P [] = Unit {0}
AllButLast P (x ∷ []) = Unit {0}
AllButLast P (x ∷ (y ∷ rest)) = P x × AllButLast P (y ∷ rest)
