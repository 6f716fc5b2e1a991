-- A door in memory as contracts see it: its clients to come, the links that were left, and the accepts that fail.
use Rattle.std.specs.Prelude.{ℕ, List}
use Rattle.jk_io.specs.declared.traits.surroundings.Peer.{Peer}

-- the clients to come, the links that were left, how many still may be; the accepts that are to fail, how many there
-- were, and how many failed
pub record MemDoorState (C : Type 0) : Type 0 where
  pub coming : List (C × Peer)
  pub left : List C
  pub room : ℕ
  pub failing : List ℕ
  pub calls : ℕ
  pub faults : ℕ
