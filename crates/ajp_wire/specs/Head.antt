-- The head of a packet that is read, and the payload after it.
use Rattle.std.specs.Prelude.{◌≡◌, ℕ, ◌+◌, ◌<◌, ◌≤◌, ◌==◌, ◌&&◌, Bool, true, false, List, [], ◌∷◌, length, Result, Ok, Err}
use Rattle.ajp_wire.specs.declared.errors.PacketError.{PacketError}
use Rattle.ajp_wire.specs.declared.errors.PacketError.TheVariants.{End, Short, BadMagic, TooLong, Fault, NoMemory}
use Rattle.ajp_wire.specs.Packet.{head, CameAs, count_of}

-- As far as they go, the bytes are those that begin a packet.
abbrev pub begins_packet : Bool → List ℕ → Bool
begins_packet from_container [] = true
begins_packet true (a ∷ []) = a == 65
begins_packet true (a ∷ b ∷ bytes) = (a == 65) && (b == 66)
begins_packet false (a ∷ []) = a == 18
begins_packet false (a ∷ b ∷ bytes) = (a == 18) && (b == 52)

-- A head that announces a payload within the limit.
pub record IsHead (from_container : Bool) (most size : ℕ) (bytes : List ℕ) : Type 0 where
  pub whole : bytes ≡ head from_container size
  pub narrow : size < 65536
  pub within : size + 4 ≤ most

abbrev pub HeadCameAs : Bool → ℕ → Result ℕ PacketError → List ℕ → Type 0
HeadCameAs from_container most (Ok size) bytes = IsHead from_container most size bytes
HeadCameAs from_container most (Err error) bytes = CameAs from_container most (Err error) bytes × (count_of (Err error) ≡ length bytes)

-- A payload that lacks bytes, and the count of those that came with its head.
pub record Lacks (size count : ℕ) (bytes : List ℕ) : Type 0 where
  pub short : length bytes < size
  pub counted : count ≡ length bytes + 4

abbrev pub PayloadCameAs : ℕ → Result (List ℕ) PacketError → List ℕ → Type 0
PayloadCameAs size (Ok payload) bytes = (bytes ≡ payload) × (length payload ≡ size)
PayloadCameAs size (Err (End count)) bytes = ⊥
PayloadCameAs size (Err (Short count)) bytes = Lacks size count bytes
PayloadCameAs size (Err (BadMagic count)) bytes = ⊥
PayloadCameAs size (Err (TooLong count)) bytes = ⊥
PayloadCameAs size (Err (Fault count)) bytes = Lacks size count bytes
PayloadCameAs size (Err (NoMemory count)) bytes = Lacks size count bytes
