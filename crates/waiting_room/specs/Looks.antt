-- A look at a client: the bytes that came of it before stand in front of those that come now.
use Rattle.std.specs.Prelude.{◌≡◌, ℕ, ◌≤◌, List, Option, Some, None, length, take}
use Rattle.real_io.specs.declared.tcp_link.TcpLink.{TcpLink}
use Rattle.waiting_room.specs.declared.door.Look.{Look}
use Rattle.waiting_room.specs.declared.door.Look.TheVariants.{Ready, Part, Gone}
use Rattle.waiting_room.specs.declared.stay.Phase.TheVariants.{Between}
use Rattle.waiting_room.specs.declared.stay.Stay.{Stay}

-- a client is quick whose next head was there within a millisecond of its last reply
abbrev pub IsQuick : Option ℕ → Type 0
IsQuick (Some millis) = millis ≤ 1
IsQuick None = ⊥

-- what is said of how long a client waited between two requests is said of such a wait alone
abbrev pub WaitedBetween : Stay → Option ℕ → Type 0
WaitedBetween stay (Some millis) = stay.phase ≡ Between
WaitedBetween stay None = Unit {0}

-- a client's link reads first the bytes that had come of it, as far as they have room
abbrev pub HasCome : (have : ℕ) → (came : List ℕ) → TcpLink → Type 0
HasCome have came link = (link.from ≡ 0) × (have ≤ link.to) × (take have link.ahead.items ≡ take have came)

-- no fewer bytes than before are there, the same ones first
abbrev pub SeesAfter : ℕ → Look → List ℕ → List ℕ → Type 0
SeesAfter have (Ready count) front buffer = (have ≤ count) × (count ≤ length buffer) × (take have buffer ≡ front)
SeesAfter have (Part count) front buffer = (have ≤ count) × (count ≤ length buffer) × (take have buffer ≡ front)
SeesAfter have Gone front buffer = Unit {0}
