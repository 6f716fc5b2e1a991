-- Packets each way, and what the bytes are that a read of one packet took.
use Rattle.std.specs.Prelude.{◌≡◌, ℕ, ◌+◌, ◌<◌, ◌≤◌, Bool, true, false, List, [], ◌∷◌, ◌++◌, length, Result, Ok, Err}
use Rattle.jk_io.specs.Moments.{Moment}
use Rattle.jk_io.specs.Told.{appended, prepended}
use Rattle.ajp_wire.specs.Spelling.{int}
use Rattle.ajp_wire.specs.declared.errors.PacketError.{PacketError}
use Rattle.ajp_wire.specs.declared.errors.PacketError.TheVariants.{End, Short, BadMagic, TooLong, Fault, NoMemory}

-- The two bytes that begin a packet: 12 34 to the container, 41 42 from it.
abbrev pub magic : Bool → List ℕ
magic true = 65 ∷ 66 ∷ []
magic false = 18 ∷ 52 ∷ []

-- The four bytes in front of a payload of this length.
abbrev pub head : Bool → ℕ → List ℕ
head from_container size = magic from_container ++ int size

abbrev pub packet : Bool → List ℕ → List ℕ
packet from_container payload = head from_container (length payload) ++ payload

-- A packet of this payload has at most this many bytes, and its length fits an integer.
pub record FitsPacket (most : ℕ) (payload : List ℕ) : Type 0 where
  pub within : length payload + 4 ≤ most
  pub narrow : length payload < 65536

-- The one packet of this payload.
pub record IsPacket (from_container : Bool) (most : ℕ) (payload bytes : List ℕ) : Type 0 where
  pub whole : bytes ≡ packet from_container payload
  pub fits : FitsPacket most payload

-- Less than a whole packet: more bytes complete one, and where its length has come it is within the limit.
pub record IsPart (from_container : Bool) (most : ℕ) (bytes : List ℕ) : Type 0 where
  pub payload : List ℕ
  pub more : List ℕ
  pub goes_on : bytes ++ more ≡ packet from_container payload
  pub lacking : 0 < length more
  pub narrow : length payload < 65536
  pub within : 4 ≤ length bytes → length payload + 4 ≤ most

-- No packet begins so, however the bytes go on.
abbrev pub IsNoPacket : Bool → List ℕ → Type 0
IsNoPacket from_container bytes = (more payload rest : List ℕ) → bytes ++ more ≡ packet from_container payload ++ rest → ⊥

-- The head of a packet that is longer than the limit.
pub record IsTooLong (from_container : Bool) (most : ℕ) (bytes : List ℕ) : Type 0 where
  pub size : ℕ
  pub narrow : size < 65536
  pub head_alone : bytes ≡ head from_container size
  pub above : most < size + 4

-- Bytes that are no packet: at most the four of a head came.
pub record IsBad (from_container : Bool) (bytes : List ℕ) : Type 0 where
  pub begins_none : IsNoPacket from_container bytes
  pub no_more_than_head : length bytes ≤ 4

-- The bytes that came, for each answer.
abbrev pub CameAs : Bool → ℕ → Result (List ℕ) PacketError → List ℕ → Type 0
CameAs from_container most (Ok payload) bytes = IsPacket from_container most payload bytes
CameAs from_container most (Err (End count)) bytes = bytes ≡ []
CameAs from_container most (Err (Short count)) bytes = (0 < length bytes) × IsPart from_container most bytes
CameAs from_container most (Err (BadMagic count)) bytes = IsBad from_container bytes
CameAs from_container most (Err (TooLong count)) bytes = IsTooLong from_container most bytes
CameAs from_container most (Err (Fault count)) bytes = IsPart from_container most bytes
CameAs from_container most (Err (NoMemory count)) bytes = IsPart from_container most bytes

-- The bytes ended, as an answer says.
abbrev pub says_end : PacketError → Bool
says_end (End count) = true
says_end (Short count) = true
says_end (BadMagic count) = false
says_end (TooLong count) = false
says_end (Fault count) = false
says_end (NoMemory count) = false

-- The link failed, as an answer says.
abbrev pub says_fault : PacketError → Bool
says_fault (End count) = false
says_fault (Short count) = false
says_fault (BadMagic count) = false
says_fault (TooLong count) = false
says_fault (Fault count) = true
says_fault (NoMemory count) = false

-- No read of the link failed, as an answer says. Where the bytes begin no packet, one after them may have.
abbrev pub says_calm : PacketError → Bool
says_calm (End count) = true
says_calm (Short count) = true
says_calm (BadMagic count) = false
says_calm (TooLong count) = true
says_calm (Fault count) = false
says_calm (NoMemory count) = true

-- How many bytes an answer says that came.
abbrev pub count_of : Result (List ℕ) PacketError → ℕ
count_of (Ok payload) = length payload + 4
count_of (Err (End count)) = count
count_of (Err (Short count)) = count
count_of (Err (BadMagic count)) = count
count_of (Err (TooLong count)) = count
count_of (Err (Fault count)) = count
count_of (Err (NoMemory count)) = count

-- These bytes came on a link: they were the next ones to come, and are the last ones received.
pub record HasCome (before after : Moment) (bytes : List ℕ) : Type 0 where
  pub used : before.incoming ≡ prepended bytes after.incoming
  pub kept : after.received ≡ appended before.received bytes

-- The answer of a read into a buffer, with the payload that the buffer has after it.
abbrev pub read_into : Result Unit PacketError → List ℕ → Result (List ℕ) PacketError
read_into (Ok done) payload = Ok payload
read_into (Err error) payload = Err error

-- One read of a packet: the bytes that came, what they are, and that the answer counts them.
pub record ReadsPacket (from_container : Bool) (most : ℕ) (result : Result (List ℕ) PacketError) (before after : Moment) : Type 0 where
  pub bytes : List ℕ
  pub came : HasCome before after bytes
  pub are : CameAs from_container most result bytes
  pub counted : count_of result ≡ length bytes

-- More bytes than the length of a payload can say.
abbrev pub IsLongPayload : List ℕ → Type 0
IsLongPayload payload = 65535 < length payload

-- More data than a body packet has: the greatest packet has 65,536 bytes, and 6 of them stand before the data.
abbrev pub IsLongPiece : List ℕ → Type 0
IsLongPiece piece = 65530 < length piece

-- The payload of a body packet: nothing where there is no more body, else its length and its bytes.
abbrev pub body_payload : List ℕ → List ℕ
body_payload [] = []
body_payload (byte ∷ bytes) = int (length (byte ∷ bytes)) ++ byte ∷ bytes

abbrev pub body_packet : List ℕ → List ℕ
body_packet piece = packet false (body_payload piece)
