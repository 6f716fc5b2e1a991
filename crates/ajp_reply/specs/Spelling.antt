-- Which payloads spell each message of the container, and how a message is written.
use Rattle.std.specs.Prelude.{◌≡◌, ℕ, ◌<◌, ◌≤◌, ◌==◌, ◌⊎◌, Bool, true, List, [], ◌∷◌, ◌++◌, length, codes, if◌then◌else◌}
use Rattle.ajp_wire.specs.Spelling.{int, string, SpellsText, SpellsHeaders}
use Rattle.ajp_wire.specs.Names.{headers_bytes, headers_as_read, FitsHeaders}
use Rattle.ajp_wire.specs.Packet.{FitsPacket}
use Rattle.ajp_reply.specs.declared.message.Message.{Message}
use Rattle.ajp_reply.specs.declared.message.Message.TheVariants.{Headers, Chunk, End, Ask, Pong}
use Rattle.ajp_reply.specs.declared.message.ReplyParts.{ReplyParts}

-- The names of a reply's headers that have a code: the first has A001, and the others follow in order.
abbrev pub reply_names : List (List ℕ)
reply_names =
    codes "Content-Type" ∷ codes "Content-Language" ∷ codes "Content-Length" ∷ codes "Date" ∷ codes "Last-Modified"
    ∷ codes "Location" ∷ codes "Set-Cookie" ∷ codes "Set-Cookie2" ∷ codes "Servlet-Engine" ∷ codes "Status"
    ∷ codes "WWW-Authenticate" ∷ []

-- Send Headers: 04, the status, the message, the number of headers, and the headers.
pub record SpellsHead (parts : ReplyParts) (payload : List ℕ) : Type 0 where
  pub message : List ℕ
  pub headers : List ℕ
  pub whole : payload ≡ 4 ∷ int parts.status ++ (message ++ (int (length parts.headers) ++ headers))
  pub status : parts.status < 65536
  pub text : SpellsText true parts.message message
  pub few : length parts.headers ≤ 100
  pub each : SpellsHeaders reply_names true parts.headers headers

-- Send Body Chunk: 03, the length, and the bytes, with a zero byte after them or without.
pub record SpellsChunk (bytes payload : List ℕ) : Type 0 where
  pub narrow : length bytes < 65536
  pub whole : (payload ≡ 3 ∷ int (length bytes) ++ (bytes ++ 0 ∷ [])) ⊎ (payload ≡ 3 ∷ int (length bytes) ++ bytes)

-- End Response: 05, and a byte that is 1 where the link may serve again.
pub record SpellsEnd (reuse : Bool) (payload : List ℕ) : Type 0 where
  pub byte : ℕ
  pub narrow : byte < 256
  pub whole : payload ≡ 5 ∷ byte ∷ []
  pub again : reuse ≡ (byte == 1)

-- A payload spells a message, to its last byte.
abbrev pub Spells : Message → List ℕ → Type 0
Spells (Headers parts) payload = SpellsHead parts payload
Spells (Chunk bytes) payload = SpellsChunk bytes payload
Spells (End reuse) payload = SpellsEnd reuse payload
Spells (Ask most) payload = (most < 65536) × (payload ≡ 6 ∷ int most)
Spells Pong payload = payload ≡ 9 ∷ []

-- The payload that is written for a message: names as codes wherever they have one, and a chunk with its zero byte.
abbrev pub payload_of : Message → List ℕ
payload_of (Headers parts) = 4 ∷ int parts.status ++ (string parts.message ++ (int (length parts.headers) ++ headers_bytes reply_names parts.headers))
payload_of (Chunk bytes) = 3 ∷ int (length bytes) ++ (bytes ++ 0 ∷ [])
payload_of (End reuse) = 5 ∷ (if reuse then 1 else 0) ∷ []
payload_of (Ask most) = 6 ∷ int most
payload_of Pong = 9 ∷ []

-- Each field fits its length.
abbrev pub FieldsFit : Message → Type 0
FieldsFit (Headers parts) = (length parts.message < 65535) × FitsHeaders parts.headers
FieldsFit (Chunk bytes) = length bytes < 65536
FieldsFit (End reuse) = Unit {0}
FieldsFit (Ask most) = Unit {0}
FieldsFit Pong = Unit {0}

-- A message that can be written into a packet of at most this many bytes.
pub record Fits (most : ℕ) (message : Message) : Type 0 where
  pub fields : FieldsFit message
  pub packet : FitsPacket most (payload_of message)

-- A message of the program: numbers are those of a u16, and at most 100 headers are there.
abbrev pub IsMessage : Message → Type 0
IsMessage (Headers parts) = (parts.status < 65536) × (length parts.headers ≤ 100)
IsMessage (Chunk bytes) = Unit {0}
IsMessage (End reuse) = Unit {0}
IsMessage (Ask most) = most < 65536
IsMessage Pong = Unit {0}

-- The message as it is read again: each coded name in its table's spelling.
abbrev pub as_read : Message → Message
as_read (Headers parts) = Headers (record { status = parts.status; message = parts.message; headers = headers_as_read reply_names parts.headers })
as_read (Chunk bytes) = Chunk bytes
as_read (End reuse) = End reuse
as_read (Ask most) = Ask most
as_read Pong = Pong

-- A payload spells some message.
abbrev pub IsSpelled : List ℕ → Type 0
IsSpelled payload = (message : Message) × Spells message payload

-- A payload begins as Send Headers does.
abbrev pub BeginsHead : List ℕ → Type 0
BeginsHead payload = (rest : List ℕ) × (payload ≡ 4 ∷ rest)

-- Reading takes memory: for the texts of a head, or for the data of a chunk.
abbrev pub TakesMemory : List ℕ → Type 0
TakesMemory payload = BeginsHead payload ⊎ ((bytes : List ℕ) × Spells (Chunk bytes) payload)
