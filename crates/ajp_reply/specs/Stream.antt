-- The container's bytes as its messages, one after another, and which messages make a reply.
-- Lists of messages have the newest first.
use Rattle.std.specs.Prelude.{◌≡◌, ℕ, Bool, true, List, [], ◌∷◌, ◌++◌, Option, Some, None, IsSome, IsNone, IsTrue}
use Rattle.ajp_wire.specs.Packet.{IsPacket, IsPart}
use Rattle.ajp_reply.specs.declared.message.Message.{Message}
use Rattle.ajp_reply.specs.declared.message.Message.TheVariants.{Headers, Chunk, End, Ask, Pong}
use Rattle.ajp_reply.specs.declared.message.ReplyParts.{ReplyParts}
use Rattle.ajp_reply.specs.Spelling.{Spells}

-- A packet of at most this many bytes that spells a message.
pub record IsPacketOf (most : ℕ) (message : Message) (bytes : List ℕ) : Type 0 where
  pub payload : List ℕ
  pub packet : IsPacket true most payload bytes
  pub spelled : Spells message payload

-- The bytes are the packets of these messages, one after another, and nothing else.
abbrev pub Spelled : ℕ → List Message → List ℕ → Type 0
Spelled most [] bytes = bytes ≡ []
Spelled most (message ∷ past) bytes =
    (before : List ℕ) × (last : List ℕ) × Spelled most past before × IsPacketOf most message last × (bytes ≡ before ++ last)

-- The bytes are these messages, one after another, and then less than a whole packet.
pub record IsStream (most : ℕ) (past : List Message) (bytes rest : List ℕ) : Type 0 where
  pub came : List ℕ
  pub messages : Spelled most past came
  pub part : IsPart true most rest
  pub whole : bytes ≡ came ++ rest

-- Of these messages the earlier ones were known, and those that follow spell the bytes that came after them.
abbrev pub AreNextMessages : ℕ → List Message → List Message → List ℕ → Type 0
AreNextMessages most past all more = (later : List Message) × (all ≡ later ++ past) × Spelled most later more

-- The head among the messages, the newest where there are several.
abbrev pub head_of : List Message → Option ReplyParts
head_of [] = None
head_of (Headers parts ∷ past) = Some parts
head_of (Chunk bytes ∷ past) = head_of past
head_of (End reuse ∷ past) = head_of past
head_of (Ask most ∷ past) = head_of past
head_of (Pong ∷ past) = head_of past

-- The messages begin a reply: at most one head, which is a good one, chunks after it, asks anywhere.
abbrev pub IsFront : (ReplyParts → Bool) → List Message → Type 0
IsFront good [] = Unit {0}
IsFront good (Headers parts ∷ past) = IsNone (head_of past) × IsTrue (good parts) × IsFront good past
IsFront good (Chunk bytes ∷ past) = IsSome (head_of past) × IsFront good past
IsFront good (End reuse ∷ past) = ⊥
IsFront good (Ask most ∷ past) = IsFront good past
IsFront good (Pong ∷ past) = ⊥

-- The messages are a reply: a front with a head, and End Response after it.
abbrev pub IsForm : (ReplyParts → Bool) → List Message → Type 0
IsForm good [] = ⊥
IsForm good (Headers parts ∷ past) = ⊥
IsForm good (Chunk bytes ∷ past) = ⊥
IsForm good (End reuse ∷ past) = IsSome (head_of past) × IsFront good past
IsForm good (Ask most ∷ past) = ⊥
IsForm good (Pong ∷ past) = ⊥

-- However the bytes go on, they are no reply.
abbrev pub NoReply : (ReplyParts → Bool) → ℕ → List ℕ → Type 0
NoReply good most bytes = (more : List ℕ) (past : List Message) → Spelled most past (bytes ++ more) → IsForm good past → ⊥

-- No message begins so, however the bytes go on.
abbrev pub BeginsNoMessage : ℕ → List ℕ → Type 0
BeginsNoMessage most bytes =
    (more first behind : List ℕ) (message : Message) → IsPacketOf most message first → bytes ++ more ≡ first ++ behind → ⊥
