-- A talk as the container sees it: turn by turn, what came and what is owed for it.
use Rattle.std.specs.Prelude.{◌≡◌, ℕ, ◌+◌, ◌-◌, ◌<◌, ◌⊎◌, ◌&&◌, not, nat_le, Bool, true, false, IsTrue, List, [], ◌∷◌, ◌++◌, length, replicate, Option, Some, None, if◌then◌else◌}
use Rattle.ajp_wire.specs.Spelling.{int}
use Rattle.ajp_wire.specs.Packet.{packet, IsPacket}
use Rattle.ajp_request.specs.declared.forward.Forward.{Forward}
use Rattle.ajp_request.specs.Spelling.{SpellsForward}
use Rattle.ajp_reply.specs.declared.message.Message.{Message}
use Rattle.ajp_reply.specs.declared.message.Message.TheVariants.{Ask, Pong}
use Rattle.ajp_container.specs.declared.app_config.AppConfig.{AppConfig}
use Rattle.ajp_container.specs.Applications.{drops}
use Rattle.ajp_container.specs.Request.{application_of, content_length, has_first, asks_body}
use Rattle.ajp_container.specs.Answer.{answer_of, bytes_of}

-- How far the body of a request has come. Awaited: its first packet is still to come. Taken: the data of the first
-- packet, none where the request has none, and the data of those that answered the asks, the newest first.
pub data Body : Type 0 where
  Awaited : Body
  Taken : (first : List ℕ) (past : List (List ℕ)) → Body

-- A turn. Idle: nothing of it has come.
pub data ContainerTurn : Type 0 where
  Idle : ContainerTurn
  Ping : ContainerTurn
  Request : Forward → Body → ContainerTurn

-- the data so far, in the order in which they came
abbrev pub data_of : List ℕ → List (List ℕ) → List ℕ
data_of first [] = first
data_of first (piece ∷ past) = data_of first past ++ piece

-- the last ask was answered by the empty body packet
abbrev pub has_ended : List (List ℕ) → Bool
has_ended [] = false
has_ended ([] ∷ past) = true
has_ended ((byte ∷ piece) ∷ past) = false

-- as many bytes as the request names
abbrev pub is_enough : Option ℕ → ℕ → Bool
is_enough None len = false
is_enough (Some named) len = nat_le named len

-- The container asks for more of the body.
abbrev pub asks_on : AppConfig → Forward → List ℕ → List (List ℕ) → Bool
asks_on app forward first past =
    asks_body app forward && (not (has_ended past) && not (is_enough (content_length forward) (length (data_of first past))))

-- Each of these answers was asked for.
abbrev pub AskedFor : AppConfig → Forward → List ℕ → List (List ℕ) → Type 0
AskedFor app forward first [] = Unit {0}
AskedFor app forward first (piece ∷ past) = IsTrue (asks_on app forward first past) × AskedFor app forward first past

-- The body is asked for, and the container asks for no more of it.
abbrev pub WasAsked : AppConfig → Forward → List ℕ → List (List ℕ) → Type 0
WasAsked app forward first past = IsTrue (asks_body app forward) × (asks_on app forward first past ≡ false)

-- A payload is a body packet's: its length and its data, or nothing where nothing is left.
abbrev pub SpellsPiece : List ℕ → List ℕ → Type 0
SpellsPiece piece payload =
    ((length piece < 65536) × (payload ≡ int (length piece) ++ piece)) ⊎ ((piece ≡ []) × (payload ≡ []))

-- A packet to the container whose payload spells something.
pub record IsPacketSpelling (Spells : List ℕ → Type 0) (most : ℕ) (bytes : List ℕ) : Type 0 where
  pub payload : List ℕ
  pub packet : IsPacket false most payload bytes
  pub spelled : Spells payload

-- The answers to asks as they came.
abbrev pub CameAnswers : ℕ → List (List ℕ) → List ℕ → Type 0
CameAnswers most [] bytes = bytes ≡ []
CameAnswers most (piece ∷ past) bytes =
    (before : List ℕ) × (last : List ℕ) × CameAnswers most past before × IsPacketSpelling (SpellsPiece piece) most last × (bytes ≡ before ++ last)

-- The first body packet, where the request has one.
abbrev pub CameFirst : ℕ → Bool → List ℕ → List ℕ → Type 0
CameFirst most true first bytes = IsPacketSpelling (SpellsPiece first) most bytes
CameFirst most false first bytes = (first ≡ []) × (bytes ≡ [])

pub record CameTaken (app : AppConfig) (forward : Forward) (first : List ℕ) (past : List (List ℕ)) (bytes : List ℕ) : Type 0 where
  pub front : List ℕ
  pub answers : List ℕ
  pub begun : CameFirst app.packet (has_first forward) first front
  pub answered : CameAnswers app.packet past answers
  pub asked : AskedFor app forward first past
  pub whole : bytes ≡ front ++ answers

-- The bytes that came of a body.
abbrev pub CameBody : AppConfig → Forward → Body → List ℕ → Type 0
CameBody app forward Awaited bytes = IsTrue (has_first forward) × (bytes ≡ [])
CameBody app forward (Taken first past) bytes = CameTaken app forward first past bytes

-- The bytes that came of a turn.
abbrev pub Came : AppConfig → ContainerTurn → List ℕ → Type 0
Came app Idle bytes = bytes ≡ []
Came app Ping bytes = bytes ≡ packet false (10 ∷ [])
Came app (Request forward body) bytes =
    (head : List ℕ) × (behind : List ℕ) × IsPacketSpelling (SpellsForward forward) app.packet head × CameBody app forward body behind
    × (bytes ≡ head ++ behind)

-- Get Body Chunk, for as many bytes as a packet holds.
abbrev pub ask : AppConfig → Message
ask app = Ask (app.packet - 6)

-- The messages owed next for a body that was taken so far: a further ask, or the answer.
abbrev pub next : AppConfig → Forward → List ℕ → List (List ℕ) → List Message
next app forward first past =
    if asks_on app forward first past then ask app ∷ [] else answer_of app forward (data_of first past)

abbrev pub owed_for : AppConfig → Forward → Body → List Message
owed_for app forward Awaited = []
owed_for app forward (Taken first past) = replicate (length past) (ask app) ++ next app forward first past

-- The messages that the container owes for the bytes that came of a turn.
abbrev pub owed : AppConfig → ContainerTurn → List Message
owed app Idle = []
owed app Ping = Pong ∷ []
owed app (Request forward body) = owed_for app forward body

-- The container waits for a packet of the body.
abbrev pub awaits : AppConfig → Forward → Body → Bool
awaits app forward Awaited = true
awaits app forward (Taken first past) = asks_on app forward first past

-- The container waits for a packet.
abbrev pub waits : AppConfig → ContainerTurn → Bool
waits app Idle = true
waits app Ping = false
waits app (Request forward body) = awaits app forward body

-- The link is closed after what is owed.
abbrev pub is_dropped : AppConfig → ContainerTurn → Bool
is_dropped app Idle = false
is_dropped app Ping = false
is_dropped app (Request forward body) = not (awaits app forward body) && drops (application_of app forward)

-- A turn is over with what is owed: a CPing, or a request that isn't one of `/drop`.
abbrev pub is_over : AppConfig → ContainerTurn → Bool
is_over app Idle = false
is_over app Ping = true
is_over app (Request forward body) = not (awaits app forward body) && not (drops (application_of app forward))

-- Turns that are over, the newest first: what came, and what was sent for them, one after another.
abbrev pub Turns : AppConfig → List ContainerTurn → List ℕ → List ℕ → Type 0
Turns app [] came sent = (came ≡ []) × (sent ≡ [])
Turns app (turn ∷ past) came sent =
    (came_before : List ℕ) × (last : List ℕ) × (sent_before : List ℕ) × Turns app past came_before sent_before × IsTrue (is_over app turn)
    × Came app turn last × (came ≡ came_before ++ last) × (sent ≡ sent_before ++ bytes_of (owed app turn))

-- how many of the turns are requests
abbrev pub requests_in : List ContainerTurn → ℕ
requests_in [] = 0
requests_in (Idle ∷ past) = requests_in past
requests_in (Ping ∷ past) = requests_in past
requests_in (Request forward body ∷ past) = requests_in past + 1
