-- The steps of a turn: a packet that is taken, messages that are sent, a body that is read.
use Rattle.std.specs.Prelude.{◌≡◌, ℕ, ◌⊎◌, Bool, true, false, IsTrue, List, [], ◌∷◌, ◌++◌, length, replicate, Option, Some, None, Result, Ok, Err}
use Rattle.jk_io.specs.Told.{PutsFront}
use Rattle.ajp_wire.specs.Packet.{IsPacket, HasCome}
use Rattle.ajp_wire.specs.declared.errors.PacketError.{PacketError}
use Rattle.ajp_wire.specs.declared.errors.PacketError.TheVariants as packets
use Rattle.ajp_wire.specs.declared.errors.DecodeError.{DecodeError}
use Rattle.ajp_wire.specs.declared.errors.DecodeError.TheVariants as errors
use Rattle.ajp_request.specs.declared.forward.Forward.{Forward}
use Rattle.ajp_request.specs.Spelling.{SpellsForward}
use Rattle.ajp_reply.specs.declared.message.Message.{Message}
use Rattle.ajp_container.specs.declared.app_config.AppConfig.{AppConfig}
use Rattle.ajp_container.specs.declared.ends.BadPacket.TheVariants.{Code, Magic, TooLong, Request as BadRequest}
use Rattle.ajp_container.specs.declared.ends.Stopped.{Stopped}
use Rattle.ajp_container.specs.declared.ends.Stopped.TheVariants.{Bad, Closed, LinkFault, NoMemory, Truncated}
use Rattle.ajp_container.specs.declared.serving.TurnKind.{TurnKind}
use Rattle.ajp_container.specs.declared.serving.TurnKind.TheVariants as kinds
use Rattle.ajp_container.specs.Request.{has_first}
use Rattle.ajp_container.specs.Answer.{bytes_of}
use Rattle.ajp_container.specs.Turns.{Body, ContainerTurn, Idle, Ping, Request, SpellsPiece, IsPacketSpelling, CameAnswers, AskedFor, CameFirst, CameTaken, CameBody, Came, data_of, asks_on, ask, owed_for, owed, is_over}
use Rattle.jk_io.specs.Moments.{Moment}
use Rattle.ajp_container.specs.Ends.{Goes, TurnPlace, Between, Within, IsRefusedPacket, EndsReading, EndsSending, Stops, StopsWithin, StopsInTurn}

-- A packet was taken.
pub record TookPacket (most : ℕ) (before after : Moment) (payload : List ℕ) : Type 0 where
  pub bytes : List ℕ
  pub packet : IsPacket false most payload bytes
  pub goes : Goes before after bytes []

-- No packet was taken.
pub record NotTaken (most : ℕ) (place : TurnPlace) (before after : Moment) (stop : Stopped) : Type 0 where
  pub bytes : List ℕ
  pub comes : HasCome before after bytes
  pub sent : after.sent ≡ before.sent
  pub why : EndsReading most place before after bytes stop

-- Why the container stops where a read of a packet gave none.
abbrev pub stop_missed : PacketError → Stopped
stop_missed (packets.End count) = Closed
stop_missed (packets.Short count) = Truncated
stop_missed (packets.BadMagic count) = Bad Magic
stop_missed (packets.TooLong count) = Bad TooLong
stop_missed (packets.Fault count) = LinkFault
stop_missed (packets.NoMemory count) = NoMemory

abbrev pub TakesPacket : ℕ → TurnPlace → Moment → Moment → Result (List ℕ) Stopped → Type 0
TakesPacket most place before after (Ok payload) = TookPacket most before after payload
TakesPacket most place before after (Err stop) = NotTaken most place before after stop

-- A body packet was taken, and its data added to those before.
pub record TookPiece (most : ℕ) (body : List ℕ) (before after : Moment) (body_after : List ℕ) (len : ℕ) : Type 0 where
  pub piece : List ℕ
  pub bytes : List ℕ
  pub packet : IsPacketSpelling (SpellsPiece piece) most bytes
  pub added : body_after ≡ body ++ piece
  pub counted : len ≡ length piece
  pub goes : Goes before after bytes []

abbrev pub TakesPiece : ℕ → List ℕ → Moment → Moment → List ℕ → Result ℕ Stopped → Type 0
TakesPiece most body before after body_after (Ok len) = TookPiece most body before after body_after len
TakesPiece most body before after body_after (Err stop) = NotTaken most Within before after stop

-- Not all of some bytes was sent.
pub record NotSent (going : List ℕ) (before after : Moment) (stop : Stopped) : Type 0 where
  pub comes : HasCome before after []
  pub front : PutsFront before.sent after.sent going
  pub why : EndsSending before after stop

abbrev pub Sends : {T : Type 0} → List ℕ → Moment → Moment → Result T Stopped → Type 0
Sends going before after (Ok _) = Goes before after [] going
Sends going before after (Err stop) = NotSent going before after stop

-- The first body packet was taken, where the request has one.
pub record TookFirstPacket (app : AppConfig) (forward : Forward) (before after : Moment) (first : List ℕ) : Type 0 where
  pub bytes : List ℕ
  pub begun : CameFirst app.packet (has_first forward) first bytes
  pub goes : Goes before after bytes []

abbrev pub TakesFirst : AppConfig → Forward → Moment → Moment → Result (List ℕ) Stopped → Type 0
TakesFirst app forward before after (Ok first) = TookFirstPacket app forward before after first
TakesFirst app forward before after (Err stop) = IsTrue (has_first forward) × NotTaken app.packet Within before after stop

-- one ask for each answer
abbrev pub asks : AppConfig → List (List ℕ) → List Message
asks app past = replicate (length past) (ask app)

-- Answers to asks came, and each was asked for.
pub record AnsweredAsks (app : AppConfig) (forward : Forward) (first : List ℕ) (before after : Moment) (past : List (List ℕ)) : Type 0 where
  pub bytes : List ℕ
  pub came : CameAnswers app.packet past bytes
  pub asked : AskedFor app forward first past
  pub goes : Goes before after bytes (bytes_of (asks app past))

-- The rest of the body was asked for, as far as the container asks for it.
pub record TookRest (app : AppConfig) (forward : Forward) (first : List ℕ) (before after : Moment) (body : List ℕ) : Type 0 where
  pub past : List (List ℕ)
  pub asked : AnsweredAsks app forward first before after past
  pub all : asks_on app forward first past ≡ false
  pub body_is : body ≡ data_of first past

-- The rest of the body couldn't be had.
pub record StopsAsking (app : AppConfig) (forward : Forward) (first : List ℕ) (before after : Moment) (stop : Stopped) : Type 0 where
  pub past : List (List ℕ)
  pub bytes : List ℕ
  pub rest : List ℕ
  pub came : CameAnswers app.packet past bytes
  pub asked : AskedFor app forward first past
  pub comes : HasCome before after (bytes ++ rest)
  pub more : asks_on app forward first past ≡ true
  pub stops : Stops app.packet Within true false (bytes_of (asks app past ++ ask app ∷ [])) before after rest stop

-- The answer of a step that adds to bytes that its caller lends: these bytes, or why it stopped.
abbrev pub taken_into : Result Unit Stopped → List ℕ → Result (List ℕ) Stopped
taken_into (Ok done) bytes = Ok bytes
taken_into (Err stop) bytes = Err stop

abbrev pub TakesRest : AppConfig → Forward → List ℕ → Moment → Moment → Result (List ℕ) Stopped → Type 0
TakesRest app forward first before after (Ok body) = TookRest app forward first before after body
TakesRest app forward first before after (Err stop) = StopsAsking app forward first before after stop

-- The body was taken, as far as the container asks for it.
pub record TookBody (app : AppConfig) (forward : Forward) (before after : Moment) (body : List ℕ) : Type 0 where
  pub first : List ℕ
  pub past : List (List ℕ)
  pub bytes : List ℕ
  pub came : CameTaken app forward first past bytes
  pub all : asks_on app forward first past ≡ false
  pub body_is : body ≡ data_of first past
  pub goes : Goes before after bytes (bytes_of (asks app past))

abbrev pub TakesBody : AppConfig → Forward → Moment → Moment → Result (List ℕ) Stopped → Type 0
TakesBody app forward before after (Ok body) = TookBody app forward before after body
TakesBody app forward before after (Err stop) = StopsWithin app forward before after stop

-- A request was served whole, after its Forward Request.
pub record ServedWhole (app : AppConfig) (forward : Forward) (before after : Moment) : Type 0 where
  pub body : Body
  pub bytes : List ℕ
  pub came : CameBody app forward body bytes
  pub over : IsTrue (is_over app (Request forward body))
  pub goes : Goes before after bytes (bytes_of (owed_for app forward body))

abbrev pub ServesForward : {T : Type 0} → AppConfig → Forward → Moment → Moment → Result T Stopped → Type 0
ServesForward app forward before after (Ok _) = ServedWhole app forward before after
ServesForward app forward before after (Err stop) = StopsWithin app forward before after stop

-- what a payload that begins with 02 reads as
abbrev pub ReadsForward : List ℕ → Result Forward Stopped → Type 0
ReadsForward payload (Ok forward) = SpellsForward forward payload
ReadsForward payload (Err stop) = ((stop ≡ Bad BadRequest) × ((forward : Forward) → SpellsForward forward payload → ⊥)) ⊎ (stop ≡ NoMemory)

-- by the refusal of a Forward Request
abbrev pub stop_of : DecodeError → Stopped
stop_of (errors.Short at) = Bad BadRequest
stop_of (errors.BadCode at) = Bad BadRequest
stop_of (errors.BadMark at) = Bad BadRequest
stop_of (errors.BadBoolean at) = Bad BadRequest
stop_of (errors.Extra at) = Bad BadRequest
stop_of (errors.TooMany at) = Bad BadRequest
stop_of (errors.Absent at) = Bad BadRequest
stop_of errors.NoMemory = NoMemory

abbrev pub requests_of : TurnKind → ℕ
requests_of kinds.Ping = 0
requests_of kinds.Request = 1

abbrev pub is_request : ContainerTurn → Bool
is_request Idle = false
is_request Ping = false
is_request (Request forward body) = true

abbrev pub kind_of : Bool → TurnKind
kind_of false = kinds.Ping
kind_of true = kinds.Request

-- Which turn a payload begins.
abbrev pub IsBegun : List ℕ → Option TurnKind → Type 0
IsBegun payload (Some kinds.Ping) = payload ≡ 10 ∷ []
IsBegun payload (Some kinds.Request) = (rest : List ℕ) × (payload ≡ 2 ∷ rest)
IsBegun payload None = IsRefusedPacket Between Code payload

-- A turn is over: what came of it, and all that is owed for it was sent.
pub record TookTurn (app : AppConfig) (before after : Moment) (kind : TurnKind) : Type 0 where
  pub turn : ContainerTurn
  pub bytes : List ℕ
  pub came : Came app turn bytes
  pub over : IsTrue (is_over app turn)
  pub goes : Goes before after bytes (bytes_of (owed app turn))
  pub kind_is : kind ≡ kind_of (is_request turn)

abbrev pub TakesTurn : AppConfig → Moment → Moment → Result TurnKind Stopped → Type 0
TakesTurn app before after (Ok kind) = TookTurn app before after kind
TakesTurn app before after (Err stop) = StopsInTurn app before after stop

-- The turn that a request is, where it was served.
abbrev pub turn_after : Result Unit Stopped → Result TurnKind Stopped
turn_after (Ok done) = Ok kinds.Request
turn_after (Err stop) = Err stop
