-- Why the container stops where it does, and how the talk ends by that.
use Rattle.std.specs.Prelude.{◌≡◌, ◌≢◌, ℕ, ◌<◌, ◌≤◌, ◌⊎◌, Bool, false, IsTrue, List, [], ◌∷◌, ◌++◌, length, Option}
use Rattle.jk_io.specs.Told.{appended, IsEmpty, Rose, PutsFront}
use Rattle.jk_io.specs.Moments.{Moment}
use Rattle.ajp_wire.specs.Packet.{IsPacket, IsPart, IsBad, IsTooLong, HasCome}
use Rattle.ajp_request.specs.declared.forward.Forward.{Forward}
use Rattle.ajp_request.specs.Spelling.{SpellsForward}
use Rattle.ajp_container.specs.declared.app_config.AppConfig.{AppConfig}
use Rattle.ajp_container.specs.declared.ends.ContainerEnd.{ContainerEnd}
use Rattle.ajp_container.specs.declared.ends.ContainerEnd.TheVariants as ends
use Rattle.ajp_container.specs.declared.ends.BadPacket.{BadPacket}
use Rattle.ajp_container.specs.declared.ends.BadPacket.TheVariants.{Magic, TooLong, Code, Request as BadRequest, Piece}
use Rattle.ajp_container.specs.declared.ends.Stopped.{Stopped}
use Rattle.ajp_container.specs.declared.ends.Stopped.TheVariants.{Closed, Dropped, LinkFault, Truncated, Bad, NoMemory}
use Rattle.ajp_container.specs.Answer.{bytes_of}
use Rattle.ajp_container.specs.Turns.{Body, ContainerTurn, Idle, Ping, Request, SpellsPiece, CameBody, Came, owed_for, owed, awaits, waits, is_dropped, Turns, requests_in}

abbrev pub code_of : BadPacket → ℕ
code_of Magic = 1
code_of TooLong = 2
code_of Code = 3
code_of BadRequest = 4
code_of Piece = 5

abbrev pub end_of : ℕ → Stopped → ContainerEnd
end_of requests Closed = ends.Closed requests
end_of requests Dropped = ends.Dropped
end_of requests LinkFault = ends.LinkFault
end_of requests Truncated = ends.Truncated
end_of requests (Bad bad) = ends.BadPacket (code_of bad)
end_of requests NoMemory = ends.NoMemory

-- Between two moments some bytes came, and others were sent. No call of the link failed.
pub record Goes (before after : Moment) (coming going : List ℕ) : Type 0 where
  pub came : HasCome before after coming
  pub sent : after.sent ≡ appended before.sent going
  pub steady : after.faults ≡ before.faults

-- Whether a body packet is awaited, or a turn.
pub data TurnPlace : Type 0 where
  Between : TurnPlace
  Within : TurnPlace

-- Which payloads can't be taken at a place, by the answer.
abbrev pub IsRefusedPacket : TurnPlace → BadPacket → List ℕ → Type 0
IsRefusedPacket place Magic payload = ⊥
IsRefusedPacket place TooLong payload = ⊥
IsRefusedPacket Between Code payload = (payload ≢ 10 ∷ []) × ((rest : List ℕ) → payload ≢ 2 ∷ rest)
IsRefusedPacket Between BadRequest payload =
    ((rest : List ℕ) × (payload ≡ 2 ∷ rest)) × ((forward : Forward) → SpellsForward forward payload → ⊥)
IsRefusedPacket Between Piece payload = ⊥
IsRefusedPacket Within Code payload = ⊥
IsRefusedPacket Within BadRequest payload = ⊥
IsRefusedPacket Within Piece payload = (piece : List ℕ) → SpellsPiece piece payload → ⊥

-- The bytes of a packet that can't be taken: too few to be one, the head of one that is too long, or one whole.
abbrev pub IsBadBy : ℕ → TurnPlace → BadPacket → List ℕ → Type 0
IsBadBy most place Magic bytes = IsBad false bytes
IsBadBy most place TooLong bytes = IsTooLong false most bytes
IsBadBy most place Code bytes = (payload : List ℕ) × IsPacket false most payload bytes × IsRefusedPacket place Code payload
IsBadBy most place BadRequest bytes = (payload : List ℕ) × IsPacket false most payload bytes × IsRefusedPacket place BadRequest payload
IsBadBy most place Piece bytes = (payload : List ℕ) × IsPacket false most payload bytes × IsRefusedPacket place Piece payload

-- No more than a packet.
abbrev pub IsPacketFront : ℕ → List ℕ → Type 0
IsPacketFront most bytes = IsPart false most bytes ⊎ ((payload : List ℕ) × IsPacket false most payload bytes)

-- Why a packet, of which these bytes came, wasn't taken. For want of memory no call of the link failed.
abbrev pub EndsReading : ℕ → TurnPlace → Moment → Moment → List ℕ → Stopped → Type 0
EndsReading most place before after bytes Closed = (bytes ≡ []) × IsEmpty after.incoming
EndsReading most place before after bytes Dropped = ⊥
EndsReading most place before after bytes LinkFault = Rose before.faults after.faults × IsPart false most bytes
EndsReading most place before after bytes Truncated = (0 < length bytes) × IsPart false most bytes × IsEmpty after.incoming
EndsReading most place before after bytes (Bad bad) = IsBadBy most place bad bytes
EndsReading most place before after bytes NoMemory = IsPacketFront most bytes × (after.faults ≡ before.faults)

-- Why something wasn't sent whole. For want of memory no call of the link failed.
abbrev pub EndsSending : Moment → Moment → Stopped → Type 0
EndsSending before after Closed = ⊥
EndsSending before after Dropped = ⊥
EndsSending before after LinkFault = Rose before.faults after.faults
EndsSending before after Truncated = ⊥
EndsSending before after (Bad bad) = ⊥
EndsSending before after NoMemory = after.faults ≡ before.faults

-- A packet was awaited, with all sent that was owed before it.
pub record StopsAwaiting (most : ℕ) (place : TurnPlace) (waiting : Bool) (going : List ℕ) (before after : Moment) (rest : List ℕ) (stop : Stopped) : Type 0 where
  pub waits : IsTrue waiting
  pub sent : after.sent ≡ appended before.sent going
  pub why : EndsReading most place before after rest stop

-- A front of what was owed was sent.
pub record StopsSending (going : List ℕ) (before after : Moment) (rest : List ℕ) (stop : Stopped) : Type 0 where
  pub none : rest ≡ []
  pub front : PutsFront before.sent after.sent going
  pub why : EndsSending before after stop

-- All was sent, and the link is to be closed.
pub record StopsDropped (dropped : Bool) (going : List ℕ) (before after : Moment) (rest : List ℕ) (stop : Stopped) : Type 0 where
  pub none : rest ≡ []
  pub drops : IsTrue dropped
  pub sent : after.sent ≡ appended before.sent going
  pub why : stop ≡ Dropped

-- Where the container owes these bytes, it stops before the next packet is taken, before all is sent, or by `/drop`.
abbrev pub Stops : ℕ → TurnPlace → Bool → Bool → List ℕ → Moment → Moment → List ℕ → Stopped → Type 0
Stops most place waiting dropped going before after rest stop =
    StopsAwaiting most place waiting going before after rest stop
    ⊎ (StopsSending going before after rest stop ⊎ StopsDropped dropped going before after rest stop)

-- Whether the link is to be closed after a body that was taken so far.
abbrev pub drops_at : AppConfig → Forward → Body → Bool
drops_at app forward body = is_dropped app (Request forward body)

-- The container stopped within a body: what came of it, and after that of a further packet.
pub record StopsWithin (app : AppConfig) (forward : Forward) (before after : Moment) (stop : Stopped) : Type 0 where
  pub body : Body
  pub front : List ℕ
  pub rest : List ℕ
  pub came : CameBody app forward body front
  pub comes : HasCome before after (front ++ rest)
  pub stops : Stops app.packet Within (awaits app forward body) (drops_at app forward body) (bytes_of (owed_for app forward body)) before after rest stop

abbrev pub place_of : ContainerTurn → TurnPlace
place_of Idle = Between
place_of Ping = Between
place_of (Request forward body) = Within

-- The container stopped within a turn.
pub record StopsInTurn (app : AppConfig) (before after : Moment) (stop : Stopped) : Type 0 where
  pub turn : ContainerTurn
  pub front : List ℕ
  pub rest : List ℕ
  pub came : Came app turn front
  pub comes : HasCome before after (front ++ rest)
  pub stops : Stops app.packet (place_of turn) (waits app turn) (is_dropped app turn) (bytes_of (owed app turn)) before after rest stop

-- A talk: turns that are over, each with all sent that it is owed, and then a turn within which it stops.
pub record IsTalk (app : AppConfig) (before after : Moment) (end : ContainerEnd) : Type 0 where
  pub past : List ContainerTurn
  pub came : List ℕ
  pub sent : List ℕ
  pub turns : Turns app past came sent
  pub between : Moment
  pub goes : Goes before between came sent
  pub stop : Stopped
  pub stops : StopsInTurn app between after stop
  pub end_is : end ≡ end_of (requests_in past) stop
