-- The rest of a reply that is read and dropped once the client is gone.
use Rattle.std.specs.Prelude.{◌≡◌, ◌≢◌, ℕ, ◌+◌, ◌<◌, ◌⊎◌, Bool, true, List, [], ◌∷◌, ◌++◌, length, Option, Some, None, Result, Ok, Err, false}
use Rattle.jk_io.specs.declared.failures.NoMemory.{NoMemory}
use Rattle.ajp_wire.specs.Packet.{HasCome}
use Rattle.ajp_reply.specs.declared.message.Message.{Message}
use Rattle.ajp_reply.specs.declared.message.Message.TheVariants.{Headers, Chunk, End, Ask, Pong}
use Rattle.ajp_reply.specs.Stream.{Spelled}
use Rattle.http_out.specs.Writer.{IsOpenReply, framing_now}
use Rattle.jk_io.specs.Moments.{Moment}
use Rattle.ajp_talk.specs.Moments.{IsSteady}
use Rattle.ajp_talk.specs.Replies.{chunks_of, sum_of, exceeds, agrees}
use Rattle.ajp_talk.specs.Turns.{CameUnheard, IsHeard, IsUnheard, IsChunkTurn, IsEndTurn}
use Rattle.ajp_talk.specs.Ends.{gone_end}
use Rattle.ajp_talk.specs.declared.plan.TalkPlan.{TalkPlan}
use Rattle.ajp_talk.specs.declared.course.Course.{Course}
use Rattle.ajp_talk.specs.declared.ending.TalkEnd.{TalkEnd}
use Rattle.ajp_talk.specs.declared.turn.Turn.{Turn}
use Rattle.ajp_talk.specs.declared.turn.Turn.TheVariants as turn_is
use Rattle.ajp_talk.specs.declared.turn.Unheard.{Unheard}
use Rattle.ajp_talk.specs.declared.turn.Unheard.TheVariants as unheard_is

-- a head was passed, and a write failed after it
pub record IsLostCourse (c : Course) : Type 0 where
  pub headers : c.headers ≡ true
  pub opened : IsOpenReply c.writer
  pub failed : c.writer.failed ≡ true

abbrev pub chunk_messages : List (List ℕ) → List Message
chunk_messages [] = []
chunk_messages (chunk ∷ past) = Chunk chunk ∷ chunk_messages past

-- the bytes end the reply: chunks whose sum agrees with what was due, and End Response that lets the link serve again
pub record IsTail (plan : TalkPlan) (c : Course) (bytes : List ℕ) : Type 0 where
  pub chunks : List (List ℕ)
  pub spelled : Spelled plan.packet (End true ∷ chunk_messages chunks) bytes
  pub sum : agrees (framing_now c.writer) (sum_of chunks) ≡ true

-- the bytes are no such end
abbrev pub IsNoTail : TalkPlan → Course → List ℕ → Type 0
IsNoTail plan c bytes =
    (later : List Message) → Spelled plan.packet (End true ∷ later) bytes → agrees (framing_now c.writer) (sum_of (chunks_of later)) ≡ true → ⊥

-- bytes came, nothing was sent, and nothing was written
pub record DropsBytes (l l' : Moment) (w w' : Moment) (bytes : List ℕ) : Type 0 where
  pub came : HasCome l l' bytes
  pub sent : l'.sent ≡ l.sent
  pub written : w'.sent ≡ w.sent

-- Which messages end the rest of a reply, or can't stand in it, where the chunks had come since the client was gone.
abbrev pub EndsRest : Course → List (List ℕ) → Message → Type 0
EndsRest c chunks (Headers parts) = Unit {0}
EndsRest c chunks (Chunk bytes) = exceeds (framing_now c.writer) (sum_of chunks + length bytes) ≡ true
EndsRest c chunks (End reuse) = (reuse ≡ false) ⊎ (agrees (framing_now c.writer) (sum_of chunks) ≡ false)
EndsRest c chunks (Ask most) = Unit {0}
EndsRest c chunks Pong = Unit {0}

-- such a message came after chunks
pub record IsAfterChunks (plan : TalkPlan) (c : Course) (bytes : List ℕ) : Type 0 where
  pub chunks : List (List ℕ)
  pub message : Message
  pub spelled : Spelled plan.packet (message ∷ chunk_messages chunks) bytes
  pub stops : EndsRest c chunks message

-- no message came after chunks; for want of memory only where it was wanted
pub record IsCutShort (plan : TalkPlan) (l l' : Moment) (c' : Course) (bytes : List ℕ) (want : Bool) : Type 0 where
  pub chunks : List (List ℕ)
  pub front : List ℕ
  pub rest : List ℕ
  pub spelled : Spelled plan.packet (chunk_messages chunks) front
  pub whole : bytes ≡ front ++ rest
  pub why : Unheard
  pub as_said : CameUnheard plan.packet plan.most c'.received l l' rest why
  pub no_want : want ≡ false → why ≢ unheard_is.NoMemory

-- the rest was read, and the link may be kept; or memory was wanted
pub record Drains (plan : TalkPlan) (l l' : Moment) (w w' : Moment) (c c' : Course) (keep want : Bool) : Type 0 where
  pub bytes : List ℕ
  pub dropped : DropsBytes l l' w w' bytes
  pub counts : c'.received ≡ c.received + length bytes
  pub small : c'.received < plan.most + 4294967400
  pub same : c'.sent ≡ c.sent
  pub kept : keep ≡ true → IsTail plan c bytes × (c'.received < plan.most) × IsSteady l l'
  pub closed : keep ≡ false → c'.received < plan.most → IsNoTail plan c bytes
  pub halted : keep ≡ false → IsAfterChunks plan c bytes ⊎ IsCutShort plan l l' c' bytes want

abbrev pub IsDrained : TalkPlan → Moment → Moment → Moment → Moment → Course → Course → Result Bool NoMemory → Type 0
IsDrained plan l l' w w' c c' (Ok keep) = Drains plan l l' w w' c c' keep false
IsDrained plan l l' w w' c c' (Err e) = Drains plan l l' w w' c c' false true

-- ---- one message

-- whether more is dropped after a turn, and else whether the link may serve again
abbrev pub rest_after : NoMemory → Turn → Result (Option Bool) NoMemory
rest_after want turn_is.On = Ok None
rest_after want (turn_is.Done reuse) = Ok (Some reuse)
rest_after want (turn_is.Failed cause) = Ok (Some false)
rest_after want turn_is.Lost = Ok None
rest_after want (turn_is.LostAtEnd reuse) = Ok (Some reuse)
rest_after want turn_is.Unread = Ok (Some false)
rest_after want turn_is.Cut = Ok (Some false)
rest_after want (turn_is.Bad own) = Ok (Some false)
rest_after want turn_is.NoMemory = Err want

-- no message came: the link is to be closed
abbrev pub rest_without : NoMemory → Unheard → Result (Option Bool) NoMemory
rest_without want unheard_is.Line = Ok (Some false)
rest_without want unheard_is.Ended = Ok (Some false)
rest_without want unheard_is.Wrong = Ok (Some false)
rest_without want unheard_is.TooLong = Ok (Some false)
rest_without want unheard_is.NoMemory = Err want

-- a message that can't stand in the rest of a reply is looked at no further
pub record IsClosing (c c' : Course) (w w' : Moment) (answer : Result (Option Bool) NoMemory) : Type 0 where
  pub closes : answer ≡ Ok (Some false)
  pub course : c' ≡ c
  pub client : w' ≡ w

-- what is made of a message that is dropped
abbrev pub IsDroppedMessage : TalkPlan → Message → Course → Course → Moment → Moment → Result (Option Bool) NoMemory → Type 0
IsDroppedMessage plan (Headers parts) c c' w w' answer = IsClosing c c' w w' answer
IsDroppedMessage plan (Chunk chunk) c c' w w' answer = (want : NoMemory) × (turn : Turn) × (answer ≡ rest_after want turn) × IsChunkTurn plan chunk c c' w w' turn
IsDroppedMessage plan (End reuse) c c' w w' answer = (want : NoMemory) × (turn : Turn) × (answer ≡ rest_after want turn) × IsEndTurn reuse c c' w w' turn
IsDroppedMessage plan (Ask most) c c' w w' answer = IsClosing c c' w w' answer
IsDroppedMessage plan Pong c c' w w' answer = IsClosing c c' w w' answer

-- a message came, and was dropped
pub record HasDropped (plan : TalkPlan) (l l' : Moment) (w w' : Moment) (c c' : Course) (answer : Result (Option Bool) NoMemory) : Type 0 where
  pub message : Message
  pub count : ℕ
  pub heard : IsHeard plan.packet plan.most l l' c.received count message
  pub acts : IsDroppedMessage plan message (record c { received = count }) c' w w' answer

-- no message came
pub record HasNoMessage (plan : TalkPlan) (l l' : Moment) (w w' : Moment) (c c' : Course) (answer : Result (Option Bool) NoMemory) : Type 0 where
  pub why : Unheard
  pub count : ℕ
  pub want : NoMemory
  pub unheard : IsUnheard plan.packet plan.most l l' c.received count why
  pub closes : answer ≡ rest_without want why
  pub course : c' ≡ record c { received = count }
  pub client : w' ≡ w

abbrev pub IsDrop : TalkPlan → Moment → Moment → Moment → Moment → Course → Course → Result (Option Bool) NoMemory → Type 0
IsDrop plan l l' w w' c c' answer = HasDropped plan l l' w w' c c' answer ⊎ HasNoMessage plan l l' w w' c c' answer

-- ---- the end of a talk whose client is gone

-- at once where the link is to be closed then, and else after the rest was dropped
abbrev pub IsLostEnd : TalkPlan → Moment → Moment → Moment → Moment → Course → Course → TalkEnd → Type 0
IsLostEnd plan l l' w w' c c' end =
    ((plan.close_on_client ≡ true) × (end ≡ gone_end c false false) × (l' ≡ l) × (w' ≡ w))
    ⊎ ((plan.close_on_client ≡ false) × ((keep : Bool) × (want : Bool) × Drains plan l l' w w' c c' keep want × (end ≡ gone_end c' false keep)))
