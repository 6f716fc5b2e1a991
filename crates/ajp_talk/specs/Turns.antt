-- One message more in a talk: the step from one moment to the next.
use Rattle.std.specs.Prelude.{◌≡◌, ℕ, ◌+◌, ◌<◌, ◌≤◌, ◌⊎◌, Bool, true, false, not, List, [], length, take, None, IfSome, IsTrue, Result, Ok, Err, if◌then◌else◌}
use Rattle.jk_io.specs.Told.{appended, PutsFront, Rose, IsEmpty}
use Rattle.jk_io.specs.declared.failures.IoError.{IoError}
use Rattle.jk_io.specs.declared.failures.IoError.TheVariants as Io
use Rattle.ajp_wire.specs.Packet.{IsPart, IsPacket, HasCome, body_packet}
use Rattle.ajp_reply.specs.declared.message.Message.{Message}
use Rattle.ajp_reply.specs.declared.message.Message.TheVariants.{Headers, Chunk, End, Ask, Pong}
use Rattle.ajp_reply.specs.declared.message.ReplyParts.{ReplyParts}
use Rattle.ajp_reply.specs.Spelling.{IsMessage, BeginsHead}
use Rattle.ajp_reply.specs.Stream.{IsPacketOf, BeginsNoMessage}
use Rattle.http_front.specs.Body.{Uses, dropped, reaches}
use Rattle.http_front.specs.State.{place_of, taken_of, most_of, failed_of}
use Rattle.http_front.specs.Walks.{counted}
use Rattle.http_front.specs.declared.fault.BodyFault.{BodyFault}
use Rattle.http_front.specs.declared.fault.BodyFault.TheVariants as fault
use Rattle.http_out.specs.Framing.{has_no_body, is_beyond, is_complete}
use Rattle.http_out.specs.Own.{status_of}
use Rattle.http_out.specs.declared.own_answers.Own.{Own}
use Rattle.http_out.specs.Writer.{Writer, IsOpenReply, framing_now, after_head, after_chunk, after_end, chunk_bytes, end_bytes}
use Rattle.http_out.specs.Writer.{counted as counted_chunk}
use Rattle.jk_io.specs.Moments.{Moment}
use Rattle.ajp_talk.specs.Moments.{BodyAt, TalkMoment, data_at, Traffic, IsSteady, IsUsed, IsFrontOf}
use Rattle.ajp_talk.specs.Owed.{want, answer, ping_of, pong_of}
use Rattle.ajp_talk.specs.Replies.{is_good, is_listed, kind_of, head_out}
use Rattle.ajp_talk.specs.Talk.{IsNext, BeginsNoPong, IsBadBody}
use Rattle.ajp_talk.specs.declared.plan.TalkPlan.{TalkPlan}
use Rattle.ajp_talk.specs.declared.course.Course.{Course}
use Rattle.ajp_talk.specs.declared.ending.Told.{Told}
use Rattle.ajp_talk.specs.declared.ending.Cause.{Cause}
use Rattle.ajp_talk.specs.declared.ending.Cause.TheVariants as cause_is
use Rattle.ajp_talk.specs.declared.turn.Turn.{Turn}
use Rattle.ajp_talk.specs.declared.turn.Turn.TheVariants as turn_is
use Rattle.ajp_talk.specs.declared.turn.Unheard.{Unheard}
use Rattle.ajp_talk.specs.declared.turn.Unheard.TheVariants as unheard_is

abbrev pub turn_of : Unheard → Turn
turn_of unheard_is.Line = turn_is.Failed cause_is.Line
turn_of unheard_is.Ended = turn_is.Failed cause_is.Ended
turn_of unheard_is.Wrong = turn_is.Failed cause_is.BadReply
turn_of unheard_is.TooLong = turn_is.Failed cause_is.TooLong
turn_of unheard_is.NoMemory = turn_is.NoMemory

abbrev pub fault_turn : BodyFault → Turn
fault_turn fault.Truncated = turn_is.Cut
fault_turn fault.BadChunk = turn_is.Bad Own.BadRequest
fault_turn fault.TooLong = turn_is.Bad Own.ContentTooLarge
fault_turn fault.Fault = turn_is.Unread
fault_turn fault.NoMemory = turn_is.NoMemory

-- ---- one message from the link

-- less than a packet, or a whole one whose payload begins as a head does
abbrev pub IsUnreadPacket : ℕ → List ℕ → Type 0
IsUnreadPacket packet bytes = IsPart true packet bytes ⊎ ((payload : List ℕ) × IsPacket true packet payload bytes × BeginsHead payload)

-- what came, by why it is no message
abbrev pub CameUnheard : ℕ → ℕ → ℕ → Moment → Moment → List ℕ → Unheard → Type 0
CameUnheard packet most count l l' bytes unheard_is.Line = (count < most) × IsPart true packet bytes × Rose l.faults l'.faults
CameUnheard packet most count l l' bytes unheard_is.Ended = (count < most) × IsPart true packet bytes × IsEmpty l'.incoming
CameUnheard packet most count l l' bytes unheard_is.Wrong = (count < most) × BeginsNoMessage packet bytes
CameUnheard packet most count l l' bytes unheard_is.TooLong = (most ≤ count) × IsNext packet bytes
CameUnheard packet most count l l' bytes unheard_is.NoMemory = (count < most) × IsUnreadPacket packet bytes × IsSteady l l'

-- bytes came, nothing was sent, and the count is that of the bytes
pub record Came (l l' : Moment) (count count' : ℕ) (bytes : List ℕ) : Type 0 where
  pub came : HasCome l l' bytes
  pub sent : l'.sent ≡ l.sent
  pub counts : count' ≡ counted count (length bytes)
  pub small : length bytes < 4294967400
  pub no_fewer : l.faults ≤ l'.faults

pub record IsUnheard (packet most : ℕ) (l l' : Moment) (count count' : ℕ) (why : Unheard) : Type 0 where
  pub bytes : List ℕ
  pub came : Came l l' count count' bytes
  pub as_said : CameUnheard packet most count' l l' bytes why

pub record IsHeard (packet most : ℕ) (l l' : Moment) (count count' : ℕ) (message : Message) : Type 0 where
  pub bytes : List ℕ
  pub came : Came l l' count count' bytes
  pub steady : IsSteady l l'
  pub is : IsPacketOf packet message bytes
  pub fits : IsMessage message
  pub below : count' < most

-- ---- what is sent

-- these bytes were sent, and nothing came
pub record Sends (l l' : Moment) (before after : ℕ) (put : List ℕ) : Type 0 where
  pub sent : l'.sent ≡ appended l.sent put
  pub counts : before + length put < 18446744073709551616 → after ≡ before + length put
  pub incoming : l'.incoming ≡ l.incoming
  pub received : l'.received ≡ l.received
  pub no_fewer : l.faults ≤ l'.faults

-- the answer to a send: all was sent, or a front of it
abbrev pub IsSent : Moment → Moment → ℕ → ℕ → List ℕ → Result Unit IoError → Type 0
IsSent l l' sent sent' bytes (Ok _) = Sends l l' sent sent' bytes × IsSteady l l'
IsSent l l' sent sent' bytes (Err Io.Failed) = (put : List ℕ) × Sends l l' sent sent' put × IsFrontOf put bytes × Rose l.faults l'.faults
IsSent l l' sent sent' bytes (Err Io.NoMemory) = (put : List ℕ) × Sends l l' sent sent' put × IsFrontOf put bytes × IsSteady l l'

-- ---- CPing

-- the answer to CPing is CPong alone
abbrev pub pong_only : Message → Result Unit Unheard
pong_only (Headers parts) = Err unheard_is.Wrong
pong_only (Chunk bytes) = Err unheard_is.Wrong
pong_only (End reuse) = Err unheard_is.Wrong
pong_only (Ask most) = Err unheard_is.Wrong
pong_only Pong = Ok tt

abbrev pub IsUnanswered : TalkPlan → Moment → Moment → ℕ → List ℕ → List ℕ → Unheard → Type 0
IsUnanswered plan l l' received rest put unheard_is.Line =
    (received < plan.most) × IsFrontOf put (ping_of plan) × IsPart true plan.packet rest × Rose l.faults l'.faults
IsUnanswered plan l l' received rest put unheard_is.Ended =
    (received < plan.most) × (put ≡ ping_of plan) × IsPart true plan.packet rest × IsEmpty l'.incoming
IsUnanswered plan l l' received rest put unheard_is.Wrong = (received < plan.most) × (put ≡ ping_of plan) × BeginsNoPong plan.packet rest
IsUnanswered plan l l' received rest put unheard_is.TooLong = (plan.most ≤ received) × (put ≡ ping_of plan) × IsNext plan.packet rest
IsUnanswered plan l l' received rest put unheard_is.NoMemory = IsFrontOf put (ping_of plan) × IsSteady l l'

-- no CPong answered
pub record HasNoAnswer (plan : TalkPlan) (l l' : Moment) (sent received : ℕ) (why : Unheard) : Type 0 where
  pub rest : List ℕ
  pub put : List ℕ
  pub pings : plan.ping ≡ true
  pub traffic : Traffic l l' rest put
  pub sent_is : sent ≡ length put
  pub received_is : received ≡ length rest
  pub small : received < 8589934592
  pub as_said : IsUnanswered plan l l' received rest put why

-- CPing was answered, or none was wanted
pub record IsPingAnswered (plan : TalkPlan) (l l' : Moment) (sent received : ℕ) : Type 0 where
  pub traffic : Traffic l l' (pong_of plan) (ping_of plan)
  pub sent_is : sent ≡ length (ping_of plan)
  pub received_is : received ≡ length (pong_of plan)
  pub steady : IsSteady l l'
  pub below : received < plan.most

abbrev pub IsGreeting : TalkPlan → Moment → Moment → ℕ → ℕ → Result Unit Unheard → Type 0
IsGreeting plan l l' sent received (Ok _) = IsPingAnswered plan l l' sent received
IsGreeting plan l l' sent received (Err why) = HasNoAnswer plan l l' sent received why

-- ---- Send Headers

-- the writer is as the course says: open after a head, and else without one
pub record IsOnCourse (c : Course) : Type 0 where
  pub opened : c.headers ≡ true → IsOpenReply c.writer
  pub fresh : c.headers ≡ false → c.writer.framing ≡ None

abbrev pub with_seen : Course → Course
with_seen c = record c { headers = true }

abbrev pub with_head : Course → ReplyParts → Course
with_head c parts = record c { headers = true; writer = after_head c.writer (head_out parts); told = record { status = parts.status; body = 0 } }

abbrev pub IsHeadFailure : TalkPlan → ReplyParts → Course → Course → Cause → Type 0
IsHeadFailure plan parts c c' cause_is.NoLink = ⊥
IsHeadFailure plan parts c c' cause_is.Line = ⊥
IsHeadFailure plan parts c c' cause_is.Ended = ⊥
IsHeadFailure plan parts c c' cause_is.BadReply = ((c.headers ≡ true) ⊎ (is_good parts ≡ false)) × (c' ≡ with_seen c)
IsHeadFailure plan parts c c' cause_is.Disagree = ⊥
IsHeadFailure plan parts c c' cause_is.TooLong = ⊥
IsHeadFailure plan parts c c' (cause_is.Status status) =
    (c.headers ≡ false) × (is_good parts ≡ true) × (status ≡ parts.status) × (is_listed plan.fail_on status ≡ true) × (c' ≡ with_head c parts)

abbrev pub IsHeadTurn : TalkPlan → ReplyParts → Course → Course → Turn → Type 0
IsHeadTurn plan parts c c' turn_is.On =
    (c.headers ≡ false) × (is_good parts ≡ true) × (is_listed plan.fail_on parts.status ≡ false) × (c' ≡ with_head c parts)
IsHeadTurn plan parts c c' (turn_is.Done reuse) = ⊥
IsHeadTurn plan parts c c' (turn_is.Failed why) = IsHeadFailure plan parts c c' why
IsHeadTurn plan parts c c' turn_is.Lost = ⊥
IsHeadTurn plan parts c c' (turn_is.LostAtEnd reuse) = ⊥
IsHeadTurn plan parts c c' turn_is.Unread = ⊥
IsHeadTurn plan parts c c' turn_is.Cut = ⊥
IsHeadTurn plan parts c c' (turn_is.Bad own) = ⊥
IsHeadTurn plan parts c c' turn_is.NoMemory = Unit {0}

-- ---- Send Body Chunk and End Response

-- what of a chunk counts as passed
abbrev pub passed_length : TalkPlan → Told → List ℕ → ℕ
passed_length plan told chunk = if has_no_body (kind_of plan) told.status then 0 else length chunk

abbrev pub with_chunk : TalkPlan → Course → List ℕ → Course
with_chunk plan c chunk =
    record c { writer = after_chunk c.writer chunk; told = record { status = c.told.status; body = counted c.told.body (passed_length plan c.told chunk) } }

-- a message before a head, or against the sum: nothing is written
abbrev pub IsChunkFailure : Course → Course → Moment → Moment → Bool → Cause → Type 0
IsChunkFailure c c' w w' breaks cause_is.NoLink = ⊥
IsChunkFailure c c' w w' breaks cause_is.Line = ⊥
IsChunkFailure c c' w w' breaks cause_is.Ended = ⊥
IsChunkFailure c c' w w' breaks cause_is.BadReply = (c.headers ≡ false) × (c' ≡ c) × (w'.sent ≡ w.sent)
IsChunkFailure c c' w w' breaks cause_is.Disagree = (c.headers ≡ true) × (breaks ≡ true) × (c' ≡ c) × (w'.sent ≡ w.sent)
IsChunkFailure c c' w w' breaks cause_is.TooLong = ⊥
IsChunkFailure c c' w w' breaks (cause_is.Status status) = ⊥

-- the writer after a write that failed
pub record IsLostWriter (counting now : Writer) : Type 0 where
  pub framing : now.framing ≡ counting.framing
  pub failed : now.failed ≡ true
  pub ended : now.ended ≡ counting.ended

pub record IsLost (c c' : Course) (w w' : Moment) (counting : Writer) (bytes : List ℕ) : Type 0 where
  pub puts : PutsFront w.sent w'.sent bytes
  pub writer : IsLostWriter counting c'.writer
  pub rest : c' ≡ record c { writer = c'.writer }

abbrev pub IsChunkTurn : TalkPlan → List ℕ → Course → Course → Moment → Moment → Turn → Type 0
IsChunkTurn plan chunk c c' w w' turn_is.On =
    (c.headers ≡ true) × (is_beyond (framing_now c.writer) (length chunk) ≡ false) × (c' ≡ with_chunk plan c chunk)
    × (w'.sent ≡ appended w.sent (chunk_bytes c.writer chunk))
IsChunkTurn plan chunk c c' w w' (turn_is.Done reuse) = ⊥
IsChunkTurn plan chunk c c' w w' (turn_is.Failed why) = IsChunkFailure c c' w w' (is_beyond (framing_now c.writer) (length chunk)) why
IsChunkTurn plan chunk c c' w w' turn_is.Lost =
    (c.headers ≡ true) × (is_beyond (framing_now c.writer) (length chunk) ≡ false)
    × IsLost c c' w w' (counted_chunk c.writer chunk) (chunk_bytes c.writer chunk) × Rose w.faults w'.faults
IsChunkTurn plan chunk c c' w w' (turn_is.LostAtEnd reuse) = ⊥
IsChunkTurn plan chunk c c' w w' turn_is.Unread = ⊥
IsChunkTurn plan chunk c c' w w' turn_is.Cut = ⊥
IsChunkTurn plan chunk c c' w w' (turn_is.Bad own) = ⊥
IsChunkTurn plan chunk c c' w w' turn_is.NoMemory =
    (c.headers ≡ true) × (c.writer.failed ≡ false) × (is_beyond (framing_now c.writer) (length chunk) ≡ false) × PutsFront w.sent w'.sent (chunk_bytes c.writer chunk)

abbrev pub IsEndTurn : Bool → Course → Course → Moment → Moment → Turn → Type 0
IsEndTurn reuse c c' w w' turn_is.On = ⊥
IsEndTurn reuse c c' w w' (turn_is.Done again) =
    (again ≡ reuse) × (c.headers ≡ true) × (is_complete (framing_now c.writer) ≡ true) × (c' ≡ record c { writer = after_end c.writer })
    × (w'.sent ≡ appended w.sent (end_bytes c.writer))
IsEndTurn reuse c c' w w' (turn_is.Failed why) = IsChunkFailure c c' w w' (not (is_complete (framing_now c.writer))) why
IsEndTurn reuse c c' w w' turn_is.Lost = ⊥
IsEndTurn reuse c c' w w' (turn_is.LostAtEnd again) =
    (again ≡ reuse) × (c.headers ≡ true) × (is_complete (framing_now c.writer) ≡ true)
    × PutsFront w.sent w'.sent (end_bytes c.writer) × Rose w.faults w'.faults × (c' ≡ record c { writer = c'.writer })
IsEndTurn reuse c c' w w' turn_is.Unread = ⊥
IsEndTurn reuse c c' w w' turn_is.Cut = ⊥
IsEndTurn reuse c c' w w' (turn_is.Bad own) = ⊥
IsEndTurn reuse c c' w w' turn_is.NoMemory =
    (c.headers ≡ true) × (c.writer.failed ≡ false) × (is_complete (framing_now c.writer) ≡ true) × PutsFront w.sent w'.sent (end_bytes c.writer)

-- ---- Get Body Chunk

-- the next data of a body, for an ask of n
pub record GivesData (n : ℕ) (b b' : BodyAt) (piece : List ℕ) : Type 0 where
  pub within : length piece ≤ n
  pub data' : IfSome (data_at b) (λ d. (piece ≡ take n d.bytes) × IsTrue (reaches n d))
  pub left : data_at b' ≡ dropped n (data_at b)
  pub uses : Uses b.unread b'.unread (place_of b.body) (place_of b'.body) piece
  pub counts : taken_of b'.body ≡ counted (taken_of b.body) (length piece)
  pub going : failed_of b'.body ≡ None
  pub most : most_of b'.body ≡ most_of b.body

-- the turn where a piece was sent, or was not
abbrev pub turn_of_sent : Result Unit IoError → Turn
turn_of_sent (Ok done) = turn_is.On
turn_of_sent (Err Io.Failed) = turn_is.Failed cause_is.Line
turn_of_sent (Err Io.NoMemory) = turn_is.NoMemory

-- the answer to an ask of n bytes
abbrev pub IsAskTurn : ℕ → TalkMoment → TalkMoment → ℕ → ℕ → Turn → Type 0
IsAskTurn n s s' sent sent' turn_is.On = (piece : List ℕ) × GivesData n s.body s'.body piece × Sends s.line s'.line sent sent' (body_packet piece) × IsSteady s.line s'.line
IsAskTurn n s s' sent sent' (turn_is.Done reuse) = ⊥
IsAskTurn n s s' sent sent' (turn_is.Failed cause_is.Line) =
    (piece : List ℕ) × (put : List ℕ) × GivesData n s.body s'.body piece × Sends s.line s'.line sent sent' put × IsFrontOf put (body_packet piece) × Rose s.line.faults s'.line.faults
IsAskTurn n s s' sent sent' (turn_is.Failed cause_is.NoLink) = ⊥
IsAskTurn n s s' sent sent' (turn_is.Failed cause_is.Ended) = ⊥
IsAskTurn n s s' sent sent' (turn_is.Failed cause_is.BadReply) = ⊥
IsAskTurn n s s' sent sent' (turn_is.Failed cause_is.Disagree) = ⊥
IsAskTurn n s s' sent sent' (turn_is.Failed cause_is.TooLong) = ⊥
IsAskTurn n s s' sent sent' (turn_is.Failed (cause_is.Status status)) = ⊥
IsAskTurn n s s' sent sent' turn_is.Lost = ⊥
IsAskTurn n s s' sent sent' (turn_is.LostAtEnd reuse) = ⊥
IsAskTurn n s s' sent sent' turn_is.Unread = Sends s.line s'.line sent sent' [] × IsUsed s.body s'.body × Rose s.client.faults s'.client.faults
IsAskTurn n s s' sent sent' turn_is.Cut =
    Sends s.line s'.line sent sent' [] × IsSteady s.line s'.line × IsUsed s.body s'.body × IfSome (data_at s.body) (λ d. (reaches n d ≡ false) × (d.bad ≡ false))
IsAskTurn n s s' sent sent' (turn_is.Bad own) = Sends s.line s'.line sent sent' [] × IsSteady s.line s'.line × IsUsed s.body s'.body × IsBadBody s.body n (status_of own)
IsAskTurn n s s' sent sent' turn_is.NoMemory =
    (put : List ℕ) × Sends s.line s'.line sent sent' put × IsSteady s.line s'.line × IsUsed s.body s'.body
    × IfSome (data_at s.body) (λ d. IsFrontOf put (answer n d))

-- ---- one message

-- a body of which nothing was taken
pub record IsUntaken (b b' : BodyAt) : Type 0 where
  pub body : b'.body ≡ b.body
  pub unread : b'.unread ≡ b.unread

-- what this message makes of the talk, from where it had been read
abbrev pub Acts : TalkPlan → Message → Course → Course → Moment → Moment → Moment → Moment → BodyAt → BodyAt → Turn → Type 0
Acts plan (Headers parts) c c' l l' w w' b b' turn = IsHeadTurn plan parts c c' turn × (l' ≡ l) × (w' ≡ w) × IsUntaken b b'
Acts plan (Chunk chunk) c c' l l' w w' b b' turn = IsChunkTurn plan chunk c c' w w' turn × (l' ≡ l) × IsUntaken b b' × (w.faults ≤ w'.faults)
Acts plan (End reuse) c c' l l' w w' b b' turn = IsEndTurn reuse c c' w w' turn × (l' ≡ l) × IsUntaken b b' × (w.faults ≤ w'.faults)
Acts plan (Ask n) c c' l l' w w' b b' turn =
    IsAskTurn (want plan.piece n) (record { line = l; client = w; body = b }) (record { line = l'; client = w'; body = b' }) c.sent c'.sent turn
    × (c' ≡ record c { sent = c'.sent }) × (w'.sent ≡ w.sent) × (w.faults ≤ w'.faults)
Acts plan Pong c c' l l' w w' b b' turn = (turn ≡ turn_is.Failed cause_is.BadReply) × (c' ≡ c) × (l' ≡ l) × (w' ≡ w) × IsUntaken b b'

-- no message came
pub record IsSilent (plan : TalkPlan) (s n : TalkMoment) (c c' : Course) (turn : Turn) : Type 0 where
  pub why : Unheard
  pub turn_is : turn ≡ turn_of why
  pub unheard : IsUnheard plan.packet plan.most s.line n.line c.received c'.received why
  pub course : c' ≡ record c { received = c'.received }
  pub client : n.client ≡ s.client
  pub body : IsUntaken s.body n.body

-- a message came, and this is what it made of the talk
pub record IsMoved (plan : TalkPlan) (s n : TalkMoment) (c c' : Course) (turn : Turn) : Type 0 where
  pub message : Message
  pub mid : Moment
  pub count : ℕ
  pub heard : IsHeard plan.packet plan.most s.line mid c.received count message
  pub acts : Acts plan message (record c { received = count }) c' mid n.line s.client n.client s.body n.body turn

abbrev pub IsTurn : TalkPlan → TalkMoment → TalkMoment → Course → Course → Turn → Type 0
IsTurn plan s n c c' turn = IsSilent plan s n c c' turn ⊎ IsMoved plan s n c c' turn

-- ---- the client

-- the turn tells of no call of the client that failed
abbrev pub IsCalmTurn : Turn → Type 0
IsCalmTurn turn_is.On = Unit {0}
IsCalmTurn (turn_is.Done reuse) = Unit {0}
IsCalmTurn (turn_is.Failed cause) = Unit {0}
IsCalmTurn turn_is.Lost = ⊥
IsCalmTurn (turn_is.LostAtEnd reuse) = ⊥
IsCalmTurn turn_is.Unread = ⊥
IsCalmTurn turn_is.Cut = Unit {0}
IsCalmTurn (turn_is.Bad own) = Unit {0}
IsCalmTurn turn_is.NoMemory = Unit {0}
