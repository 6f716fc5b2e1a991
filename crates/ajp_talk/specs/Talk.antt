-- A talk, and how it ended, by the bytes that came and went. Read this first.
use Rattle.std.specs.Prelude.{◌≡◌, ℕ, ◌+◌, ◌<◌, ◌≤◌, ◌↔◌, ◌⊎◌, Bool, true, false, nat_le, nat_lt, List, [], ◌∷◌, ◌++◌, length, take, Option, Some, None, IfSome, IsSome, is_some, Result, Ok, Err}
use Rattle.jk_io.specs.Told.{appended, PutsFront, Rose, IsEmpty}
use Rattle.jk_io.specs.declared.failures.NoMemory.{NoMemory}
use Rattle.ajp_wire.specs.Packet.{IsPart, IsPacket}
use Rattle.ajp_reply.specs.declared.message.Message.{Message}
use Rattle.ajp_reply.specs.declared.message.Message.TheVariants.{Headers, Chunk, End, Ask, Pong}
use Rattle.ajp_reply.specs.declared.message.ReplyParts.{ReplyParts}
use Rattle.ajp_reply.specs.Stream.{Spelled, IsPacketOf, IsFront, IsForm, NoReply, BeginsNoMessage, head_of}
use Rattle.http_front.specs.Body.{dropped, reaches}
use Rattle.http_front.specs.Places.{is_limited}
use Rattle.http_front.specs.State.{place_of, taken_of, most_of}
use Rattle.ajp_talk.specs.Moments.{BodyAt, TalkMoment, data_at, Traffic, IsSteady, TakesOfBody, IsUsed, IsFrontOf, AreAlong}
use Rattle.ajp_talk.specs.Replies.{is_good, is_listed, kind_of, chunks_of, sum_of, framing_in, exceeds, agrees, IsWithinLength, IsUnlisted, IsReply, so_far_of_talk, reply_of_talk, bytes_for, told_by, passed_of, told_of_talk}
use Rattle.ajp_talk.specs.Owed.{asked, ping_of, pong_of, opening, owed}
use Rattle.ajp_talk.specs.declared.plan.TalkPlan.{TalkPlan}
use Rattle.ajp_reply.specs.declared.stage.Stage.{Stage}
use Rattle.ajp_talk.specs.declared.ending.Told.{Told}
use Rattle.ajp_talk.specs.declared.ending.Cause.{Cause}
use Rattle.ajp_talk.specs.declared.ending.Cause.TheVariants as cause_is
use Rattle.ajp_talk.specs.declared.ending.TalkEnd.{TalkEnd}
use Rattle.ajp_talk.specs.declared.ending.TalkEnd.TheVariants as ends

-- The messages that a talk accepted, the newest first, and their bytes: they begin a reply, its status isn't listed as
-- a failure, and no more than the announced length came.
pub record Accepts (plan : TalkPlan) (past : List Message) (came : List ℕ) : Type 0 where
  pub spelled : Spelled plan.packet past came
  pub front : IsFront is_good past
  pub unlisted : IsUnlisted plan past
  pub within : IsWithinLength plan past

-- ---- a failed talk

-- A message that breaks the rule of the sum: a chunk beyond the announced length, or an end before it.
abbrev pub BreaksSum : TalkPlan → List Message → Message → Type 0
BreaksSum plan past (Headers parts) = ⊥
BreaksSum plan past (Chunk bytes) = (parts : ReplyParts) × (head_of past ≡ Some parts) × (exceeds (framing_in plan parts) (sum_of (chunks_of past) + length bytes) ≡ true)
BreaksSum plan past (End reuse) = (parts : ReplyParts) × (head_of past ≡ Some parts) × (agrees (framing_in plan parts) (sum_of (chunks_of past)) ≡ false)
BreaksSum plan past (Ask n) = ⊥
BreaksSum plan past Pong = ⊥

-- The bytes after the accepted messages leave the grammar of a reply: they begin no message, or a message that may not
-- stand there.
abbrev pub IsWrong : TalkPlan → List Message → List ℕ → Option Message → Type 0
IsWrong plan past rest None = BeginsNoMessage plan.packet rest
IsWrong plan past rest (Some message) =
    IsPacketOf plan.packet message rest × (IsFront is_good (message ∷ past) → ⊥) × (IsForm is_good (message ∷ past) → ⊥)

-- no more than one packet
abbrev pub IsNext : ℕ → List ℕ → Type 0
IsNext most rest = ((payload : List ℕ) × IsPacket true most payload rest) ⊎ (IsPart true most rest ⊎ BeginsNoMessage most rest)

-- Why it failed. The message after the accepted ones, where one was read and refused, is the option.
abbrev pub IsCause : TalkPlan → TalkMoment → TalkMoment → List Message → List ℕ → List ℕ → Option Message → Cause → Type 0
IsCause plan s n past came rest refused cause_is.NoLink = ⊥
IsCause plan s n past came rest refused cause_is.Line = (refused ≡ None) × IsPart true plan.packet rest × Rose s.line.faults n.line.faults
IsCause plan s n past came rest refused cause_is.Ended = (refused ≡ None) × IsPart true plan.packet rest × IsEmpty n.line.incoming
IsCause plan s n past came rest refused cause_is.BadReply = IsWrong plan past rest refused × NoReply is_good plan.packet (came ++ rest)
IsCause plan s n past came rest refused cause_is.Disagree =
    (message : Message) × (refused ≡ Some message) × IsPacketOf plan.packet message rest × BreaksSum plan past message
IsCause plan s n past came rest refused cause_is.TooLong = (refused ≡ None) × IsNext plan.packet rest
IsCause plan s n past came rest refused (cause_is.Status status) =
    (parts : ReplyParts) × (refused ≡ Some (Headers parts)) × IsPacketOf plan.packet (Headers parts) rest × (head_of past ≡ None)
    × (is_good parts ≡ true) × (status ≡ parts.status) × (is_listed plan.fail_on status ≡ true)

-- The opening, which no data decide, went out first: a front of it alone where the link failed before its end, else all.
abbrev pub OpensFor : Cause → List ℕ → List ℕ → Type 0
OpensFor cause_is.NoLink put opens = ⊥
OpensFor cause_is.Line put opens = AreAlong put opens
OpensFor cause_is.Ended put opens = IsFrontOf opens put
OpensFor cause_is.BadReply put opens = IsFrontOf opens put
OpensFor cause_is.Disagree put opens = IsFrontOf opens put
OpensFor cause_is.TooLong put opens = IsFrontOf opens put
OpensFor (cause_is.Status status) put opens = IsFrontOf opens put

-- where the link failed a front of what was owed was sent, else all of it
abbrev pub SentFor : Cause → List ℕ → List ℕ → Type 0
SentFor cause_is.NoLink put owed = ⊥
SentFor cause_is.Line put owed = IsFrontOf put owed
SentFor cause_is.Ended put owed = put ≡ owed
SentFor cause_is.BadReply put owed = put ≡ owed
SentFor cause_is.Disagree put owed = put ≡ owed
SentFor cause_is.TooLong put owed = put ≡ owed
SentFor (cause_is.Status status) put owed = put ≡ owed

-- the messages with the one that was refused
abbrev pub with_refused : Option Message → List Message → List Message
with_refused None past = past
with_refused (Some message) past = message ∷ past

-- How far it had come: all of the request was sent; a head came; a byte was written to the client; data after the first
-- piece was taken.
abbrev pub stage_of : TalkPlan → TalkMoment → TalkMoment → List Message → Option Message → List ℕ → Stage
stage_of plan s n past refused put = record {
  got = nat_le (length (opening plan)) (length put);
  headers = is_some (head_of (with_refused refused past));
  passed = passed_of plan past;
  beyond = nat_lt (taken_of s.body.body) (taken_of n.body.body);
}

-- A talk that failed after its CPong. The messages are the accepted ones, and the rest is what came after them. The
-- client has what they make so far, and no call of the body was refused. Of the body just the data that the accepted asks
-- want was taken, and no more also where it isn't told; where nothing was taken its data is as before. Where a message was
-- refused no call of the link had failed.
pub record HasFailed (plan : TalkPlan) (s n : TalkMoment) (stage : Stage) (cause : Cause) (told : Option Told) (bytes : ℕ) : Type 0 where
  pub past : List Message
  pub came : List ℕ
  pub rest : List ℕ
  pub put : List ℕ
  pub refused : Option Message
  pub accepts : Accepts plan past came
  pub traffic : Traffic s.line n.line (pong_of plan ++ (came ++ rest)) put
  pub why : IsCause plan s n past came rest refused cause
  pub too_long : (cause ≡ cause_is.TooLong) ↔ (plan.most ≤ length (pong_of plan ++ (came ++ rest)))
  pub opened : OpensFor cause put (opening plan)
  pub sent : IfSome (data_at s.body) (λ d. SentFor cause put (owed plan d past))
  pub written : n.client.sent ≡ appended s.client.sent (so_far_of_talk plan past)
  pub steady : IsSome refused → IsSteady s.line n.line
  pub stage_is : stage ≡ stage_of plan s n past refused put
  pub told_is : told ≡ told_of_talk plan past
  pub counted : bytes ≡ length put + length (pong_of plan ++ (came ++ rest))
  pub taken : List ℕ
  pub takes : TakesOfBody s.body n.body taken
  pub left : data_at n.body ≡ dropped (asked plan.piece past) (data_at s.body)
  pub asked_for : length taken ≤ asked plan.piece past
  pub again : taken_of n.body.body ≡ taken_of s.body.body → data_at n.body ≡ data_at s.body

-- no CPong stands at the front, however the bytes go on
abbrev pub BeginsNoPong : ℕ → List ℕ → Type 0
BeginsNoPong most bytes = (more first behind : List ℕ) → IsPacketOf most Pong first → bytes ++ more ≡ first ++ behind → ⊥

abbrev pub IsPingCause : TalkPlan → TalkMoment → TalkMoment → List ℕ → Cause → Type 0
IsPingCause plan s n rest cause_is.NoLink = ⊥
IsPingCause plan s n rest cause_is.Line = IsPart true plan.packet rest × Rose s.line.faults n.line.faults
IsPingCause plan s n rest cause_is.Ended = IsPart true plan.packet rest × IsEmpty n.line.incoming
IsPingCause plan s n rest cause_is.BadReply = BeginsNoPong plan.packet rest
IsPingCause plan s n rest cause_is.Disagree = ⊥
IsPingCause plan s n rest cause_is.TooLong = IsNext plan.packet rest
IsPingCause plan s n rest (cause_is.Status status) = ⊥

-- A talk that failed before a CPong came: nothing but CPing was sent, and nothing was written or taken.
pub record HasNoPong (plan : TalkPlan) (s n : TalkMoment) (stage : Stage) (cause : Cause) (told : Option Told) (bytes : ℕ) : Type 0 where
  pub rest : List ℕ
  pub put : List ℕ
  pub pings : plan.ping ≡ true
  pub traffic : Traffic s.line n.line rest put
  pub why : IsPingCause plan s n rest cause
  pub too_long : (cause ≡ cause_is.TooLong) ↔ (plan.most ≤ length rest)
  pub sent : SentFor cause put (ping_of plan)
  pub stage_is : stage ≡ record { got = false; headers = false; passed = false; beyond = false }
  pub told_is : told ≡ None
  pub counted : bytes ≡ length put + length rest
  pub client : n.client ≡ s.client
  pub body : n.body ≡ s.body

-- ---- the other ends

-- The least, and then a front of what the whole has beyond it, was added at the end.
pub record PutsFrom (before now : Option (List ℕ)) (least whole : List ℕ) : Type 0 where
  pub front : List ℕ
  pub rest : List ℕ
  pub joined : whole ≡ (least ++ front) ++ rest
  pub put : now ≡ appended before (least ++ front)

-- all that is owed for these messages was sent
abbrev pub HasSent : TalkPlan → TalkMoment → List ℕ → List Message → Type 0
HasSent plan s put past = IfSome (data_at s.body) (λ d. put ≡ owed plan d past)

-- A whole reply came, all that was owed was sent, and the client has the reply whole.
pub record IsDone (plan : TalkPlan) (s n : TalkMoment) (told : Told) (reuse : Bool) (bytes : ℕ) : Type 0 where
  pub past : List Message
  pub came : List ℕ
  pub put : List ℕ
  pub reply : IsReply plan (End reuse ∷ past) came
  pub unlisted : IsUnlisted plan past
  pub traffic : Traffic s.line n.line (pong_of plan ++ came) put
  pub below : length (pong_of plan ++ came) < plan.most
  pub opened : IsFrontOf (opening plan) put
  pub sent : IfSome (data_at s.body) (λ d. put ≡ owed plan d past)
  pub steady : IsSteady s.line n.line
  pub written : n.client.sent ≡ appended s.client.sent (reply_of_talk plan past)
  pub told_is : IfSome (head_of past) (λ parts. told ≡ told_by (kind_of plan) parts (chunks_of past))
  pub counted : bytes ≡ length put + length (pong_of plan ++ came)
  pub taken : List ℕ
  pub takes : TakesOfBody s.body n.body taken
  pub left : data_at n.body ≡ dropped (asked plan.piece past) (data_at s.body)

-- the accepted messages begin a reply, or are one
abbrev pub IsFrontOrForm : List Message → Type 0
IsFrontOrForm past = IsFront is_good past ⊎ IsForm is_good past

-- A front of what was owed was sent, and a front of the reply was written.
pub record IsBrokenOff (plan : TalkPlan) (s n : TalkMoment) (past : List Message) (came rest put : List ℕ) : Type 0 where
  pub spelled : Spelled plan.packet past came
  pub front : IsFrontOrForm past
  pub traffic : Traffic s.line n.line (pong_of plan ++ (came ++ rest)) put
  pub opened : AreAlong put (opening plan)
  pub sent : IfSome (data_at s.body) (λ d. IsFrontOf put (owed plan d past))
  pub written : PutsFront s.client.sent n.client.sent (bytes_for plan past)
  pub body : IsUsed s.body n.body

-- The bytes after CPong are no whole reply below the limit that lets the link serve again.
abbrev pub IsNoEnd : TalkPlan → List ℕ → Type 0
IsNoEnd plan bytes = (all : List Message) → IsReply plan (End true ∷ all) bytes → length (pong_of plan ++ bytes) < plan.most → ⊥

-- Why the reading for a client that is gone stops before an end that lets the link serve again: the link failed or ended;
-- no reply can follow; an ask came; an end came that forbids it; the sum disagrees; the limit was reached; memory was
-- wanted, though no call of the link had failed.
pub data Halt : Type 0 where
  Failed : Halt
  Ended : Halt
  Hopeless : Halt
  Asked : Halt
  Forbidden : Halt
  Uneven : Halt
  Full : Halt
  Starved : Halt

-- what each says of the link, and of the bytes after CPong
abbrev pub IsHalted : TalkPlan → TalkMoment → TalkMoment → List ℕ → Halt → Type 0
IsHalted plan s n bytes Failed = Rose s.line.faults n.line.faults
IsHalted plan s n bytes Ended = IsEmpty n.line.incoming
IsHalted plan s n bytes Hopeless = NoReply is_good plan.packet bytes
IsHalted plan s n bytes Asked = (ask : ℕ) × (past : List Message) × Spelled plan.packet (Ask ask ∷ past) bytes
IsHalted plan s n bytes Forbidden = (past : List Message) × Spelled plan.packet (End false ∷ past) bytes
IsHalted plan s n bytes Uneven =
    (message : Message) × (past : List Message) × Spelled plan.packet (message ∷ past) bytes × BreaksSum plan past message
IsHalted plan s n bytes Full = plan.most ≤ length (pong_of plan ++ bytes)
IsHalted plan s n bytes Starved = (length (pong_of plan ++ bytes) < plan.most) × IsSteady s.line n.line

-- Where the client was lost, the newest message first: at a chunk or at the end, whose bytes were due when all before
-- them had been written, or at an ask, for which the body could not be read. All that was owed until then was sent.
abbrev pub IsLostAt : TalkPlan → TalkMoment → TalkMoment → List ℕ → List Message → Type 0
IsLostAt plan s n put [] = ⊥
IsLostAt plan s n put (Headers parts ∷ past) = ⊥
IsLostAt plan s n put (Chunk bytes ∷ past) =
    PutsFrom s.client.sent n.client.sent (so_far_of_talk plan past) (so_far_of_talk plan (Chunk bytes ∷ past)) × HasSent plan s put past
IsLostAt plan s n put (End reuse ∷ past) =
    PutsFrom s.client.sent n.client.sent (so_far_of_talk plan past) (reply_of_talk plan past) × HasSent plan s put past
IsLostAt plan s n put (Ask most ∷ past) = (n.client.sent ≡ appended s.client.sent (so_far_of_talk plan past)) × HasSent plan s put past
IsLostAt plan s n put (Pong ∷ past) = ⊥

-- there is no ask among the messages
abbrev pub HasNoAsk : List Message → Type 0
HasNoAsk [] = Unit {0}
HasNoAsk (Headers parts ∷ past) = HasNoAsk past
HasNoAsk (Chunk bytes ∷ past) = HasNoAsk past
HasNoAsk (End reuse ∷ past) = HasNoAsk past
HasNoAsk (Ask most ∷ past) = ⊥
HasNoAsk (Pong ∷ past) = HasNoAsk past

-- The bytes after CPong are a whole reply below the limit that lets the link serve again, and of its messages none that
-- came after the past ones is an ask.
pub record IsWholeAfter (plan : TalkPlan) (past : List Message) (bytes : List ℕ) : Type 0 where
  pub all : List Message
  pub later : List Message
  pub reply : IsReply plan (End true ∷ all) bytes
  pub split : End true ∷ all ≡ later ++ past
  pub unasked : HasNoAsk later
  pub below : length (pong_of plan ++ bytes) < plan.most

-- The client is gone: its bytes ended within the body at an ask, or a read or a write of it failed. The past messages are
-- those that had come then, and the rest is what came after them: nothing more was sent. The link is kept exactly where
-- the bytes that came are a whole reply that lets it serve again, with no ask after the client was gone, and it isn't to
-- be closed then. Where it isn't to be closed it was read until something stopped that. The limit wasn't reached by what
-- had come when the client was gone.
pub record IsGone (plan : TalkPlan) (s n : TalkMoment) (truncated keep : Bool) (bytes : ℕ) : Type 0 where
  pub past : List Message
  pub came : List ℕ
  pub rest : List ℕ
  pub put : List ℕ
  pub broken : IsBrokenOff plan s n past came rest put
  pub opened : IsFrontOf (opening plan) put
  pub below : length (pong_of plan ++ came) < plan.most
  pub lost : IsLostAt plan s n put past
  pub counted : bytes ≡ length put + length (pong_of plan ++ (came ++ rest))
  pub ended : truncated ≡ true → (keep ≡ false) × (n.client.sent ≡ appended s.client.sent (so_far_of_talk plan past))
      × IfSome (data_at s.body) (λ d. (reaches (asked plan.piece past) d ≡ false) × (d.bad ≡ false))
  pub failed : truncated ≡ false → Rose s.client.faults n.client.faults
  pub kept : keep ≡ true → (plan.close_on_client ≡ false) × IsSteady s.line n.line × IsWholeAfter plan past (came ++ rest)
  pub closed : keep ≡ false → (plan.close_on_client ≡ true) ⊎ IsNoEnd plan (came ++ rest)
  pub halted : keep ≡ false → plan.close_on_client ≡ false → (why : Halt) × IsHalted plan s n (came ++ rest) why
  pub at_once : plan.close_on_client ≡ true → rest ≡ []

-- Why a body is bad, where n bytes of it are wanted: a bad chunk line stands in its data, or it is chunked and the data
-- that are wanted reach the limit.
abbrev pub IsBadBody : BodyAt → ℕ → ℕ → Type 0
IsBadBody b n status =
    ((status ≡ 400) × IfSome (data_at b) (λ d. (reaches n d ≡ false) × (d.bad ≡ true)))
    ⊎ ((status ≡ 413) × (is_limited (place_of b.body) ≡ true)
    × IfSome (data_at b) (λ d. most_of b.body ≤ taken_of b.body + length (take n d.bytes)))

-- The body was found bad at an ask, the newest message. All that was owed before it was sent.
pub record HasBadBody (plan : TalkPlan) (s n : TalkMoment) (status : ℕ) (told : Option Told) (passed : Bool) (bytes : ℕ) : Type 0 where
  pub ask : ℕ
  pub past : List Message
  pub came : List ℕ
  pub put : List ℕ
  pub accepts : Accepts plan (Ask ask ∷ past) came
  pub traffic : Traffic s.line n.line (pong_of plan ++ came) put
  pub below : length (pong_of plan ++ came) < plan.most
  pub opened : IsFrontOf (opening plan) put
  pub sent : IfSome (data_at s.body) (λ d. put ≡ owed plan d past)
  pub steady : IsSteady s.line n.line
  pub written : n.client.sent ≡ appended s.client.sent (so_far_of_talk plan past)
  pub why : IsBadBody s.body (asked plan.piece (Ask ask ∷ past)) status
  pub told_is : told ≡ told_of_talk plan past
  pub passed_is : passed ≡ passed_of plan past
  pub counted : bytes ≡ length put + length (pong_of plan ++ came)
  pub body : IsUsed s.body n.body

-- Memory was wanted, and no call of the link had failed.
pub record HasWanted (plan : TalkPlan) (s n : TalkMoment) : Type 0 where
  pub past : List Message
  pub came : List ℕ
  pub rest : List ℕ
  pub put : List ℕ
  pub broken : IsBrokenOff plan s n past came rest put
  pub steady : IsSteady s.line n.line

-- Memory was wanted before a CPong came.
pub record HasWantedEarly (plan : TalkPlan) (s n : TalkMoment) : Type 0 where
  pub rest : List ℕ
  pub put : List ℕ
  pub traffic : Traffic s.line n.line rest put
  pub sent : IsFrontOf put (ping_of plan)
  pub client : n.client ≡ s.client
  pub body : n.body ≡ s.body
  pub steady : IsSteady s.line n.line

-- A talk's answer, from the moment of its call to the moment of its return.
abbrev pub IsTalk : TalkPlan → TalkMoment → TalkMoment → Result TalkEnd NoMemory → Type 0
IsTalk plan s n (Ok (ends.Done told reuse bytes)) = IsDone plan s n told reuse bytes
IsTalk plan s n (Ok (ends.Failed stage cause told bytes)) = HasFailed plan s n stage cause told bytes ⊎ HasNoPong plan s n stage cause told bytes
IsTalk plan s n (Ok (ends.ClientGone truncated keep bytes)) = IsGone plan s n truncated keep bytes
IsTalk plan s n (Ok (ends.BadBody status told passed bytes)) = HasBadBody plan s n status told passed bytes
IsTalk plan s n (Err e) = HasWanted plan s n ⊎ HasWantedEarly plan s n

-- An end that no failed call of the client made. Where the client is gone, its bytes ended.
abbrev pub IsCalmEnd : Result TalkEnd NoMemory → Type 0
IsCalmEnd (Ok (ends.Done told reuse bytes)) = Unit {0}
IsCalmEnd (Ok (ends.Failed stage cause told bytes)) = Unit {0}
IsCalmEnd (Ok (ends.ClientGone true keep bytes)) = Unit {0}
IsCalmEnd (Ok (ends.ClientGone false keep bytes)) = ⊥
IsCalmEnd (Ok (ends.BadBody status told passed bytes)) = Unit {0}
IsCalmEnd (Err e) = Unit {0}

-- How a talk was held, from the moment of its call to the moment of its return: how it ended, and that a count of faults
-- never falls; the client's stands, unless a failed call of it is what ended the talk.
pub record HoldsTalk (plan : TalkPlan) (s n : TalkMoment) (result : Result TalkEnd NoMemory) : Type 0 where
  pub talk : IsTalk plan s n result
  pub line : s.line.faults ≤ n.line.faults
  pub client : s.client.faults ≤ n.client.faults
  pub calm : IsCalmEnd result → n.client.faults ≡ s.client.faults
