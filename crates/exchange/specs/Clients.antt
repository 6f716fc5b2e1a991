-- The client at an exchange's end: the bytes that were written to it, and those of its own that were used.
use Rattle.std.specs.Prelude.{◌≡◌, ℕ, ◌+◌, ◌≤◌, ◌⊎◌, Bool, true, false, List, [], ◌∷◌, ◌++◌, length, take, slice_get, Some, None, IfSome, Ok}
use Rattle.jk_io.specs.Told.{appended, PutsFront, Rose}
use Rattle.jk_io.specs.declared.reaching.Talk.{Talk}
use Rattle.lb_model.specs.declared.member.MemberConfig.{MemberConfig}
use Rattle.lb_model.specs.declared.journal.Answer.{Answer}
use Rattle.lb_model.specs.declared.journal.Answer.TheVariants as answer
use Rattle.lb_book.specs.Desks.{DeskState, MeetsNone, RisesByOne, first_stray}
use Rattle.lb_book.specs.declared.receipt.Receipt.{Receipt}
use Rattle.ajp_request.specs.Writing.{FitsForward}
use Rattle.ajp_reply.specs.Stream.{Spelled}
use Rattle.ajp_reply.specs.declared.message.Message.{Message}
use Rattle.ajp_reply.specs.declared.message.Message.TheVariants.{End}
use Rattle.ajp_talk.specs.Moments.{TakesOfBody, data_at}
use Rattle.ajp_talk.specs.Owed.{pong_of}
use Rattle.ajp_talk.specs.Replies.{IsReply, IsUnlisted, bytes_for, passed_of, reply_of_talk, so_far_of_talk}
use Rattle.ajp_talk.specs.Talk.{Accepts, IsFrontOrForm}
use Rattle.ajp_talk.specs.declared.ending.Cause.{Cause}
use Rattle.ajp_reply.specs.declared.stage.Stage.{Stage}
use Rattle.ajp_talk.specs.declared.ending.TalkEnd.{TalkEnd}
use Rattle.ajp_talk.specs.declared.ending.TalkEnd.TheVariants as ends
use Rattle.ajp_talk.specs.declared.ending.Told.{Told}
use Rattle.ajp_talk.specs.declared.plan.TalkPlan.{TalkPlan}
use Rattle.forwarding.specs.FirstPiece.{first_len}
use Rattle.forwarding.specs.Forwards.{forward_for}
use Rattle.http_front.specs.Body.{dropped}
use Rattle.http_front.specs.State.{most_of, taken_of}
use Rattle.http_out.specs.Own.{own_bytes, own_of}
use Rattle.http_out.specs.declared.own_answers.Own.{Own}
use Rattle.site_config.specs.declared.endpoint.Endpoint.{Endpoint}
use Rattle.exchange.specs.Deliveries.{PutsShort}
use Rattle.exchange.specs.Ends.{is_status}
use Rattle.exchange.specs.OneTalk.{Around, IsHeld, IsOneTalk, plan_on}
use Rattle.exchange.specs.Requests.{Errand, allows, own_kind, plan_for}
use Rattle.exchange.specs.Rounds.{IsRound, Round, Scene}
use Rattle.exchange.specs.declared.ending.ExchangeEnd.{ExchangeEnd}
use Rattle.exchange.specs.declared.ending.ExchangeEnd.TheVariants as exchange_end

-- The talk after which an exchange ended. Before it nothing was written to the client, and just the first piece was
-- taken of the body.
pub record HasLastTalk (q : Errand) (member : ℕ) (s n : Around) (end : TalkEnd) : Type 0 where
  pub config : MemberConfig
  pub endpoint : Endpoint
  pub configured : slice_get q.balancer.book.members member ≡ Some config
  pub reached : slice_get q.balancer.ends member ≡ Some endpoint
  pub first : List ℕ
  pub fresh : Bool
  pub begun : Around
  pub piece : IfSome (data_at s.body) (λ d. first ≡ take (first_len q.head.plan q.balancer.ends) d.bytes)
  pub takes : TakesOfBody s.body begun.body first
  pub left : data_at begun.body ≡ dropped (first_len q.head.plan q.balancer.ends) (data_at s.body)
  pub unwritten : begun.client.sent ≡ s.client.sent
  pub others : List Talk
  pub noted : begun.talks ≡ appended s.talks others
  pub talk : IsHeld q.lb member endpoint (plan_for q first config endpoint) fresh begun n (Ok end)

-- the plan of that talk
abbrev pub plan_in : (q : Errand) (member : ℕ) (s n : Around) (end : TalkEnd) → HasLastTalk q member s n end → TalkPlan
plan_in q member s n end last = plan_for q last.first last.config last.endpoint

-- The last talk that the reach noted is one with this member, and what it received is CPong, where it pings, and these bytes.
pub record IsNotedLast (member : ℕ) (endpoint : Endpoint) (plan : TalkPlan) (came : List ℕ) (s n : Around) : Type 0 where
  pub others : List Talk
  pub note : Talk
  pub talks : n.talks ≡ appended s.talks (others ++ note ∷ [])
  pub with_member : note.member ≡ member
  pub received : note.received ≡ pong_of (plan_on plan endpoint note.dialled) ++ came

-- The client has the whole reply of these messages, and the body stands where it was taken to.
pub record GetsReply (q : Errand) (member : ℕ) (told : Told) (s n : Around) : Type 0 where
  pub reuse : Bool
  pub moved : ℕ
  pub last : HasLastTalk q member s n (ends.Done told reuse moved)
  pub past : List Message
  pub came : List ℕ
  pub reply : IsReply (plan_in q member s n (ends.Done told reuse moved) last) (End reuse ∷ past) came
  pub unlisted : IsUnlisted (plan_in q member s n (ends.Done told reuse moved) last) past
  pub noted : IsNotedLast member last.endpoint (plan_in q member s n (ends.Done told reuse moved) last) came s n
  pub written : n.client.sent ≡ appended s.client.sent (reply_of_talk (plan_in q member s n (ends.Done told reuse moved) last) past)
  pub taken : List ℕ
  pub takes : TakesOfBody s.body n.body taken

-- how a talk ends that leaves a reply broken off
abbrev pub IsBreak : TalkEnd → Told → Type 0
IsBreak (ends.Done told reuse moved) t = ⊥
IsBreak (ends.Failed stage cause told moved) t = told ≡ Some t
IsBreak (ends.ClientGone truncated keep moved) t = ⊥
IsBreak (ends.BadBody status told passed moved) t = told ≡ Some t

-- The client has what the accepted messages make of a reply so far, at least a byte.
pub record GetsCut (q : Errand) (member : ℕ) (told : Told) (s n : Around) : Type 0 where
  pub end : TalkEnd
  pub is_break : IsBreak end told
  pub last : HasLastTalk q member s n end
  pub past : List Message
  pub came : List ℕ
  pub rest : List ℕ
  pub noted : IsNotedLast member last.endpoint (plan_in q member s n end last) (came ++ rest) s n
  pub accepts : Accepts (plan_in q member s n end last) past came
  pub passed : passed_of (plan_in q member s n end last) past ≡ true
  pub written : n.client.sent ≡ appended s.client.sent (so_far_of_talk (plan_in q member s n end last) past)

-- A front of what accepted messages make of a reply, so far or whole, was written. They came in the last talk.
pub record GetsReplyFront (q : Errand) (s n : Around) : Type 0 where
  pub member : ℕ
  pub config : MemberConfig
  pub endpoint : Endpoint
  pub configured : slice_get q.balancer.book.members member ≡ Some config
  pub reached : slice_get q.balancer.ends member ≡ Some endpoint
  pub first : List ℕ
  pub past : List Message
  pub came : List ℕ
  pub rest : List ℕ
  pub spelled : Spelled endpoint.packet past came
  pub front : IsFrontOrForm past
  pub noted : IsNotedLast member endpoint (plan_for q first config endpoint) (came ++ rest) s n
  pub whole : List ℕ
  pub is_due : (whole ≡ so_far_of_talk (plan_for q first config endpoint) past) ⊎ (whole ≡ bytes_for (plan_for q first config endpoint) past)
  pub written : PutsFront s.client.sent n.client.sent whole

-- A front of an own answer was written.
pub record GetsOwnFront (q : Errand) (s n : Around) : Type 0 where
  pub status : ℕ
  pub own : Own
  pub is_own : own_of status ≡ Some own
  pub written : PutsFront s.client.sent n.client.sent (own_bytes own (own_kind q))

-- Not all of one was.
pub record GetsOwnShort (q : Errand) (s n : Around) : Type 0 where
  pub status : ℕ
  pub own : Own
  pub is_own : own_of status ≡ Some own
  pub written : PutsShort s.client.sent n.client.sent (own_bytes own (own_kind q))

-- Nothing was written, or a front of what the client was to get.
abbrev pub GetsFront : Errand → Around → Around → Type 0
GetsFront q s n = (n.client.sent ≡ s.client.sent) ⊎ (GetsOwnFront q s n ⊎ GetsReplyFront q s n)

-- The same, where memory was wanted: so an own answer isn't whole.
abbrev pub GetsLess : Errand → Around → Around → Type 0
GetsLess q s n = (n.client.sent ≡ s.client.sent) ⊎ (GetsOwnShort q s n ⊎ GetsReplyFront q s n)

-- The receipts that were added end with one of this answer.
pub record EndsWith (old new : DeskState) (answer' : Answer) : Type 0 where
  pub before : List Receipt
  pub last : Receipt
  pub receipts : new.receipts ≡ old.receipts ++ (before ++ last ∷ [])
  pub answered : last.entry.answer ≡ answer'

-- The last talk failed by this cause, no byte was passed, and its member's options forbid another try.
pub record GivesUp (q : Errand) (s n : Around) (cause : Cause) : Type 0 where
  pub member : ℕ
  pub config : MemberConfig
  pub endpoint : Endpoint
  pub configured : slice_get q.balancer.book.members member ≡ Some config
  pub reached : slice_get q.balancer.ends member ≡ Some endpoint
  pub first : List ℕ
  pub fresh : Bool
  pub begun : Around
  pub over : Around
  pub stage : Stage
  pub moved : ℕ
  pub talk : IsOneTalk q.lb member endpoint (plan_for q first config endpoint) fresh begun over (Ok (ends.Failed stage cause None moved))
  pub forbidden : allows endpoint q.head stage ≡ false
  pub rest : n ≡ record over { client = n.client }

-- The member that the desk chose takes no packet that holds the Forward Request. After its lease came back the client alone
-- was written to.
pub record IsTooLarge (q : Errand) (n : Scene) : Type 0 where
  pub first : List ℕ
  pub tried : ℕ
  pub fresh : Bool
  pub begun : Scene
  pub over : Scene
  pub round : Round
  pub chosen : IsRound q first tried fresh begun over round None
  pub unfit : FitsForward round.endpoint.packet (forward_for q.head q.peer q.balancer.book.direct round.config round.endpoint) → ⊥
  pub rest : n ≡ record over { around = record over.around { client = n.around.client } }

-- The last talk answered an ask, passed nothing, and found the body bad.
pub record MeetsBody (q : Errand) (s n : Around) (status : ℕ) : Type 0 where
  pub member : ℕ
  pub passed : Bool
  pub moved : ℕ
  pub over : Around
  pub last : HasLastTalk q member s over (ends.BadBody status None passed moved)
  pub rest : n ≡ record over { client = n.client }

-- The client has this own answer whole. Its cause is by its status: a talk came to a bad chunk line; a packet is too large for
-- the member that was chosen, or a talk reached the body's limit; a session's member doesn't serve, or a journal is full; a talk
-- failed, for 503 by its reply's status; or there is no member to choose.
pub record GetsOwn (q : Errand) (status : ℕ) (s n : Scene) : Type 0 where
  pub own : Own
  pub is_own : own_of status ≡ Some own
  pub written : n.around.client.sent ≡ appended s.around.client.sent (own_bytes own (own_kind q))
  pub bad_line : status ≡ 400
      → MeetsBody q s.around n.around 400 × IfSome (data_at s.around.body) (λ d. (d.whole ≡ false) × (d.bad ≡ true))
  pub too_large : status ≡ 413 → IsTooLarge q n ⊎ (MeetsBody q s.around n.around 413
      × IfSome (data_at s.around.body) (λ d. most_of s.around.body.body ≤ taken_of s.around.body.body + length d.bytes))
  pub internal : status ≡ 500 → EndsWith s.desk n.desk answer.Forced ⊎ Rose s.desk.fulls n.desk.fulls
  pub gateway : status ≡ 502 → (cause : Cause) × (is_status cause ≡ false) × GivesUp q s.around n.around cause
  pub unavailable : status ≡ 503
      → EndsWith s.desk n.desk answer.NoMember ⊎ ((cause : Cause) × (is_status cause ≡ true) × GivesUp q s.around n.around cause)

-- The client by the end of the exchange. Truncated comes only where its bytes ended within the body, ClientFault
-- only where its faults rose, and Stray only where the desk's strays rose.
abbrev pub GivesClient : Errand → Scene → Scene → ExchangeEnd → Type 0
GivesClient q s n (exchange_end.Done member told) = GetsReply q member told s.around n.around
GivesClient q s n (exchange_end.Own status) = GetsOwn q status s n
GivesClient q s n (exchange_end.Cut member told) = GetsCut q member told s.around n.around
GivesClient q s n exchange_end.ClientFault = Rose s.around.client.faults n.around.client.faults × GetsFront q s.around n.around
GivesClient q s n exchange_end.Truncated =
    IfSome (data_at s.around.body) (λ d. (d.whole ≡ false) × (d.bad ≡ false)) × GetsFront q s.around n.around
GivesClient q s n (exchange_end.Stray ticket returned_at) = Rose s.desk.strays n.desk.strays × GetsFront q s.around n.around
GivesClient q s n exchange_end.NoMemory = GetsLess q s.around n.around

-- A stray was met where the exchange ended by one, which is the end's, and there alone.
abbrev pub MeetsAt : ExchangeEnd → DeskState → DeskState → Type 0
MeetsAt (exchange_end.Done member told) old new = MeetsNone old new
MeetsAt (exchange_end.Own status) old new = MeetsNone old new
MeetsAt (exchange_end.Cut member told) old new = MeetsNone old new
MeetsAt exchange_end.ClientFault old new = MeetsNone old new
MeetsAt exchange_end.Truncated old new = MeetsNone old new
MeetsAt (exchange_end.Stray ticket returned_at) old new =
    RisesByOne old.strays new.strays × (new.met ≡ first_stray old.met (record { ticket = ticket; returned_at = returned_at }))
MeetsAt exchange_end.NoMemory old new = MeetsNone old new

abbrev pub MeetsThere : Errand → Scene → Scene → ExchangeEnd → Type 0
MeetsThere q s n end = MeetsAt end s.desk n.desk
