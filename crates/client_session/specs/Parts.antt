-- The bytes that a session's client has: the parts of its requests, joined in order.
use Rattle.std.specs.Prelude.{ℕ, zero, suc, ◌≡◌, ◌≢◌, ◌+◌, ◌⊎◌, Bool, true, false, List, [], ◌∷◌, ◌++◌, Option, Some, slice_get}
use Rattle.jk_io.specs.Told.{appended, prepended}
use Rattle.jk_io.specs.declared.reaching.Talk.{Talk}
use Rattle.lb_model.specs.declared.member.MemberConfig.{MemberConfig}
use Rattle.http_front.specs.Request.{IsHeadOf}
use Rattle.http_front.specs.declared.head.Head.{Head}
use Rattle.http_front.specs.Body.{place_behind}
use Rattle.http_front.specs.Places.{is_whole, start_of}
use Rattle.http_front.specs.declared.place.Place.{Place}
use Rattle.ajp_reply.specs.Stream.{Spelled}
use Rattle.ajp_reply.specs.declared.message.Message.{Message}
use Rattle.ajp_reply.specs.declared.message.Message.TheVariants.{End}
use Rattle.ajp_talk.specs.Moments.{IsFrontOf}
use Rattle.ajp_talk.specs.Owed.{pong_of}
use Rattle.ajp_talk.specs.Replies.{IsReply, bytes_for, passed_of, reply_of_talk, so_far_of_talk}
use Rattle.ajp_talk.specs.Talk.{Accepts, IsFrontOrForm}
use Rattle.ajp_talk.specs.declared.plan.TalkPlan.{TalkPlan}
use Rattle.site_config.specs.declared.balancer.Lb.{Lb}
use Rattle.site_config.specs.declared.config.Named.TheVariants as named
use Rattle.site_config.specs.declared.config.Status.{Status}
use Rattle.site_config.specs.declared.endpoint.Endpoint.{Endpoint}
use Rattle.status_worker.specs.Mimes.{mime_of}
use Rattle.status_worker.specs.declared.page.PagePart.{PagePart}
use Rattle.status_worker.specs.Pages.{page_reply, shown_for}
use Rattle.status_worker.specs.Refusals.{refusal_bytes}
use Rattle.status_worker.specs.declared.refusal.PageRefusal.{PageRefusal}
use Rattle.exchange.specs.OneTalk.{plan_on}
use Rattle.exchange.specs.Requests.{plan_for}
use Rattle.client_session.specs.Answers.{IsAtStatus, errand_at, own_for}
use Rattle.httpdate.specs.declared.date.HttpDate.{HttpDate}
use Rattle.client_session.specs.Moments.{IsTold}
use Rattle.client_session.specs.Requests.{Visit, continue_for, is_last, kind_at, mounted_at, own_kind_at, refused_kind, visit_at}
use Rattle.client_session.specs.Standings.{ClientStanding}
use Rattle.client_session.specs.declared.ending.SessionEnd.{SessionEnd}
use Rattle.client_session.specs.declared.ending.SessionStop.{SessionStop}
use Rattle.client_session.specs.declared.ending.SessionStop.TheVariants as stop
use Rattle.client_session.specs.declared.ending.Why.TheVariants as why

-- ---- what a request may be answered with

-- A talk that the request may have, with a member of the balancer where it is mounted.
pub record IsPlanFor (v : Visit) (head : Head) (last : Bool) (plan : TalkPlan) : Type 0 where
  pub lb : ℕ
  pub balancer : Lb
  pub mounted : mounted_at v head ≡ Some (named.Balancer lb)
  pub stands : slice_get v.cfg.lbs lb ≡ Some balancer
  pub member : ℕ
  pub config : MemberConfig
  pub endpoint : Endpoint
  pub configured : slice_get balancer.book.members member ≡ Some config
  pub reached : slice_get balancer.ends member ≡ Some endpoint
  pub first : List ℕ
  pub is : plan ≡ plan_for (errand_at v head last lb balancer) first config endpoint

-- The last of these talks is one with the plan's member, and received CPong, where it pings, and these bytes.
pub record EndInTalk (v : Visit) (head : Head) (last : Bool) (plan : TalkPlan) (is : IsPlanFor v head last plan) (talks : List Talk) (came : List ℕ) : Type 0 where
  pub others : List Talk
  pub note : Talk
  pub split : talks ≡ others ++ note ∷ []
  pub with_member : note.member ≡ is.member
  pub received : note.received ≡ pong_of (plan_on plan is.endpoint note.dialled) ++ came

-- the bytes that a member's messages name, which are a whole reply; they came in the last of these talks
abbrev pub IsReplyFor : Visit → Head → (last : Bool) → List Talk → List ℕ → Type 0
IsReplyFor v head last talks bytes =
    (plan : TalkPlan) × (past : List Message) × (reuse : Bool) × (came : List ℕ) × (is : IsPlanFor v head last plan)
    × IsReply plan (End reuse ∷ past) came × EndInTalk v head last plan is talks came × (bytes ≡ reply_of_talk plan past)

-- those of a reply that broke off, after a byte of it was passed
abbrev pub IsCutFor : Visit → Head → (last : Bool) → List Talk → List ℕ → Type 0
IsCutFor v head last talks bytes =
    (plan : TalkPlan) × (past : List Message) × (came : List ℕ) × (rest : List ℕ) × (is : IsPlanFor v head last plan)
    × Accepts plan past came × EndInTalk v head last plan is talks (came ++ rest) × (passed_of plan past ≡ true)
    × (bytes ≡ so_far_of_talk plan past)

-- those of a page of the status worker where it is mounted, for which no talk was held
abbrev pub IsPageFor : Visit → Head → (last : Bool) → List Talk → List ℕ → Type 0
IsPageFor v head last talks bytes =
    (status : Status) × (parts : List PagePart) × IsAtStatus v head status × (talks ≡ [])
    × (bytes ≡ page_reply (mime_of head.query) (kind_at v head last) (shown_for status head.query parts))

-- those of the refusal in its place
abbrev pub IsRefusalFor : Visit → Head → PageRefusal → List Talk → List ℕ → Type 0
IsRefusalFor v head refusal talks bytes =
    (status : Status) × IsAtStatus v head status × (talks ≡ []) × (bytes ≡ refusal_bytes refusal (own_kind_at v head))

-- 100 Continue where it is due, and then a whole reply or a page
abbrev pub IsWholeAnswer : Visit → Head → (last : Bool) → List Talk → List ℕ → Type 0
IsWholeAnswer v head last talks written =
    (answer : List ℕ) × (written ≡ continue_for head ++ answer) × (IsReplyFor v head last talks answer ⊎ IsPageFor v head last talks answer)

-- an own answer, or 100 Continue and then an own answer
abbrev pub IsOwnAnswer : Visit → Head → (status : ℕ) → List ℕ → Type 0
IsOwnAnswer v head status written =
    (written ≡ own_for status (own_kind_at v head)) ⊎ (written ≡ continue_for head ++ own_for status (own_kind_at v head))

-- 100 Continue where it is due, and then that refusal
abbrev pub IsRefusalAnswer : Visit → Head → PageRefusal → List Talk → List ℕ → Type 0
IsRefusalAnswer v head refusal talks written =
    (answer : List ℕ) × (written ≡ continue_for head ++ answer) × IsRefusalFor v head refusal talks answer

-- 100 Continue where it is due, and then a page, or a refusal in its place
abbrev pub IsPageAnswer : Visit → Head → (last : Bool) → List Talk → List ℕ → Type 0
IsPageAnswer v head last talks written =
    (answer : List ℕ) × (written ≡ continue_for head ++ answer)
    × (IsPageFor v head last talks answer ⊎ ((refusal : PageRefusal) × IsRefusalFor v head refusal talks answer))

-- 100 Continue where it is due, and then what messages that came in the last of these talks make of a reply, so far or whole
abbrev pub IsDueAnswer : Visit → Head → (last : Bool) → List Talk → List ℕ → Type 0
IsDueAnswer v head last talks written =
    (plan : TalkPlan) × (past : List Message) × (came : List ℕ) × (rest : List ℕ) × (due : List ℕ) × (is : IsPlanFor v head last plan)
    × Spelled plan.packet past came × IsFrontOrForm past × EndInTalk v head last plan is talks (came ++ rest)
    × ((due ≡ so_far_of_talk plan past) ⊎ (due ≡ bytes_for plan past)) × (written ≡ continue_for head ++ due)

-- ---- the requests that were served

-- A request's part of a session: its own bytes, those that the client got for it, and the talks that were held for it.
pub record SessionPart : Type 0 where
  pub taken : List ℕ
  pub written : List ℕ
  pub talks : List Talk

abbrev pub taken_in : List SessionPart → List ℕ
taken_in [] = []
taken_in (part ∷ parts) = part.taken ++ taken_in parts

abbrev pub written_in : List SessionPart → List ℕ
written_in [] = []
written_in (part ∷ parts) = part.written ++ written_in parts

abbrev pub talks_in : List SessionPart → List Talk
talks_in [] = []
talks_in (part ∷ parts) = part.talks ++ talks_in parts

-- The bytes are one request whole: its head, and its body to the end.
pub record IsRequestWhole (head : Head) (bytes : List ℕ) : Type 0 where
  pub front : List ℕ
  pub rest : List ℕ
  pub place : Place
  pub joined : bytes ≡ front ++ rest
  pub is_head : IsHeadOf front head
  pub body : place_behind rest (start_of head.plan) ≡ Some place
  pub whole : is_whole place ≡ true

-- A request that isn't last, and its whole answer, with a moment of its own. It is the one after `number` others.
pub record IsSessionPart (v : Visit) (number : ℕ) (part : SessionPart) : Type 0 where
  pub date : Option HttpDate
  pub told : IsTold v date
  pub head : Head
  pub request : IsRequestWhole head part.taken
  pub more : is_last number head ≡ false
  pub answer : IsWholeAnswer (visit_at v date) head (is_last number head) part.talks part.written

-- the parts of that number of requests, in order
abbrev pub AreParts : Visit → (number : ℕ) → List SessionPart → Type 0
AreParts v zero parts = parts ≡ []
AreParts v (suc number) parts =
    (before : List SessionPart) × (part : SessionPart) × AreParts v number before × IsSessionPart v number part × (parts ≡ before ++ part ∷ [])

-- ---- the request that ended the session

-- a front of what was to be written, maybe all of it and maybe nothing
abbrev pub IsFrontOfAnswer : Visit → (number : ℕ) → List Talk → List ℕ → Type 0
IsFrontOfAnswer v number talks bytes =
    (bytes ≡ [])
    ⊎ (((status : ℕ) × IsFrontOf bytes (own_for status (refused_kind v.date)))
    ⊎ ((head : Head) × (whole : List ℕ) × IsFrontOf bytes whole
    × ((whole ≡ continue_for head) ⊎ (((status : ℕ) × IsOwnAnswer v head status whole)
    ⊎ (IsPageAnswer v head (is_last number head) talks whole ⊎ IsDueAnswer v head (is_last number head) talks whole)))))

-- the first bytes of others, and not all of them
pub record IsShortOf (front whole : List ℕ) : Type 0 where
  pub rest : List ℕ
  pub joined : whole ≡ front ++ rest
  pub some : rest ≢ []

-- the same, where memory was wanted: an own answer, a page or a refusal isn't whole
abbrev pub IsLessOfAnswer : Visit → (number : ℕ) → List Talk → List ℕ → Type 0
IsLessOfAnswer v number talks bytes =
    (bytes ≡ [])
    ⊎ (((status : ℕ) × IsShortOf bytes (own_for status (refused_kind v.date)))
    ⊎ ((head : Head) × (whole : List ℕ)
    × ((IsFrontOf bytes whole × ((whole ≡ continue_for head) ⊎ IsDueAnswer v head (is_last number head) talks whole))
    ⊎ (IsShortOf bytes whole × (((status : ℕ) × IsOwnAnswer v head status whole) ⊎ IsPageAnswer v head (is_last number head) talks whole)))))

-- the answer was whole, and the rest of its request wasn't read
abbrev pub IsUnreadAnswer : Visit → (number : ℕ) → (requests : ℕ) → List Talk → List ℕ → Type 0
IsUnreadAnswer v number requests talks bytes =
    (requests ≡ number + 1) × ((head : Head) × (is_last number head ≡ false) × IsWholeAnswer v head (is_last number head) talks bytes)

-- The bytes that the client got after the parts, by why the session ended and how many requests it counts, and the talks
-- that were held for the request that ended it.
abbrev pub IsLastWritten : Visit → (number : ℕ) → (requests : ℕ) → SessionStop → List Talk → List ℕ → Type 0
IsLastWritten v number requests (stop.Closed why.ByClient) talks bytes = (requests ≡ number) × (bytes ≡ []) × (talks ≡ [])
IsLastWritten v number requests (stop.Closed why.Idle) talks bytes = (requests ≡ number) × (bytes ≡ []) × (talks ≡ [])
IsLastWritten v number requests (stop.Closed why.Last) talks bytes =
    (requests ≡ number + 1) × ((head : Head) × (is_last number head ≡ true) × IsWholeAnswer v head (is_last number head) talks bytes)
IsLastWritten v number requests (stop.Closed (why.Own status)) talks bytes =
    (requests ≡ number) × ((bytes ≡ own_for status (refused_kind v.date)) ⊎ ((head : Head) × IsOwnAnswer v head status bytes))
IsLastWritten v number requests (stop.Closed (why.Refused refusal)) talks bytes =
    (requests ≡ number) × ((head : Head) × IsRefusalAnswer v head refusal talks bytes)
IsLastWritten v number requests (stop.Closed why.Cut) talks bytes =
    (requests ≡ number)
    × ((head : Head) × (reply : List ℕ) × IsCutFor v head (is_last number head) talks reply × (bytes ≡ continue_for head ++ reply))
IsLastWritten v number requests (stop.Closed why.Unread) talks bytes = IsUnreadAnswer v number requests talks bytes
IsLastWritten v number requests stop.ClientFault talks bytes =
    ((requests ≡ number) × IsFrontOfAnswer v number talks bytes) ⊎ IsUnreadAnswer v number requests talks bytes
IsLastWritten v number requests stop.Truncated talks bytes =
    ((requests ≡ number) × IsFrontOfAnswer v number talks bytes) ⊎ IsUnreadAnswer v number requests talks bytes
IsLastWritten v number requests (stop.Stray ticket returned_at) talks bytes =
    (requests ≡ number) × IsFrontOfAnswer v number talks bytes
IsLastWritten v number requests stop.NoMemory talks bytes =
    ((requests ≡ number) × IsLessOfAnswer v number talks bytes) ⊎ IsUnreadAnswer v number requests talks bytes

-- The client's bytes begin with the requests that were served. It got their answers joined, and then what the end says. The
-- reach noted the talks of each of them, in order.
pub record HasParts (v : Visit) (s n : ClientStanding) (end : SessionEnd) : Type 0 where
  pub number : ℕ
  pub parts : List SessionPart
  pub are : AreParts v number parts
  pub last : List ℕ
  pub last_talks : List Talk
  pub date : Option HttpDate
  pub told : IsTold v date
  pub is_last : IsLastWritten (visit_at v date) number end.requests end.stop last_talks last
  pub left : Option (List ℕ)
  pub used : s.client.incoming ≡ prepended (taken_in parts) left
  pub written : n.client.sent ≡ appended s.client.sent (written_in parts ++ last)
  pub talks : n.reach.talks ≡ appended s.reach.talks (talks_in parts ++ last_talks)
