-- The end of a session as the client's bytes decide it, and the cause of each own answer, by its status or refusal.
use Rattle.std.specs.Prelude.{ℕ, ◌≡◌, ◌≢◌, ◌≤◌, ◌+◌, ◌⊎◌, Bool, true, false, List, ◌++◌, length, Some, None, IfSome}
use Rattle.jk_io.specs.Told.{Rose}
use Rattle.lb_model.specs.declared.journal.Answer.TheVariants as answer
use Rattle.http_front.specs.Refusal.{status_of}
use Rattle.http_front.specs.Request.{AreEmptyLines, EndsInHead, IsHeadOf, Refuses}
use Rattle.http_front.specs.declared.answers.Form.{Form}
use Rattle.http_front.specs.declared.head.Head.{Head}
use Rattle.http_front.specs.State.{most_of, taken_of}
use Rattle.http_front.specs.declared.body.BodyIn.{BodyIn}
use Rattle.ajp_talk.specs.declared.ending.Cause.{Cause}
use Rattle.ajp_talk.specs.Moments.{data_at}
use Rattle.exchange.specs.Clients.{EndsWith, GivesUp, IsTooLarge, MeetsBody}
use Rattle.exchange.specs.Ends.{is_status}
use Rattle.exchange.specs.declared.ending.ExchangeEnd.TheVariants as exchange_end
use Rattle.site_config.specs.declared.config.Status.{Status}
use Rattle.status_worker.specs.Commands.{IsRefusedQuery}
use Rattle.status_worker.specs.declared.refusal.PageRefusal.{PageRefusal}
use Rattle.status_worker.specs.declared.refusal.PageRefusal.TheVariants as refusal_is
use Rattle.client_session.specs.Answers.{IsAtStatus, IsForwarded, IsToldOn, IsTurnedAway, errand_at}
use Rattle.client_session.specs.Ends.{end_of}
use Rattle.client_session.specs.Requests.{Visit, is_last, mounted_at}
use Rattle.client_session.specs.Sessions.{ReadsHead, ReadsRefused}
use Rattle.client_session.specs.Standings.{ClientStanding, unread_at, with_body}
use Rattle.client_session.specs.declared.ending.SessionEnd.{SessionEnd}
use Rattle.client_session.specs.declared.ending.SessionStop.{SessionStop}
use Rattle.client_session.specs.declared.ending.SessionStop.TheVariants as stop
use Rattle.client_session.specs.declared.ending.Why.TheVariants as why

-- ---- what the bytes decide

-- P, unless the client failed or was left while it waited, or memory was wanted
abbrev pub Calmly : SessionStop → Type 0 → Type 0
Calmly (stop.Closed why.ByClient) P = P
Calmly (stop.Closed why.Idle) P = Unit {0}
Calmly (stop.Closed why.Last) P = P
Calmly (stop.Closed (why.Own code)) P = P
Calmly (stop.Closed (why.Refused refusal)) P = P
Calmly (stop.Closed why.Cut) P = P
Calmly (stop.Closed why.Unread) P = P
Calmly stop.ClientFault P = Unit {0}
Calmly stop.Truncated P = P
Calmly (stop.Stray ticket returned_at) P = P
Calmly stop.NoMemory P = Unit {0}

-- These are the bytes that no request used when `number` of them had been served, and the session ended after that many or at
-- the next one: at empty lines alone by the client; within a head cut off; at a refused head by its own answer; at a head that
-- is mounted nowhere by 404; and at one that a status worker refuses by that refusal.
pub record DecidesEnd (v : Visit) (number : ℕ) (bytes : List ℕ) (end : SessionEnd) : Type 0 where
  pub over : AreEmptyLines bytes → Calmly end.stop (end ≡ end_of (stop.Closed why.ByClient) number)
  pub cut : EndsInHead bytes → Calmly end.stop (end ≡ end_of stop.Truncated number)
  pub refused : (form : Form) → Refuses bytes form → Calmly end.stop (end ≡ end_of (stop.Closed (why.Own (status_of form))) number)
  pub unmounted : (used rest : List ℕ) (head : Head) → bytes ≡ used ++ rest → IsHeadOf used head → mounted_at v head ≡ None
      → Calmly end.stop (end ≡ end_of (stop.Closed (why.Own 404)) number)
  pub turned_away : (used rest : List ℕ) (head : Head) (status : Status) (refusal : PageRefusal) → bytes ≡ used ++ rest → IsHeadOf used head
      → IsAtStatus v head status → IsRefusedQuery v.cfg status head.query refusal
      → Calmly end.stop (end ≡ end_of (stop.Closed (why.Refused refusal)) number)

-- ---- why an own answer was given

-- the head is refused for a form of that status
abbrev pub RefusesAs : ClientStanding → (code : ℕ) → Type 0
RefusesAs s code = (read : ClientStanding) × (form : Form) × ReadsRefused s read form × (status_of form ≡ code)

-- the head is mounted nowhere
abbrev pub IsUnmounted : Visit → ClientStanding → Type 0
IsUnmounted v s = (read : ClientStanding) × (head : Head) × ReadsHead s read head × (mounted_at v head ≡ None)

-- A status worker's request was refused for this reason, and has no page.
pub record HasNoPage (v : Visit) (s n : ClientStanding) (refusal : PageRefusal) : Type 0 where
  pub head : Head
  pub read : ClientStanding
  pub reads : ReadsHead s read head
  pub begun : ClientStanding
  pub told_on : IsToldOn v head read begun
  pub status : Status
  pub at : IsAtStatus v head status
  pub asked : ClientStanding
  pub turned : IsTurnedAway v status head.query begun asked refusal
  pub desk : n.desk ≡ asked.desk

-- A request that was forwarded got this own answer.
pub record HasNoReply (v : Visit) (number : ℕ) (s n : ClientStanding) (code : ℕ) : Type 0 where
  pub head : Head
  pub read : ClientStanding
  pub reads : ReadsHead s read head
  pub begun : ClientStanding
  pub told_on : IsToldOn v head read begun
  pub body : BodyIn
  pub body' : BodyIn
  pub forwarded : IsForwarded v head (is_last number head) begun n body body' (exchange_end.Own code)

-- Its last talk failed, with no byte passed, and the member's options forbid another try: by the status of the reply, or by
-- another cause.
abbrev pub GaveUp : (v : Visit) (number : ℕ) (s n : ClientStanding) (code : ℕ) → HasNoReply v number s n code → (by_status : Bool) → Type 0
GaveUp v number s n code r by_status =
    (cause : Cause) × (is_status cause ≡ by_status)
    × GivesUp (errand_at v r.head (is_last number r.head) r.forwarded.lb r.forwarded.balancer) (with_body r.begun r.body).around (with_body n r.body').around cause

-- its talk, which answered an ask with nothing passed, came to a bad line of the body
abbrev pub HasBadLine : (v : Visit) (number : ℕ) (s n : ClientStanding) (code : ℕ) → HasNoReply v number s n code → Type 0
HasBadLine v number s n code r =
    MeetsBody (errand_at v r.head (is_last number r.head) r.forwarded.lb r.forwarded.balancer) (with_body r.begun r.body).around (with_body n r.body').around 400
    × IfSome (data_at (with_body r.begun r.body).around.body) (λ d. (d.whole ≡ false) × (d.bad ≡ true))

-- its Forward Request is too large for the member that was chosen, or its talk reached the body's limit
abbrev pub IsTooMuch : (v : Visit) (number : ℕ) (s n : ClientStanding) (code : ℕ) → HasNoReply v number s n code → Type 0
IsTooMuch v number s n code r =
    IsTooLarge (errand_at v r.head (is_last number r.head) r.forwarded.lb r.forwarded.balancer) (with_body n r.body')
    ⊎ (MeetsBody (errand_at v r.head (is_last number r.head) r.forwarded.lb r.forwarded.balancer) (with_body r.begun r.body).around (with_body n r.body').around 413
    × IfSome (data_at (with_body r.begun r.body).around.body) (λ d. most_of r.body ≤ taken_of r.body + length d.bytes))

-- The cause of an own answer, by its status. A standing of the request's begin and one of its end tell which receipts and
-- counts of the desk are the request's.
pub record HasOwnCause (v : Visit) (number : ℕ) (s n : ClientStanding) (code : ℕ) : Type 0 where
  pub bad_request : code ≡ 400
      → RefusesAs s 400 ⊎ ((r : HasNoReply v number s n code) × HasBadLine v number s n code r)
  pub forbidden : code ≢ 403
  pub not_found : code ≡ 404 → IsUnmounted v s
  pub too_large : code ≡ 413 → RefusesAs s 413 ⊎ ((r : HasNoReply v number s n code) × IsTooMuch v number s n code r)
  pub many_fields : code ≡ 431 → RefusesAs s 431
  pub internal : code ≡ 500 → EndsWith s.desk.state n.desk.state answer.Forced ⊎ Rose s.desk.state.fulls n.desk.state.fulls
  pub unbuilt : code ≡ 501 → RefusesAs s 501
  pub gateway : code ≡ 502 → (r : HasNoReply v number s n code) × GaveUp v number s n code r false
  pub unavailable : code ≡ 503
      → EndsWith s.desk.state n.desk.state answer.NoMember ⊎ ((r : HasNoReply v number s n code) × GaveUp v number s n code r true)

-- The cause of a refusal: the status worker's request has no page for this reason. Where it says that the journal is full, the
-- desk's count of that rose.
pub record HasRefusalCause (v : Visit) (s n : ClientStanding) (refusal : PageRefusal) : Type 0 where
  pub page : HasNoPage v s n refusal
  pub full : refusal ≡ refusal_is.Full → Rose s.desk.state.fulls n.desk.state.fulls

-- P of an end by an own answer, and Q of one by a refusal
abbrev pub IfOwn : SessionStop → (P : ℕ → Type 0) → (Q : PageRefusal → Type 0) → Type 0
IfOwn (stop.Closed why.ByClient) P Q = Unit {0}
IfOwn (stop.Closed why.Idle) P Q = Unit {0}
IfOwn (stop.Closed why.Last) P Q = Unit {0}
IfOwn (stop.Closed (why.Own code)) P Q = P code
IfOwn (stop.Closed (why.Refused refusal)) P Q = Q refusal
IfOwn (stop.Closed why.Cut) P Q = Unit {0}
IfOwn (stop.Closed why.Unread) P Q = Unit {0}
IfOwn stop.ClientFault P Q = Unit {0}
IfOwn stop.Truncated P Q = Unit {0}
IfOwn (stop.Stray ticket returned_at) P Q = Unit {0}
IfOwn stop.NoMemory P Q = Unit {0}

-- an own answer or a refusal at the end has its cause
abbrev pub IsOwnCaused : Visit → SessionEnd → (number : ℕ) → (s n : ClientStanding) → Type 0
IsOwnCaused v end number s n = IfOwn end.stop (HasOwnCause v number s n) (HasRefusalCause v s n)

-- where they are told, the bytes that no request used decide the end
abbrev pub IsDecided : Visit → SessionEnd → (number : ℕ) → (s n : ClientStanding) → Type 0
IsDecided v end number s n = (bytes : List ℕ) → unread_at s ≡ Some bytes → DecidesEnd v number bytes end
