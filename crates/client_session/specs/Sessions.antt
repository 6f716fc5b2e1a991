-- A session whole: which requests its client's bytes are, what each gives, where it ends and why. Read this first.
--
-- It is a chain of standings. Each request leads from one to the next, and what it wrote is added to what the client had.
-- So the client has the parts of its requests joined, in order: 100 Continue where it is due, then a reply, a page, a refusal
-- or an own answer; and a front of the last part where that broke off.
use Rattle.std.specs.Prelude.{ℕ, zero, suc, ◌≡◌, ◌+◌, ◌<◌, ◌⊎◌, true, false, List, [], ◌∷◌, ◌++◌, Option, None}
use Rattle.jk_io.specs.Told.{IsEmpty, Rose}
use Rattle.lb_model.specs.declared.served.Asked.TheVariants as asked
use Rattle.lb_model.specs.declared.served.Served.{Served}
use Rattle.http_front.specs.Answer.{UsesEnd, UsesHead}
use Rattle.http_front.specs.Refusal.{status_of}
use Rattle.http_front.specs.Request.{EndsInHead, Refuses}
use Rattle.http_front.specs.declared.answers.Form.{Form}
use Rattle.http_front.specs.declared.head.Head.{Head}
use Rattle.http_front.specs.State.{failed_of}
use Rattle.http_front.specs.Takes.{MeetsFault, PassesRest, body_at}
use Rattle.http_front.specs.Wants.{Rest}
use Rattle.http_front.specs.declared.body.BodyIn.{BodyIn}
use Rattle.http_front.specs.declared.fault.BodyFault.{BodyFault}
use Rattle.http_front.specs.declared.fault.BodyFault.TheVariants as fault
use Rattle.client_session.specs.Answers.{IsAnswer, own_for, own_len}
use Rattle.httpdate.specs.declared.date.HttpDate.{HttpDate}
use Rattle.client_session.specs.Moments.{ReadsLast, ReadsMoment}
use Rattle.client_session.specs.Requests.{IsNewBody, Visit, is_last, refused_kind, visit_at}
use Rattle.client_session.specs.Standings.{IsBegun, IsClientAlone, IsLess, IsReadOn, IsWritten, ClientStanding, FailsReading, WantsReading, unread_at}
use Rattle.client_session.specs.declared.ending.SessionEnd.{SessionEnd}
use Rattle.client_session.specs.declared.ending.SessionStop.{SessionStop}
use Rattle.client_session.specs.declared.ending.SessionStop.TheVariants as stop
use Rattle.client_session.specs.declared.ending.Why.TheVariants as why
use Rattle.client_session.specs.declared.turn.Answered.{Answered}
use Rattle.client_session.specs.declared.turn.Answered.TheVariants as answered

-- ---- the head of a request

-- The head at the front of the client's bytes was read, and its bytes are used.
pub record ReadsHead (s n : ClientStanding) (head : Head) : Type 0 where
  pub used : UsesHead (unread_at s) (unread_at n) head
  pub on : IsReadOn s n

-- The client's bytes end between two requests.
pub record ReadsEnd (s n : ClientStanding) : Type 0 where
  pub used : UsesEnd (unread_at s) (unread_at n)
  pub on : IsReadOn s n

-- The bytes at the front, as far as they were read, are refused as a head.
pub record ReadsRefused (s n : ClientStanding) (form : Form) : Type 0 where
  pub refused : Refuses n.inbox form
  pub unused : unread_at n ≡ unread_at s
  pub on : IsReadOn s n

-- The client's bytes end within a head.
pub record ReadsCut (s n : ClientStanding) : Type 0 where
  pub within : EndsInHead n.inbox
  pub over : IsEmpty n.client.incoming
  pub unused : unread_at n ≡ unread_at s
  pub on : IsReadOn s n

-- ---- one request

-- A request was read and answered so, and its body stands where the answer left it. It is the one after `number` others.
pub record IsRequest (v : Visit) (number : ℕ) (s n : ClientStanding) (body : BodyIn) (a : Answered) (rows : List Served) : Type 0 where
  pub head : Head
  pub read : ClientStanding
  pub fresh : BodyIn
  pub reads : ReadsHead s read head
  pub is_fresh : IsNewBody head.plan fresh
  pub answers : IsAnswer v head (is_last number head) read n fresh body a rows

-- The rest of the body was read to its end, and dropped.
pub record SkipsRest (s n : ClientStanding) (body : BodyIn) : Type 0 where
  pub after : BodyIn
  pub passes : PassesRest (body_at body s.inbox s.client) (body_at after n.inbox n.client)
  pub alone : IsClientAlone s n

-- Reading the rest of the body came to a fault, the first one of that body.
pub record BreaksRest (s n : ClientStanding) (body : BodyIn) (why : BodyFault) : Type 0 where
  pub after : BodyIn
  pub meets : MeetsFault (body_at body s.inbox s.client) (body_at after n.inbox n.client) Rest why
  pub going : failed_of body ≡ None
  pub alone : IsClientAlone s n

-- A request was answered whole, which isn't the last.
pub record IsGoingOn (v : Visit) (number : ℕ) (s n : ClientStanding) (body : BodyIn) (rows : List Served) : Type 0 where
  pub request : IsRequest v number s n body answered.Whole rows
  pub more : is_last number request.head ≡ false

-- Such a request, whose body was read to its end.
pub record IsServedWhole (v : Visit) (number : ℕ) (s n : ClientStanding) (rows : List Served) : Type 0 where
  pub body : BodyIn
  pub mid : ClientStanding
  pub going_on : IsGoingOn v number s mid body rows
  pub skips : SkipsRest mid n body

-- That number of requests was served, one after the other, each with a moment of its own. The rows are theirs, in order.
abbrev pub HaveServed : Visit → (number : ℕ) → ClientStanding → ClientStanding → List Served → Type 0
HaveServed v zero s n rows = (n ≡ s) × (rows ≡ [])
HaveServed v (suc number) s n rows =
    (mid : ClientStanding) × (before : List Served) × (last : List Served) × (date : Option HttpDate) × (timed : ClientStanding)
    × HaveServed v number s mid before × ReadsMoment v mid timed date × IsServedWhole (visit_at v date) number timed n last
    × (rows ≡ before ++ last)

-- ---- the end

-- the row of a refused head, whose own answer always has its body
abbrev pub refused_row : (status : ℕ) → Served
refused_row status = record { asked = asked.Refused; status = status; body = own_len status false; worker = None }

-- A refused head was answered with its status.
pub record IsHeadRefused (v : Visit) (s n : ClientStanding) (code : ℕ) : Type 0 where
  pub read : ClientStanding
  pub form : Form
  pub reads : ReadsRefused s read form
  pub status : code ≡ status_of form
  pub written : IsWritten read n (own_for code (refused_kind v.date))

-- Writing that answer broke off.
pub record IsRefusalBegun (v : Visit) (s n : ClientStanding) : Type 0 where
  pub read : ClientStanding
  pub form : Form
  pub reads : ReadsRefused s read form
  pub begun : IsBegun read n (own_for (status_of form) (refused_kind v.date))

-- Memory was wanted before that answer was written whole.
pub record IsRefusalWanted (v : Visit) (s n : ClientStanding) : Type 0 where
  pub read : ClientStanding
  pub form : Form
  pub reads : ReadsRefused s read form
  pub wanted : IsLess read n (own_for (status_of form) (refused_kind v.date))

-- A request was answered otherwise than whole.
abbrev pub IsStopped : Visit → (number : ℕ) → (s n : ClientStanding) → List Served → SessionStop → Type 0
IsStopped v number s n rows stop' = (body : BodyIn) × IsRequest v number s n body (answered.Not stop') rows

-- A request was answered whole, and the rest of its body was not read to its end for this reason.
abbrev pub LeavesBodyUnread : Visit → (number : ℕ) → (s n : ClientStanding) → List Served → BodyFault → Type 0
LeavesBodyUnread v number s n rows why = (body : BodyIn) × (mid : ClientStanding) × IsGoingOn v number s mid body rows × BreaksRest mid n body why

-- Why the session ended, after `number` requests that were served: what was done from there on, its rows, and how many
-- requests had a complete reply or page. It ends idle only after a request, with nothing of the next one read.
abbrev pub EndsIn : Visit → (number : ℕ) → (s n : ClientStanding) → List Served → (requests : ℕ) → SessionStop → Type 0
EndsIn v number s n rows requests (stop.Closed why.ByClient) = (requests ≡ number) × ReadsEnd s n × (rows ≡ [])
EndsIn v number s n rows requests (stop.Closed why.Idle) =
    (requests ≡ number) × (0 < number) × (s.inbox ≡ []) × (n ≡ s) × (rows ≡ [])
EndsIn v number s n rows requests (stop.Closed why.Last) =
    (requests ≡ number + 1)
    × ((body : BodyIn) × (request : IsRequest v number s n body answered.Whole rows) × (is_last number request.head ≡ true))
EndsIn v number s n rows requests (stop.Closed (why.Own code)) =
    (requests ≡ number)
    × ((IsHeadRefused v s n code × (rows ≡ refused_row code ∷ [])) ⊎ IsStopped v number s n rows (stop.Closed (why.Own code)))
EndsIn v number s n rows requests (stop.Closed (why.Refused refusal)) =
    (requests ≡ number) × IsStopped v number s n rows (stop.Closed (why.Refused refusal))
EndsIn v number s n rows requests (stop.Closed why.Cut) =
    (requests ≡ number) × IsStopped v number s n rows (stop.Closed why.Cut)
EndsIn v number s n rows requests (stop.Closed why.Unread) =
    (requests ≡ number + 1) × (LeavesBodyUnread v number s n rows fault.BadChunk ⊎ LeavesBodyUnread v number s n rows fault.TooLong)
EndsIn v number s n rows requests stop.ClientFault =
    ((requests ≡ number) × (rows ≡ []) × Rose s.client.faults n.client.faults
    × (FailsReading s n ⊎ (IsRefusalBegun v s n ⊎ IsStopped v number s n rows stop.ClientFault)))
    ⊎ ((requests ≡ number + 1) × LeavesBodyUnread v number s n rows fault.Fault)
EndsIn v number s n rows requests stop.Truncated =
    ((requests ≡ number) × (rows ≡ []) × (ReadsCut s n ⊎ IsStopped v number s n rows stop.Truncated))
    ⊎ ((requests ≡ number + 1) × LeavesBodyUnread v number s n rows fault.Truncated)
EndsIn v number s n rows requests (stop.Stray ticket returned_at) =
    (requests ≡ number) × (rows ≡ []) × IsStopped v number s n rows (stop.Stray ticket returned_at)
EndsIn v number s n rows requests stop.NoMemory =
    ((requests ≡ number) × (rows ≡ []) × (WantsReading s n
    ⊎ (IsRefusalWanted v s n ⊎ (((read : ClientStanding) × (form : Form) × ReadsRefused s read form × (n ≡ read))
    ⊎ IsStopped v number s n rows stop.NoMemory))))
    ⊎ ((requests ≡ number + 1) × LeavesBodyUnread v number s n rows fault.NoMemory)

-- ---- the whole

-- Requests were served, and then the session ended, with a moment that its last answer tells.
pub record IsSession (v : Visit) (s n : ClientStanding) (rows : List Served) (end : SessionEnd) : Type 0 where
  pub number : ℕ
  pub mid : ClientStanding
  pub date : Option HttpDate
  pub timed : ClientStanding
  pub before : List Served
  pub last : List Served
  pub served : HaveServed v number s mid before
  pub reads : ReadsLast end.stop v mid timed date
  pub ends : EndsIn (visit_at v date) number timed n last end.requests end.stop
  pub joined : rows ≡ before ++ last

-- A session from a client of which nothing was read. What it had read at its end and not used is lost. Its rows were put, of
-- each list of which it is said whether it was.
pub record Serves (v : Visit) (at_first : List ℕ → ClientStanding) (at_last : List ℕ → ClientStanding) (puts : List Served → Type 0) (end : SessionEnd) : Type 0 where
  pub inbox : List ℕ
  pub gained : List Served
  pub session : IsSession v (at_first []) (at_last inbox) gained end
  pub added : puts gained

-- P of each session of this visit that ends so: of the visit at its last moment, of how many requests were served, where that
-- led, and where it ended.
abbrev pub InEachSession : Visit → SessionEnd → (Visit → SessionEnd → (number : ℕ) → (s n : ClientStanding) → Type 0) → Type 0
InEachSession v end P =
    (s n : ClientStanding) (rows : List Served) → (way : IsSession v s n rows end) → P (visit_at v way.date) end way.number way.timed n
