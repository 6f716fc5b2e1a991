-- The answer to a request: of its balancer, of its status worker, or of the connector itself; and its row.
use Rattle.std.specs.Prelude.{ℕ, ◌≡◌, ◌≤◌, ◌⊎◌, Bool, true, false, List, [], ◌∷◌, length, Option, Some, None, IsSome, Result, Ok, Err, slice_get}
use Rattle.jk_io.specs.Told.{Rose}
use Rattle.lb_model.specs.declared.member.MemberConfig.{MemberConfig}
use Rattle.lb_model.specs.declared.served.Asked.TheVariants as asked
use Rattle.lb_model.specs.declared.served.Served.{Served}
use Rattle.http_front.specs.declared.head.Head.{Head}
use Rattle.http_front.specs.declared.body.BodyIn.{BodyIn}
use Rattle.http_out.specs.Own.{own_body, own_bytes, own_of}
use Rattle.http_out.specs.declared.own_answers.Own.{Own}
use Rattle.http_out.specs.declared.own_answers.OwnKind.{OwnKind}
use Rattle.site_config.specs.declared.balancer.Lb.{Lb}
use Rattle.site_config.specs.declared.config.Named.TheVariants as named
use Rattle.site_config.specs.declared.config.Status.{Status}
use Rattle.status_worker.specs.Mimes.{mime_of}
use Rattle.status_worker.specs.declared.page.PagePart.{PagePart}
use Rattle.site_mounts.specs.Mounts.{terms}
use Rattle.ajp_talk.specs.declared.ending.Told.{Told}
use Rattle.ajp_talk.specs.Moments.{IsUsed}
use Rattle.exchange.specs.Clients.{GivesClient, MeetsAt}
use Rattle.exchange.specs.Complete.{Completes}
use Rattle.exchange.specs.Exchanges.{IsCalmExchange, IsExchange, NotesTalks}
use Rattle.exchange.specs.Requests.{Errand, errand, is_head}
use Rattle.exchange.specs.Rounds.{IsDeskAfter}
use Rattle.exchange.specs.WholeTalks.{IsWholeOnce}
use Rattle.exchange.specs.declared.ending.ExchangeEnd.TheVariants as exchange_end
use Rattle.exchange.specs.declared.ending.ExchangeEnd.{ExchangeEnd}
use Rattle.status_worker.specs.Commands.{IsBrokenCommand, IsDone, TurnsAway}
use Rattle.status_worker.specs.Pages.{IsPageOf, page_reply, sent_of, shown_for}
use Rattle.status_worker.specs.Refusals.{code_of, refusal_body, refusal_bytes}
use Rattle.status_worker.specs.declared.refusal.PageRefusal.{PageRefusal}
use Rattle.client_session.specs.Requests.{Visit, continue_for, kind_at, mounted_at, own_kind_at}
use Rattle.client_session.specs.Standings.{IsBegun, IsLess, IsWritten, ClientStanding, with_body}
use Rattle.client_session.specs.declared.ending.SessionStop.TheVariants as stop
use Rattle.client_session.specs.declared.ending.SessionStop.{SessionStop}
use Rattle.client_session.specs.declared.ending.Why.TheVariants as why
use Rattle.client_session.specs.declared.turn.Answered.TheVariants as answered
use Rattle.client_session.specs.declared.turn.Answered.{Answered}

-- ---- rows

-- the row of a request
abbrev pub row_of : Head → (status body : ℕ) → (worker : Option (List ℕ)) → Served
row_of head status body worker =
    record { asked = asked.Line head.method head.target head.old; status = status; body = body; worker = worker }

abbrev pub own_body_of : Option Own → List ℕ
own_body_of None = []
own_body_of (Some own) = own_body own

-- how many bytes of an own answer are its body
abbrev pub own_len : (status : ℕ) → (head_only : Bool) → ℕ
own_len status true = 0
own_len status false = length (own_body_of (own_of status))

abbrev pub own_row : Head → (status : ℕ) → Served
own_row head status = row_of head status (own_len status (is_head head)) None

-- the row of a reply that a member gave, whole or cut
pub record IsReplyRow (head : Head) (balancer : Lb) (member : ℕ) (told : Told) (row : Served) : Type 0 where
  pub config : MemberConfig
  pub named : slice_get balancer.book.members member ≡ Some config
  pub is : row ≡ row_of head told.status told.body (Some config.name)

-- the row of a page
abbrev pub page_row : Head → Status → (page : List ℕ) → Served
page_row head status page = row_of head 200 (length (sent_of (is_head head) page)) (Some status.name)

-- the row of a refusal in a page's place
abbrev pub refusal_row : Head → PageRefusal → Served
refusal_row head refusal = row_of head (code_of refusal) (length (sent_of (is_head head) (refusal_body refusal))) None

-- ---- own answers

abbrev pub own_bytes_of : Option Own → OwnKind → List ℕ
own_bytes_of None kind = []
own_bytes_of (Some own) kind = own_bytes own kind

-- the bytes of the own answer with that status
abbrev pub own_for : (status : ℕ) → OwnKind → List ℕ
own_for status kind = own_bytes_of (own_of status) kind

-- ---- a request at a balancer

-- The exchange of the request, from its whole body on, with the terms of its mount. It asks the desk for no command.
pub record IsForwardedAt (v : Visit) (q : Errand) (s n : ClientStanding) (body body' : BodyIn) (end : ExchangeEnd) : Type 0 where
  pub exchange : IsExchange q (with_body s body) (with_body n body') end
  pub gives : GivesClient q (with_body s body) (with_body n body') end
  pub noted : NotesTalks q (with_body s body) (with_body n body') end
  pub used : IsUsed (with_body s body).around.body (with_body n body').around.body
  pub whole_once : IsWholeOnce q (with_body s body).around (with_body n body').around
  pub complete : Completes q (with_body s body) (with_body n body') end
  pub kept : IsDeskAfter q.lb q.session s.desk.state n.desk.state
  pub met : MeetsAt end s.desk.state n.desk.state
  pub calm : IsCalmExchange end → n.client.faults ≡ s.client.faults
  pub no_fewer : (s.reach.faults ≤ n.reach.faults) × (s.client.faults ≤ n.client.faults)

-- the errand of a request for the balancer at this place
abbrev pub errand_at : Visit → Head → (last : Bool) → (lb : ℕ) → Lb → Errand
errand_at v head last lb balancer = errand head v.peer last v.date v.session lb (terms v.rules head.clean) balancer

-- The request is mounted at a balancer, and was forwarded.
pub record IsForwarded (v : Visit) (head : Head) (last : Bool) (s n : ClientStanding) (body body' : BodyIn) (end : ExchangeEnd) : Type 0 where
  pub lb : ℕ
  pub balancer : Lb
  pub mounted : mounted_at v head ≡ Some (named.Balancer lb)
  pub stands : slice_get v.cfg.lbs lb ≡ Some balancer
  pub forwarded : IsForwardedAt v (errand_at v head last lb balancer) s n body body' end

-- ---- a request at a status worker

-- The status worker where the request is mounted.
pub record IsAtStatus (v : Visit) (head : Head) (status : Status) : Type 0 where
  pub place : ℕ
  pub mounted : mounted_at v head ≡ Some (named.Status place)
  pub stands : slice_get v.cfg.statuses place ≡ Some status

-- All that was asked was done, and the balancers were looked at afterwards.
pub record HasPage (v : Visit) (status : Status) (query : Option (List ℕ)) (s m : ClientStanding) (page : List ℕ) : Type 0 where
  pub only : Option ℕ
  pub done : IsDone v.cfg v.session status query s.desk m.desk only
  pub alone : m ≡ record s { desk = m.desk }
  pub parts : List PagePart
  pub seen : IsPageOf v.cfg m.desk.state only parts
  pub is : page ≡ shown_for status query parts

-- There is no page; what was asked before the refusal was done.
pub record IsTurnedAway (v : Visit) (status : Status) (query : Option (List ℕ)) (s m : ClientStanding) (refusal : PageRefusal) : Type 0 where
  pub turned : TurnsAway v.cfg v.session status query s.desk m.desk refusal
  pub alone : m ≡ record s { desk = m.desk }

-- Writing the page, or the refusal in its place, broke off.
abbrev pub IsStatusBegun : Visit → Status → Head → (last : Bool) → (s n : ClientStanding) → Type 0
IsStatusBegun v status head last s n =
    ((m : ClientStanding) × (page : List ℕ) × HasPage v status head.query s m page × IsBegun m n (page_reply (mime_of head.query) (kind_at v head last) page))
    ⊎ ((m : ClientStanding) × (refusal : PageRefusal) × IsTurnedAway v status head.query s m refusal × IsBegun m n (refusal_bytes refusal (own_kind_at v head)))

-- Memory was wanted before the page, or the refusal in its place, was written whole.
abbrev pub IsStatusLess : Visit → Status → Head → (last : Bool) → (s n : ClientStanding) → Type 0
IsStatusLess v status head last s n =
    ((m : ClientStanding) × (page : List ℕ) × HasPage v status head.query s m page × IsLess m n (page_reply (mime_of head.query) (kind_at v head last) page))
    ⊎ ((m : ClientStanding) × (refusal : PageRefusal) × IsTurnedAway v status head.query s m refusal × IsLess m n (refusal_bytes refusal (own_kind_at v head)))

-- Nothing was written: memory was wanted before what was asked was done, or after it.
pub record IsStatusUnwritten (v : Visit) (status : Status) (query : Option (List ℕ)) (s n : ClientStanding) : Type 0 where
  pub alone : n ≡ record s { desk = n.desk }
  pub why : IsBrokenCommand v.cfg v.session status query s.desk n.desk ⊎ ((only : Option ℕ) × IsDone v.cfg v.session status query s.desk n.desk only)

-- The answer to a status worker's request: the page, as many bytes of it as are sent, or why there is none.
abbrev pub IsStatusAnswer : Visit → Status → Head → (last : Bool) → (s n : ClientStanding) → Result ℕ SessionStop → Type 0
IsStatusAnswer v status head last s n (Ok len) =
    (m : ClientStanding) × (page : List ℕ) × HasPage v status head.query s m page
    × IsWritten m n (page_reply (mime_of head.query) (kind_at v head last) page) × (len ≡ length (sent_of (is_head head) page))
IsStatusAnswer v status head last s n (Err (stop.Closed why.ByClient)) = ⊥
IsStatusAnswer v status head last s n (Err (stop.Closed why.Idle)) = ⊥
IsStatusAnswer v status head last s n (Err (stop.Closed why.Last)) = ⊥
IsStatusAnswer v status head last s n (Err (stop.Closed (why.Own code))) = ⊥
IsStatusAnswer v status head last s n (Err (stop.Closed (why.Refused refusal))) =
    (m : ClientStanding) × IsTurnedAway v status head.query s m refusal × IsWritten m n (refusal_bytes refusal (own_kind_at v head))
IsStatusAnswer v status head last s n (Err (stop.Closed why.Cut)) = ⊥
IsStatusAnswer v status head last s n (Err (stop.Closed why.Unread)) = ⊥
IsStatusAnswer v status head last s n (Err stop.ClientFault) = Rose s.client.faults n.client.faults × IsStatusBegun v status head last s n
IsStatusAnswer v status head last s n (Err stop.Truncated) = ⊥
IsStatusAnswer v status head last s n (Err (stop.Stray ticket returned_at)) = ⊥
IsStatusAnswer v status head last s n (Err stop.NoMemory) =
    IsStatusLess v status head last s n ⊎ IsStatusUnwritten v status head.query s n

-- the same, where the request is mounted at some status worker
abbrev pub IsPaged : Visit → Head → (last : Bool) → (s n : ClientStanding) → Result ℕ SessionStop → Type 0
IsPaged v head last s n answer = (status : Status) × IsAtStatus v head status × IsStatusAnswer v status head last s n answer

-- ---- a request that is mounted

-- The answer that follows 100 Continue, and the row that it adds. The body stands where it was taken to.
abbrev pub IsAnswerAt : Visit → Head → (last : Bool) → (s n : ClientStanding) → (body body' : BodyIn) → Answered → List Served → Type 0
IsAnswerAt v head last s n body body' answered.Whole rows =
    ((member : ℕ) × (told : Told) × (row : Served) × (is : IsForwarded v head last s n body body' (exchange_end.Done member told))
    × IsReplyRow head is.balancer member told row × (rows ≡ row ∷ []))
    ⊎ ((status : Status) × (m : ClientStanding) × (page : List ℕ) × IsAtStatus v head status × HasPage v status head.query s m page
    × IsWritten m n (page_reply (mime_of head.query) (kind_at v head last) page) × (body' ≡ body) × (rows ≡ page_row head status page ∷ []))
IsAnswerAt v head last s n body body' (answered.Not (stop.Closed why.ByClient)) rows = ⊥
IsAnswerAt v head last s n body body' (answered.Not (stop.Closed why.Idle)) rows = ⊥
IsAnswerAt v head last s n body body' (answered.Not (stop.Closed why.Last)) rows = ⊥
IsAnswerAt v head last s n body body' (answered.Not (stop.Closed (why.Own code))) rows =
    (rows ≡ own_row head code ∷ []) × IsForwarded v head last s n body body' (exchange_end.Own code)
IsAnswerAt v head last s n body body' (answered.Not (stop.Closed (why.Refused refusal))) rows =
    (rows ≡ refusal_row head refusal ∷ []) × IsPaged v head last s n (Err (stop.Closed (why.Refused refusal)))
IsAnswerAt v head last s n body body' (answered.Not (stop.Closed why.Cut)) rows =
    (member : ℕ) × (told : Told) × (row : Served) × (is : IsForwarded v head last s n body body' (exchange_end.Cut member told))
    × IsReplyRow head is.balancer member told row × (rows ≡ row ∷ [])
IsAnswerAt v head last s n body body' (answered.Not (stop.Closed why.Unread)) rows = ⊥
IsAnswerAt v head last s n body body' (answered.Not stop.ClientFault) rows =
    (rows ≡ []) × (IsForwarded v head last s n body body' exchange_end.ClientFault ⊎ IsPaged v head last s n (Err stop.ClientFault))
IsAnswerAt v head last s n body body' (answered.Not stop.Truncated) rows =
    (rows ≡ []) × IsForwarded v head last s n body body' exchange_end.Truncated
IsAnswerAt v head last s n body body' (answered.Not (stop.Stray ticket returned_at)) rows =
    (rows ≡ []) × IsForwarded v head last s n body body' (exchange_end.Stray ticket returned_at)
IsAnswerAt v head last s n body body' (answered.Not stop.NoMemory) rows =
    (rows ≡ []) × (IsForwarded v head last s n body body' exchange_end.NoMemory ⊎ IsPaged v head last s n (Err stop.NoMemory))

-- ---- a request that was read

-- The request is mounted, and its client was told to go on where it waits for that.
pub record IsToldOn (v : Visit) (head : Head) (s told : ClientStanding) : Type 0 where
  pub mounted : IsSome (mounted_at v head)
  pub written : IsWritten s told (continue_for head)

-- writing the 404 of a request that is mounted nowhere broke off, or writing 100 Continue of one that is mounted
abbrev pub IsEarlyBegun : Visit → Head → (s n : ClientStanding) → Type 0
IsEarlyBegun v head s n =
    ((mounted_at v head ≡ None) × IsBegun s n (own_for 404 (own_kind_at v head)))
    ⊎ (IsSome (mounted_at v head) × IsBegun s n (continue_for head))

-- the same, where memory was wanted before all of it was written
abbrev pub IsEarlyLess : Visit → Head → (s n : ClientStanding) → Type 0
IsEarlyLess v head s n =
    ((mounted_at v head ≡ None) × IsLess s n (own_for 404 (own_kind_at v head)))
    ⊎ (IsSome (mounted_at v head) × IsLess s n (continue_for head))

-- The end before 100 Continue: 404 where no worker is mounted there; or nothing whole was written.
abbrev pub StopsEarly : Visit → Head → (s n : ClientStanding) → Answered → List Served → Type 0
StopsEarly v head s n answered.Whole rows = ⊥
StopsEarly v head s n (answered.Not (stop.Closed why.ByClient)) rows = ⊥
StopsEarly v head s n (answered.Not (stop.Closed why.Idle)) rows = ⊥
StopsEarly v head s n (answered.Not (stop.Closed why.Last)) rows = ⊥
StopsEarly v head s n (answered.Not (stop.Closed (why.Own code))) rows =
    (code ≡ 404) × (mounted_at v head ≡ None) × IsWritten s n (own_for code (own_kind_at v head)) × (rows ≡ own_row head code ∷ [])
StopsEarly v head s n (answered.Not (stop.Closed (why.Refused refusal))) rows = ⊥
StopsEarly v head s n (answered.Not (stop.Closed why.Cut)) rows = ⊥
StopsEarly v head s n (answered.Not (stop.Closed why.Unread)) rows = ⊥
StopsEarly v head s n (answered.Not stop.ClientFault) rows =
    (rows ≡ []) × Rose s.client.faults n.client.faults × IsEarlyBegun v head s n
StopsEarly v head s n (answered.Not stop.Truncated) rows = ⊥
StopsEarly v head s n (answered.Not (stop.Stray ticket returned_at)) rows = ⊥
StopsEarly v head s n (answered.Not stop.NoMemory) rows = (rows ≡ []) × ((n ≡ s) ⊎ IsEarlyLess v head s n)

-- The answer to a request, and the rows that it adds.
abbrev pub IsAnswer : Visit → Head → (last : Bool) → (s n : ClientStanding) → (body body' : BodyIn) → Answered → List Served → Type 0
IsAnswer v head last s n body body' a rows =
    StopsEarly v head s n a rows
    ⊎ ((told : ClientStanding) × IsToldOn v head s told × IsAnswerAt v head last told n body body' a rows)
