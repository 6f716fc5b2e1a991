-- Requests one after the other, and the session's end.
use Rattle.std.proofs.Common.{◌≡◌, ◌≤◌, ◌<◌, ℕ, suc, ◌+◌, List, [], ◌∷◌, ◌++◌, false, refl, sym, subst, inl, inr, ap, ◌∙◌, arith, IfSome, Option, None}
use Rattle.std.specs.Prelude.{Err, IsErrOf}
use Rattle.std.proofs.lemmas.List.{append-nil}
use Rattle.jk_io.specs.Moments.{Moment}
use Rattle.jk_io.specs.Told.{IsEmpty, Rose}
use Rattle.jk_io.specs.declared.reaching.Beside.{Beside}
use Rattle.lb_model.specs.declared.served.Served.{Served}
use Rattle.httpdate.specs.declared.date.HttpDate.{HttpDate}
use Rattle.http_front.specs.Answer.{IfRefused, IsCalmHead}
use Rattle.http_front.specs.Refusal.{status_of}
use Rattle.http_front.specs.Request.{EndsInHead, IsDecided, Refuses}
use Rattle.http_front.specs.declared.answers.Form.{Form}
use Rattle.http_front.specs.declared.answers.HeadError.{HeadError}
use Rattle.http_front.specs.declared.answers.HeadError.TheVariants as error
use Rattle.http_front.specs.declared.answers.HeadGot.{HeadGot}
use Rattle.lb_book.specs.Desks.{DeskState}
use Rattle.status_worker.proofs.DeskLaws.{none_met}
use Rattle.status_worker.specs.Desks.{KeepsTickets}
use Rattle.client_session.specs.Ends.{MeetsBy, RisesBy, end_of}
use Rattle.client_session.specs.Finishing.{RefusesHead, StopsWithoutHead}
use Rattle.client_session.specs.Ready.{IsReady}
use Rattle.client_session.specs.Moments.{ReadsLast}
use Rattle.client_session.specs.Requests.{Visit, visit_at}
use Rattle.client_session.specs.Sessions.{EndsIn, HaveServed, IsSession, ReadsEnd, ReadsRefused, refused_row}
use Rattle.client_session.specs.Standings.{IsClientAlone, ClientStanding, StopsReading, unread_at}
use Rattle.client_session.specs.Surroundings.{TurnsNow}
use Rattle.client_session.specs.Turns.{TurnsSession}
use Rattle.client_session.specs.declared.ending.SessionEnd.{SessionEnd}
use Rattle.client_session.specs.declared.ending.SessionStop.{SessionStop}
use Rattle.client_session.specs.declared.ending.SessionStop.TheVariants as stop
use Rattle.client_session.specs.declared.ending.Why.TheVariants as why
use Rattle.client_session.specs.declared.turn.SessionTurn.TheVariants as turn

-- ---- a refused head

same_again : (read n : ClientStanding) → n ≡ record read { client = n.client } → n.client ≡ read.client → n ≡ read
same_again read n alone same = alone ∙ ap (λ (c : Moment). record read { client = c }) same

rose_since : (first before now : ℕ) → before ≡ first → Rose before now → Rose first now
rose_since first before now is rose = subst (λ (k : ℕ). Rose k now) is rose

pub refuses : (v : Visit) (number : ℕ) (s read n : ClientStanding) (form : Form) (puts : List Served → Type 0) (stop' : SessionStop) → ReadsRefused s read form
    → n ≡ record read { client = n.client } → RefusesHead v.date form read.client n.client puts stop' → TurnsSession v number s n puts (turn.EndsAt stop')
refuses v number s read n form puts stop' reads alone (inl wanted) =
    subst (λ (x : SessionStop). TurnsSession v number s n puts (turn.EndsAt x)) (sym wanted.0)
    ([], wanted.2, inl (refl, refl, inr (inr (inl (read, form, reads, same_again read n alone wanted.1)))))
refuses v number s read n form puts (stop.Closed why.ByClient) reads alone (inr written) = absurd written.0
refuses v number s read n form puts (stop.Closed why.Idle) reads alone (inr written) = absurd written.0
refuses v number s read n form puts (stop.Closed why.Last) reads alone (inr written) = absurd written.0
refuses v number s read n form puts (stop.Closed (why.Own code)) reads alone (inr written) =
    subst (λ (c : ℕ). TurnsSession v number s n puts (turn.EndsAt (stop.Closed (why.Own c)))) (sym written.0.0) (
      refused_row (status_of form) ∷ [],
      written.1,
      (refl, inl (record { read = read; form = form; reads = reads; status = refl; written = record { puts = written.0.1; alone = alone } }, refl)),
    )
refuses v number s read n form puts (stop.Closed (why.Refused refusal)) reads alone (inr written) = absurd written.0
refuses v number s read n form puts (stop.Closed why.Cut) reads alone (inr written) = absurd written.0
refuses v number s read n form puts (stop.Closed why.Unread) reads alone (inr written) = absurd written.0
refuses v number s read n form puts stop.ClientFault reads alone (inr written) = (
  [],
  written.1,
  inl (
    refl,
    refl,
    rose_since _ _ _ reads.on.steady written.0.0,
    inr (inl (record { read = read; form = form; reads = reads; begun = record { puts = written.0.1; alone = alone } })),
  ),
)
refuses v number s read n form puts stop.Truncated reads alone (inr written) = absurd written.0
refuses v number s read n form puts (stop.Stray ticket returned_at) reads alone (inr written) = absurd written.0
refuses v number s read n form puts stop.NoMemory reads alone (inr written) = (
  [],
  written.1,
  inl (refl, refl, inr (inl (record { read = read; form = form; reads = reads; wanted = record { puts = written.0; alone = alone } }))),
)

refused_meets : (date : Option HttpDate) (form : Form) (s n : Moment) (puts : List Served → Type 0) (stop' : SessionStop) (desk : DeskState) → RefusesHead date form s n puts stop'
    → MeetsBy stop' desk desk
refused_meets date form s n puts stop' desk (inl wanted) = subst (λ (x : SessionStop). MeetsBy x desk desk) (sym wanted.0) (none_met desk)
refused_meets date form s n puts (stop.Closed w) desk (inr written) = none_met desk
refused_meets date form s n puts stop.ClientFault desk (inr written) = none_met desk
refused_meets date form s n puts stop.Truncated desk (inr written) = none_met desk
refused_meets date form s n puts (stop.Stray ticket returned_at) desk (inr written) = absurd written.0
refused_meets date form s n puts stop.NoMemory desk (inr written) = none_met desk

refused_rises : (date : Option HttpDate) (form : Form) (first : ℕ) (s n : Moment) (puts : List Served → Type 0) (stop' : SessionStop) → s.faults ≡ first → RefusesHead date form s n puts stop'
    → RisesBy stop' first n.faults
refused_rises date form first s n puts stop' steady (inl wanted) =
    subst (λ (x : SessionStop). RisesBy x first n.faults) (sym wanted.0) (ap (λ (m : Moment). m.faults) wanted.1 ∙ steady)
refused_rises date form first s n puts (stop.Closed why.ByClient) steady (inr written) = absurd written.0
refused_rises date form first s n puts (stop.Closed why.Idle) steady (inr written) = absurd written.0
refused_rises date form first s n puts (stop.Closed why.Last) steady (inr written) = absurd written.0
refused_rises date form first s n puts (stop.Closed (why.Own code)) steady (inr written) = written.0.1.steady ∙ steady
refused_rises date form first s n puts (stop.Closed (why.Refused refusal)) steady (inr written) = absurd written.0
refused_rises date form first s n puts (stop.Closed why.Cut) steady (inr written) = absurd written.0
refused_rises date form first s n puts (stop.Closed why.Unread) steady (inr written) = absurd written.0
refused_rises date form first s n puts stop.ClientFault steady (inr written) = rose_since _ _ _ steady written.0.0
refused_rises date form first s n puts stop.Truncated steady (inr written) = absurd written.0
refused_rises date form first s n puts (stop.Stray ticket returned_at) steady (inr written) = tt
refused_rises date form first s n puts stop.NoMemory steady (inr written) = written.0.steady ∙ steady

-- ---- no head

-- No head was read, for this reason, and none of the client's bytes was used.
pub record ReadsNoHead (s read : ClientStanding) (e : HeadError) : Type 0 where
  pub alone : IsClientAlone s read
  pub sent : read.client.sent ≡ s.client.sent
  pub unused : unread_at read ≡ unread_at s
  pub no_fewer : s.client.faults ≤ read.client.faults
  pub refused : IfRefused (Err e) (λ status form. (status ≡ status_of form) × Refuses read.inbox form)
  pub truncated : IsErrOf {T = HeadGot} (Err e) error.Truncated → EndsInHead read.inbox × IsEmpty read.client.incoming
  pub fault : IsErrOf {T = HeadGot} (Err e) error.Fault → Rose s.client.faults read.client.faults
  pub awaited : IsErrOf {T = HeadGot} (Err e) error.Fault → IsDecided read.inbox → ⊥
  pub steady : IsCalmHead {T = HeadGot} (Err e) → read.client.faults ≡ s.client.faults

stays : (s read : ClientStanding) (e : HeadError) → ReadsNoHead s read e → StopsReading s read
stays s read e reads = record { alone = reads.alone; sent = reads.sent; unused = reads.unused; no_fewer = reads.no_fewer }

ends_there : (v : Visit) (number : ℕ) (s read n : ClientStanding) (puts : List Served → Type 0) (stop' x : SessionStop) → n ≡ record read { client = n.client }
    → (stop' ≡ x) × (n.client ≡ read.client) × puts [] → EndsIn v number s read [] number x → TurnsSession v number s n puts (turn.EndsAt stop')
ends_there v number s read n puts stop' x alone stops why' =
    subst (λ (m : ClientStanding). TurnsSession v number s m puts (turn.EndsAt stop')) (sym (same_again read n alone stops.1))
    (subst (λ (y : SessionStop). TurnsSession v number s read puts (turn.EndsAt y)) (sym stops.0) ([], stops.2, why'))

pub without_head : (v : Visit) (number : ℕ) (s read n : ClientStanding) (e : HeadError) (puts : List Served → Type 0) (stop' : SessionStop) → ReadsNoHead s read e
    → n ≡ record read { client = n.client } → StopsWithoutHead v.date e read.client n.client puts stop' → TurnsSession v number s n puts (turn.EndsAt stop')
without_head v number s read n (error.Refused status form) puts stop' reads alone stops =
    refuses v number s read n form puts stop'
    (record { refused = reads.refused.1; unused = reads.unused; on = record { alone = reads.alone; sent = reads.sent; steady = reads.steady tt } }) alone stops
without_head v number s read n error.Truncated puts stop' reads alone stops =
    let cut = reads.truncated refl in
    ends_there v number s read n puts stop' stop.Truncated alone stops
    (inl (refl, refl, inl (record { within = cut.0; over = cut.1; unused = reads.unused; on = record { alone = reads.alone; sent = reads.sent; steady = reads.steady tt } })))
without_head v number s read n error.Fault puts stop' reads alone stops =
    ends_there v number s read n puts stop' stop.ClientFault alone stops
    (inl (refl, refl, reads.fault refl, inl (record { stops = stays s read error.Fault reads; awaited = reads.awaited refl })))
without_head v number s read n error.NoMemory puts stop' reads alone stops =
    ends_there v number s read n puts stop' stop.NoMemory alone stops (inl (refl, refl, inl (record { stops = stays s read error.NoMemory reads; steady = reads.steady tt })))

pub meets_without_head : (date : Option HttpDate) (e : HeadError) (s n : Moment) (puts : List Served → Type 0) (stop' : SessionStop) (desk : DeskState) → StopsWithoutHead date e s n puts stop'
    → MeetsBy stop' desk desk
meets_without_head date (error.Refused status form) s n puts stop' desk stops = refused_meets date form s n puts stop' desk stops
meets_without_head date error.Truncated s n puts stop' desk stops = subst (λ (x : SessionStop). MeetsBy x desk desk) (sym stops.0) (none_met desk)
meets_without_head date error.Fault s n puts stop' desk stops = subst (λ (x : SessionStop). MeetsBy x desk desk) (sym stops.0) (none_met desk)
meets_without_head date error.NoMemory s n puts stop' desk stops = subst (λ (x : SessionStop). MeetsBy x desk desk) (sym stops.0) (none_met desk)

pub rises_without_head : (date : Option HttpDate) (s read : ClientStanding) (n : Moment) (e : HeadError) (puts : List Served → Type 0) (stop' : SessionStop) → ReadsNoHead s read e
    → StopsWithoutHead date e read.client n puts stop' → RisesBy stop' s.client.faults n.faults
rises_without_head date s read n (error.Refused status form) puts stop' reads stops =
    refused_rises date form s.client.faults read.client n puts stop' (reads.steady tt) stops
rises_without_head date s read n error.Truncated puts stop' reads stops =
    subst (λ (x : SessionStop). RisesBy x s.client.faults n.faults) (sym stops.0)
    (ap (λ (m : Moment). m.faults) stops.1 ∙ reads.steady tt)
rises_without_head date s read n error.Fault puts stop' reads stops =
    subst (λ (x : SessionStop). RisesBy x s.client.faults n.faults) (sym stops.0)
    (subst (λ (m : Moment). Rose s.client.faults m.faults) (sym stops.1) (reads.fault refl))
rises_without_head date s read n error.NoMemory puts stop' reads stops =
    subst (λ (x : SessionStop). RisesBy x s.client.faults n.faults) (sym stops.0)
    (ap (λ (m : Moment). m.faults) stops.1 ∙ reads.steady tt)

-- the client's bytes ended between two requests
pub ends_by_client : (v : Visit) (number : ℕ) (s n : ClientStanding) (puts : List Served → Type 0) → puts [] → ReadsEnd s n
    → TurnsSession v number s n puts (turn.EndsAt (stop.Closed why.ByClient))
ends_by_client v number s n puts none reads = ([], none, (refl, reads, refl))

-- ---- one request after the other

-- That number of requests was served since the beginning, and their rows were put.
pub record IsUnderWay (v : Visit) (number : ℕ) (s now : ClientStanding) (puts : List Served → Type 0) : Type 0 where
  pub before : List Served
  pub served : HaveServed v number s now before
  pub added : puts before

pub begins : (v : Visit) (s : ClientStanding) (puts : List Served → Type 0) → puts [] → IsUnderWay v 0 s s puts
begins v s puts none = record { before = []; served = (refl, refl); added = none }

one_more : (v : Visit) (number : ℕ) (s n : ClientStanding) (rows : List Served) → HaveServed v (suc number) s n rows → HaveServed v (number + 1) s n rows
one_more v number s n rows served =
    let next : suc number ≡ number + 1 = omega arith in
    subst (λ (k : ℕ). HaveServed v k s n rows) next served

-- rows that were put after others
abbrev pub PutOn : (puts more all : List Served → Type 0) → Type 0
PutOn puts more all = (xs ys : List Served) → puts xs → more ys → all (xs ++ ys)

pub goes_on : (v : Visit) (number : ℕ) (s mid n : ClientStanding) (puts more all : List Served → Type 0) → PutOn puts more all → IsUnderWay v number s mid puts
    → TurnsNow v number mid n more turn.Next → IsUnderWay v (number + 1) s n all
goes_on v number s mid n puts more all on way (date, timed, reads, (added, put, served)) = record {
  before = way.before ++ added;
  served = one_more v number s n (way.before ++ added) (mid, way.before, added, date, timed, way.served, reads, served, refl);
  added = on way.before added way.added put;
}

pub ends : (v : Visit) (number requests : ℕ) (s mid timed n : ClientStanding) (date : Option HttpDate) (puts more all : List Served → Type 0) (added : List Served) (stop' : SessionStop)
    → PutOn puts more all → IsUnderWay v number s mid puts → ReadsLast stop' v mid timed date → more added
    → EndsIn (visit_at v date) number timed n added requests stop' → (gained : List Served) × all gained × IsSession v s n gained (end_of stop' requests)
ends v number requests s mid timed n date puts more all added stop' on way reads put ending = (
  way.before ++ added,
  on way.before added way.added put,
  record {
    number = number;
    mid = mid;
    date = date;
    timed = timed;
    before = way.before;
    last = added;
    served = way.served;
    reads = reads;
    ends = ending;
    joined = refl;
  },
)

-- a session that wanted memory before it read anything
pub unbegun : (v : Visit) (s : ClientStanding) → IsSession v s s [] (end_of stop.NoMemory 0)
unbegun v s = record {
  number = 0;
  mid = s;
  date = None;
  timed = s;
  before = [];
  last = [];
  served = (refl, refl);
  reads = inl (refl, refl);
  ends = inl (refl, refl, inl (record { stops = record { alone = refl; sent = refl; unused = refl; no_fewer = omega arith }; steady = refl }));
  joined = refl;
}

-- ---- what holds at each step

pub ready_again : (v : Visit) (old new : DeskState) (beside beside' : Beside) → IsReady v old beside → KeepsTickets v.session old new
    → beside'.sizes ≡ beside.sizes → beside'.runs ≡ false → IsReady v new beside'
ready_again v old new beside beside' ready kept sizes idle = record {
  stands = ready.stands;
  caller = subst (λ (c : Option ℕ). IfSome c (λ n. v.session ≡ n)) (sym kept.caller) ready.caller;
  desk_sizes = kept.sizes ∙ ready.desk_sizes;
  reach_sizes = sizes ∙ ready.reach_sizes;
  idle = idle;
}

-- the same, where no talk was held
pub ready_same : (v : Visit) (old new : DeskState) (beside beside' : Beside) → IsReady v old beside → KeepsTickets v.session old new → beside' ≡ beside
    → IsReady v new beside'
ready_same v old new beside beside' ready kept same =
    ready_again v old new beside beside' ready kept (ap (λ (b : Beside). b.sizes) same) (ap (λ (b : Beside). b.runs) same ∙ ready.idle)

pub rises_on : (stop' : SessionStop) (before mid now : ℕ) → mid ≡ before → RisesBy stop' mid now → RisesBy stop' before now
rises_on (stop.Closed why') before mid now same rises = rises ∙ same
rises_on stop.ClientFault before mid now same rises = rose_since before mid now same rises
rises_on stop.Truncated before mid now same rises = rises ∙ same
rises_on (stop.Stray ticket returned_at) before mid now same rises = tt
rises_on stop.NoMemory before mid now same rises = rises ∙ same

pub risen_at_end : (stop' : SessionStop) (count : ℕ) (end : SessionEnd) (before mid now : ℕ) → end ≡ end_of stop' count → mid ≡ before
    → RisesBy stop' mid now → RisesBy end.stop before now
risen_at_end stop' count end before mid now is same rises =
    subst (λ (x : SessionEnd). RisesBy x.stop before now) (sym is) (rises_on stop' before mid now same rises)

-- the last request's turn, as the end of the session
pub ended : (v : Visit) (number : ℕ) (s mid n : ClientStanding) (puts more all : List Served → Type 0) (stop' : SessionStop) (count : ℕ) (end : SessionEnd)
    → PutOn puts more all → IsUnderWay v number s mid puts → end ≡ end_of stop' count
    → (date : Option HttpDate) × (timed : ClientStanding) × ReadsLast stop' v mid timed date
    × ((added : List Served) × more added × EndsIn (visit_at v date) number timed n added count stop')
    → (gained : List Served) × all gained × IsSession v s n gained end
ended v number s mid n puts more all stop' count end on way is (date, timed, reads, (added, put, ending)) =
    subst (λ (x : SessionEnd). (gained : List Served) × all gained × IsSession v s n gained x) (sym is)
    (ends v number count s mid timed n date puts more all added stop' on way reads put ending)

-- a look at the client changed nothing that is told
pub same_client : (mid : ClientStanding) (client : Moment) → client ≡ mid.client → record mid { client = client } ≡ mid
same_client mid client same = ap (λ (m : Moment). record mid { client = m }) same

pub still_under_way : (v : Visit) (number : ℕ) (s mid : ClientStanding) (client : Moment) (puts : List Served → Type 0) → client ≡ mid.client → IsUnderWay v number s mid puts
    → IsUnderWay v number s (record mid { client = client }) puts
still_under_way v number s mid client puts same way = subst (λ (x : ClientStanding). IsUnderWay v number s x puts) (sym (same_client mid client same)) way

-- nothing of a next request was read
pub idles : (v : Visit) (number : ℕ) (s mid n : ClientStanding) (puts : List Served → Type 0) (end : SessionEnd) → IsUnderWay v number s mid puts → 0 < number
    → mid.inbox ≡ [] → n ≡ mid → end ≡ end_of (stop.Closed why.Idle) number
    → (gained : List Served) × puts gained × IsSession v s n gained end
idles v number s mid n puts end way some none same is =
    subst (λ (x : SessionEnd). (gained : List Served) × puts gained × IsSession v s n gained x) (sym is) (
      way.before,
      way.added,
      record {
        number = number;
        mid = mid;
        date = None;
        timed = mid;
        before = way.before;
        last = [];
        served = way.served;
        reads = inl (refl, refl);
        ends = (refl, some, none, same, refl);
        joined = sym (append-nil way.before);
      },
    )
