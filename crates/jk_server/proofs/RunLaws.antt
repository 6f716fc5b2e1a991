-- Clients that a worker has served so far, and what it makes of the door's next answer.
use Rattle.std.proofs.Common.{ℕ, ◌≡◌, ◌<◌, ◌≤◌, ◌+◌, false, min, List, [], ◌∷◌, ◌++◌, ◌⊎◌, length, map, Option, Some, None, inl, inr, refl, sym, ap, subst, ◌∙◌, arith}
use Rattle.std.specs.Prelude.{IfSome, IsSome}
use Rattle.std.proofs.lemmas.List.{length-append, map-append}
use Rattle.std.proofs.lemmas.List.Elements.{All-nil, All-push}
use Rattle.jk_io.specs.Looks.{LookTimes}
use Rattle.jk_io.specs.Told.{IsEmpty, Rose}
use Rattle.jk_io.specs.declared.reaching.Beside.{Beside}
use Rattle.jk_io.specs.declared.traits.streams.Meanings.{Ghosts}
use Rattle.jk_io.specs.declared.failures.IoError.{IoError}
use Rattle.jk_io.specs.declared.failures.IoError.TheVariants as io
use Rattle.jk_io.specs.declared.traits.surroundings.Peer.{Peer}
use Rattle.jk_io.specs.Doors.{DoorSide, GaveAndGot, Gives, GivesNone}
use Rattle.jk_io.proofs.DoorLaws.{none_came, none_more, one_more}
use Rattle.lb_model.specs.declared.refusal.Stray.{Stray}
use Rattle.lb_book.specs.Desks.{DeskState, first_stray}
use Rattle.client_session.specs.Ends.{MeetsBy}
use Rattle.client_session.specs.Ready.{IsReady}
use Rattle.client_session.specs.Requests.{Visit, visit}
use Rattle.client_session.specs.declared.ending.SessionEnd.{SessionEnd}
use Rattle.client_session.specs.declared.ending.SessionStop.{SessionStop}
use Rattle.client_session.specs.declared.ending.SessionStop.TheVariants as stop
use Rattle.lb_shared.specs.Histories.{SeatNote}
use Rattle.lb_shared.specs.Notes.{StrayNote}
use Rattle.lb_shared.specs.SharedDesks.{SharedState}
use Rattle.site_config.specs.declared.config.Config.{Config}
use Rattle.status_worker.specs.Desks.{KeepsTickets}
use Rattle.site_mounts.specs.declared.rule.Rule.{Rule}
use Rattle.exchange.specs.Awaits.{AwaitsDials}
use Rattle.exchange.specs.Requests.{sizes_of}
use Rattle.exchange.proofs.AwaitLaws.{awaits_none, awaits_twice}
use Rattle.gear_parts.specs.Logs.{BreaksLoudly, LogTells}
use Rattle.gear_parts.specs.declared.part.Part.{Part}
use Rattle.jk_server.specs.Awaits.{LinkTells}
use Rattle.jk_server.specs.PartTells.{PartTells, visit_at, worker_of}
use Rattle.jk_server.specs.Served.{EndsAtLast, EndsBy, WorkerGoesOn, HaveRested, IsRun, IsServed, IsStray, left_by, Run, ServesClient, ServesNext, ServesOn, ServesPartNext, Settles, SettlesBy}
use Rattle.jk_server.specs.Turns.{EndsAtRest, GoesOrEnds, IsUnderWay, KeepsTurning, LeavesClient, RestsPart, TurnsPart}
use Rattle.jk_server.specs.Worker.{BeginsSession, forgot_desk, IsFit, WorkerTells, Rests, worker_side, WorkerSide}
use Rattle.jk_server.specs.declared.part.Post.{Post}
use Rattle.jk_server.specs.declared.part.WorkerEnd.{WorkerEnd}
use Rattle.jk_server.specs.declared.part.WorkerEnd.TheVariants as worker

pub begins : {C S Y X : Type 0} → (visit : Peer → Visit) (told : LinkTells C X) (of : WorkerTells S Y) (door : DoorSide C) (s : WorkerSide S Y)
    → of.log.broken_by s.log ≡ None → IsUnderWay visit told of door door s s 0
begins visit told of door s logged = record {
  runs = [];
  clients = none_came door;
  sessions = All-nil (IsRun visit told of);
  rested = refl;
  counted = refl;
  steady = refl;
  logged = logged;
}

-- one more session, after which the worker rested
pub rested_more : {C S Y : Type 0} → (of : WorkerTells S Y) (s m n : WorkerSide S Y) (runs : List (Run C S Y)) (r : Run C S Y)
    → HaveRested of s runs m → BeginsSession of.log m r.peer r.from → WorkerGoesOn of r.from r.to r.end → Rests r.to n
    → HaveRested of s (runs ++ r ∷ []) n
rested_more {C} {S} {Y} of s m n [] r rested from goes rests =
    (n, subst (λ (w : WorkerSide S Y). BeginsSession of.log w r.peer r.from) rested from, goes, rests, refl)
rested_more of s m n (x ∷ runs) r rested from goes rests =
    (rested.0, rested.1, rested.2, rested.3, rested_more of rested.0 m n runs r rested.4 from goes rests)

-- the client that came, was served and was left
abbrev run_of : {C S Y L X : Type 0} → (visit : Peer → Visit) (told : LinkTells C X) (of : WorkerTells S Y) (mid after : DoorSide C) (s n : WorkerSide S Y) (link : C) (peer : Peer) (end : Option (WorkerEnd L))
    → ServesClient visit told of mid after s n link peer end → Run C S Y
run_of visit told of mid after s n link peer end serves =
    record { link = link; peer = peer; back = serves.back; from = serves.from; to = serves.to; end = serves.session_end }

-- the clients with this one
clients_more : {C S Y L X : Type 0} → (visit : Peer → Visit) (told : LinkTells C X) (of : WorkerTells S Y) (first before mid after : DoorSide C) (s n : WorkerSide S Y) (runs : List (Run C S Y)) (link : C) (peer : Peer) (end : Option (WorkerEnd L))
    → GaveAndGot first before (map (λ (r : Run C S Y). (r.link, r.peer)) runs) (map (λ (r : Run C S Y). r.back) runs) → Gives before mid link peer
    → (serves : ServesClient visit told of mid after s n link peer end)
    → GaveAndGot first after (map (λ (r : Run C S Y). (r.link, r.peer)) (runs ++ run_of visit told of mid after s n link peer end serves ∷ []))
    (map (λ (r : Run C S Y). r.back) (runs ++ run_of visit told of mid after s n link peer end serves ∷ []))
clients_more {C} {S} {Y} visit told of first before mid after s n runs link peer end so_far gives serves =
    let here = run_of visit told of mid after s n link peer end serves in
    let came = map-append {B = C × Peer} (λ (r : Run C S Y). (r.link, r.peer)) runs (here ∷ []) in
    let back = map-append (λ (r : Run C S Y). r.back) runs (here ∷ []) in
    rw (came, back) (one_more first before mid after _ _ link serves.back peer so_far gives serves.coming serves.left serves.door_faults)

-- a desk that the worker went on with is as the session left it
same_side : {S Y : Type 0} → (to n : WorkerSide S Y) → n ≡ record to { desk = n.desk } → n.desk ≡ to.desk → n ≡ to
same_side {S} {Y} to n same desk = same ∙ ap (λ (d : SharedState S). record to { desk = d }) desk

pub goes_on : {C S Y L X : Type 0} → (visit : Peer → Visit) (told : LinkTells C X) (of : WorkerTells S Y) (first before mid after : DoorSide C) (s m n k : WorkerSide S Y) (count next : ℕ) (link : C) (peer : Peer) (then : DoorSide C)
    → IsUnderWay visit told of first before s m count → Gives before mid link peer
    → ServesClient {L = L} visit told of mid after m n link peer None → Rests n k
    → then ≡ after → next ≡ min (count + 1) 18446744073709551615 → IsUnderWay visit told of first then s k next
goes_on {C} {S} {Y} {L} visit told of first before mid after s m n k count next link peer then way gives serves rests same more =
    let here = run_of {L = L} visit told of mid after m n link peer None serves in
    let len = length-append way.runs (here ∷ []) in
    let was = way.counted in
    subst (λ (d : DoorSide C). IsUnderWay visit told of first d s k next) (sym same) (record {
      runs = way.runs ++ here ∷ [];
      clients = clients_more {L = L} visit told of first before mid after m n way.runs link peer None way.clients gives serves;
      sessions = All-push (IsRun visit told of) way.runs here way.sessions serves.run;
      rested =
          rested_more of s m k way.runs here way.rested serves.begins serves.settles.0
          (subst (λ (w : WorkerSide S Y). Rests w k) (same_side serves.to n serves.same serves.settles.1) rests);
      counted = omega (arith, len, was, more);
      steady = serves.door_faults ∙ (gives.faults ∙ way.steady);
      logged =
          ap (λ (w : WorkerSide S Y). of.log.broken_by w.log) (rests.same)
          ∙ (ap (λ (w : WorkerSide S Y). of.log.broken_by w.log) (same_side serves.to n serves.same serves.settles.1) ∙ serves.settles.0.logged);
    })

-- it rested, and the reach wanted memory
pub rest_wants : {C S Y L X : Type 0} → (visit : Peer → Visit) (told : LinkTells C X) (of : WorkerTells S Y) (first now : DoorSide C) (s n : WorkerSide S Y) (count : ℕ)
    → IsUnderWay visit told of first now s n count → IsServed {L = L} visit told of first now s n worker.NoMemory
rest_wants visit told of first now s n count way =
    record { runs = way.runs; clients = way.clients; sessions = way.sessions; why = (inl way.rested, way.steady) }

-- ---- the end right after a session

ends_at_last : {C S Y L X : Type 0} → (visit : Peer → Visit) (told : LinkTells C X) (of : WorkerTells S Y) (mid after : DoorSide C) (s m n : WorkerSide S Y) (runs : List (Run C S Y)) (link : C) (peer : Peer) (end : WorkerEnd L)
    → HaveRested of s runs m → (serves : ServesClient visit told of mid after m n link peer (Some end))
    → EndsAtLast of s n (runs ++ run_of visit told of mid after m n link peer (Some end) serves ∷ []) end
ends_at_last {C} {S} {Y} visit told of mid after s m n runs link peer end rested serves = record {
  before = runs;
  last = run_of visit told of mid after m n link peer (Some end) serves;
  mid = m;
  split = refl;
  rested = rested;
  begins = serves.begins;
  why = serves.settles.0;
  left = serves.same ∙ ap (λ (d : SharedState S). record serves.to { desk = d }) serves.settles.1;
}

-- an end right after a session is an end, if no call of the door had failed
ends_by : {C S Y L : Type 0} → (of : WorkerTells S Y) (before after : DoorSide C) (s n : WorkerSide S Y) (runs : List (Run C S Y)) (end : WorkerEnd L)
    → EndsAtLast of s n runs end → after.faults ≡ before.faults → EndsBy of before after s n runs end
ends_by of before after s n runs (worker.Closed sessions) at steady = absurd at.why
ends_by of before after s n runs worker.DoorFault at steady = absurd at.why
ends_by of before after s n runs worker.ShelfFault at steady = (at, steady)
ends_by of before after s n runs worker.LogFault at steady = (at, steady)
ends_by of before after s n runs (worker.Stray stray) at steady = (at, steady)
ends_by of before after s n runs worker.NoMemory at steady = (inr at, steady)

pub ends : {C S Y L X : Type 0} → (visit : Peer → Visit) (told : LinkTells C X) (of : WorkerTells S Y) (first before mid after : DoorSide C) (s m n : WorkerSide S Y) (count : ℕ) (link : C) (peer : Peer) (end : WorkerEnd L)
    → IsUnderWay visit told of first before s m count → Gives before mid link peer
    → ServesClient visit told of mid after m n link peer (Some end) → IsServed visit told of first after s n end
ends visit told of first before mid after s m n count link peer end way gives serves = record {
  runs = way.runs ++ run_of visit told of mid after m n link peer (Some end) serves ∷ [];
  clients = clients_more visit told of first before mid after m n way.runs link peer (Some end) way.clients gives serves;
  sessions = All-push (IsRun visit told of) way.runs _ way.sessions serves.run;
  why = ends_by of first after s n _ end (ends_at_last visit told of mid after s m n way.runs link peer end way.rested serves)
      (serves.door_faults ∙ (gives.faults ∙ way.steady));
}

-- ---- one client

none_or_some : (was : Option IoError) → was ≡ None → was ≡ Some io.Failed → ⊥
none_or_some was none some = cc

not_both : (broken : Option IoError) → broken ≡ Some io.NoMemory → broken ≡ Some io.Failed → ⊥
not_both broken wanted failed = cc

rose_of : (was before : Option IoError) (faults faults' : ℕ) → was ≡ None → (before ≡ Some io.Failed → was ≡ Some io.Failed)
    → (before ≡ Some io.Failed) ⊎ Rose faults faults' → Rose faults faults'
rose_of was before faults faults' sound calm (inl failed) = absurd (none_or_some was sound (calm failed))
rose_of was before faults faults' sound calm (inr rose) = rose

-- A log that broke by a fault in a session was sound when it began, so its faults rose.
pub rose_loud : (was before now : Option IoError) (faults faults' : ℕ) → was ≡ None → (before ≡ Some io.Failed → was ≡ Some io.Failed)
    → BreaksLoudly before now faults faults' → now ≡ Some io.Failed → Rose faults faults'
rose_loud was before now faults faults' sound calm loud broke = rose_of was before faults faults' sound calm (loud broke)

-- A worker after its session, by the error that broke its log.
pub settles_so : {S Y L : Type 0} → (of : WorkerTells S Y) (from to : WorkerSide S Y) (n : SharedState S) (end : SessionEnd) (broken : Option IoError) (settled' : Option (WorkerEnd L))
    → of.log.broken_by to.log ≡ broken → (broken ≡ Some io.Failed → Rose (of.log.faults from.log) (of.log.faults to.log))
    → ((of.log.broken_by to.log ≡ Some io.Failed → ⊥) → of.log.faults to.log ≡ of.log.faults from.log)
    → SettlesBy broken of.shelf_faults from.desk to.desk n end.stop settled' → Settles of from to n end settled'
settles_so of from to n end None None is loud calm by = (record { desk = by.0; logged = is; steady = calm (λ failed. none_or_some _ is failed) }, by.1)
settles_so of from to n end None (Some (worker.Closed sessions)) is loud calm by = absurd by.0
settles_so of from to n end None (Some worker.DoorFault) is loud calm by = absurd by.0
settles_so of from to n end None (Some worker.ShelfFault) is loud calm by = ((λ failed. none_or_some _ is failed, by.0), by.1)
settles_so of from to n end None (Some worker.LogFault) is loud calm by = absurd by.0
settles_so of from to n end None (Some (worker.Stray stray)) is loud calm by = ((is, by.0), by.1)
settles_so of from to n end None (Some worker.NoMemory) is loud calm by = ((inr (is, by.0), calm (λ failed. none_or_some _ is failed)), by.1)
settles_so {L = L} of from to n end (Some io.Failed) settled' is loud calm by =
    subst (λ (e : Option (WorkerEnd L)). Settles of from to n end e) (sym by.0) ((is, loud refl), by.1)
settles_so of from to n end (Some io.NoMemory) None is loud calm by = absurd by
settles_so of from to n end (Some io.NoMemory) (Some (worker.Closed sessions)) is loud calm by = absurd by.0
settles_so of from to n end (Some io.NoMemory) (Some worker.DoorFault) is loud calm by = absurd by.0
settles_so of from to n end (Some io.NoMemory) (Some worker.ShelfFault) is loud calm by = ((λ failed. not_both _ is failed, by.0), by.1)
settles_so of from to n end (Some io.NoMemory) (Some worker.LogFault) is loud calm by = absurd by.0
settles_so of from to n end (Some io.NoMemory) (Some (worker.Stray stray)) is loud calm by = absurd by.0
settles_so of from to n end (Some io.NoMemory) (Some worker.NoMemory) is loud calm by = ((inl (is, by.0), calm (λ failed. not_both _ is failed)), by.1)

-- a desk that forgot its receipts, part by part
pub desk_forgot : {S : Type 0} (d n : SharedState S) → n.desk ≡ record d.desk { receipts = [] } → n.forgotten ≡ d.forgotten + length d.desk.receipts
    → (n.shelf ≡ d.shelf) × (n.wants ≡ d.wants) × (n.met ≡ d.met) → n.seat ≡ d.seat → n ≡ forgot_desk d
desk_forgot {S} d n desk forgotten same seat =
    ap (λ (x : DeskState). record n { desk = x }) desk
    ∙ (ap (λ (k : ℕ). record n { desk = record d.desk { receipts = [] }; forgotten = k }) forgotten
    ∙ (ap (λ (x : S). record n { desk = record d.desk { receipts = [] }; forgotten = d.forgotten + length d.desk.receipts; shelf = x }) same.0
    ∙ (ap (λ (k : ℕ). record n { desk = record d.desk { receipts = [] }; forgotten = d.forgotten + length d.desk.receipts; shelf = d.shelf; wants = k }) same.1
    ∙ (ap (λ (m : Option StrayNote). record n { desk = record d.desk { receipts = [] }; forgotten = d.forgotten + length d.desk.receipts; shelf = d.shelf; wants = d.wants; met = m }) same.2
    ∙ ap (λ (x : SeatNote). record n { desk = record d.desk { receipts = [] }; forgotten = d.forgotten + length d.desk.receipts; shelf = d.shelf; wants = d.wants; met = d.met; seat = x }) seat))))

-- what a worker has after its link was left: another desk
pub same_but_desk : {K R S Y : Type 0} (answers : K → Option (List ℕ)) (told : Ghosts R Beside) (looks : R → Option LookTimes) (d n : SharedState S) (k k' : K) (r r' : R) (y y' : Y)
    → (r' ≡ r) × (k' ≡ k) × (y' ≡ y) → worker_side answers told looks n k' r' y' ≡ record (worker_side answers told looks d k r y) { desk = n }
same_but_desk {K} {R} {S} {Y} answers told looks d n k k' r r' y y' same =
    ap (λ (x : R). worker_side answers told looks n k' x y') same.0
    ∙ (ap (λ (x : K). worker_side answers told looks n x r y') same.1 ∙ ap (λ (x : Y). worker_side answers told looks n k r x) same.2)

-- what a worker begins its session with
pub begins_so : {K R S Y : Type 0} (log : LogTells Y) (answers : K → Option (List ℕ)) (told : Ghosts R Beside) (looks : R → Option LookTimes) (d n : SharedState S) (k : K) (r : R) (y y' : Y) (peer : Peer)
    → n ≡ forgot_desk d → log.greets y peer y' → BeginsSession log (worker_side answers told looks d k r y) peer (worker_side answers told looks n k r y')
begins_so {K} {R} {S} {Y} log answers told looks d n k r y y' peer same greeted =
    record { greeted = greeted; same = ap (λ (x : SharedState S). worker_side answers told looks x k r y') same }

-- what a worker may serve with, it may serve with again
pub fit_again : {S : Type 0} → (cfg : Config) (rules : List Rule) (d d' : SharedState S) (b b' : Beside)
    → IsFit cfg rules d.desk b → d' ≡ d → b' ≡ b → IsFit cfg rules d'.desk b'
fit_again cfg rules d d' b b' fit same beside = rw (same, beside) fit

pub parts_again : {S : Type 0} → (d d' : SharedState S) (parts : Option ℕ) → d.desk.parts ≡ parts → d' ≡ d → d'.desk.parts ≡ parts
parts_again d d' parts is same = rw same is

-- ---- the door gives none

pub closes : {C S Y L X : Type 0} → (visit : Peer → Visit) (told : LinkTells C X) (of : WorkerTells S Y) (first before after : DoorSide C) (s n : WorkerSide S Y) (count : ℕ)
    → IsUnderWay visit told of first before s n count → GivesNone before after × IsEmpty after.coming → after.faults ≡ before.faults
    → IsServed {L = L} visit told of first after s n (worker.Closed count)
closes visit told of first before after s n count way none steady = record {
  runs = way.runs;
  clients = none_more first before after _ _ way.clients none.0;
  sessions = way.sessions;
  why = (way.counted, way.rested, none.1, steady ∙ way.steady);
}

rose_since : (first before now : ℕ) → first ≤ before → Rose before now → Rose first now
rose_since first before now earlier rose = omega (arith, earlier, rose)

pub fails : {C S Y L X : Type 0} → (visit : Peer → Visit) (told : LinkTells C X) (of : WorkerTells S Y) (first before after : DoorSide C) (s n : WorkerSide S Y) (count : ℕ)
    → IsUnderWay visit told of first before s n count → GivesNone before after × Rose before.faults after.faults
    → IsServed {L = L} visit told of first after s n worker.DoorFault
fails visit told of first before after s n count way none = record {
  runs = way.runs;
  clients = none_more first before after _ _ way.clients none.0;
  sessions = way.sessions;
  why = (way.rested, rose_since first.faults before.faults after.faults way.clients.no_fewer none.1);
}

pub lacks : {C S Y L X : Type 0} → (visit : Peer → Visit) (told : LinkTells C X) (of : WorkerTells S Y) (first before after : DoorSide C) (s n : WorkerSide S Y) (count : ℕ)
    → IsUnderWay visit told of first before s n count → GivesNone before after → after.faults ≡ before.faults
    → IsServed {L = L} visit told of first after s n worker.NoMemory
lacks visit told of first before after s n count way none steady = record {
  runs = way.runs;
  clients = none_more first before after _ _ way.clients none;
  sessions = way.sessions;
  why = (inl way.rested, steady ∙ way.steady);
}

-- ---- the next client

pub serves_on : {C S Y L X : Type 0} → (visit : Peer → Visit) (told : LinkTells C X) (of : WorkerTells S Y) (before after then : DoorSide C) (s mid n : WorkerSide S Y) (link : C) (peer : Peer)
    → ServesClient {L = L} visit told of before after s mid link peer None → Rests mid n → then ≡ after
    → ServesOn {L = L} visit told of before then s n link peer None
serves_on {C} {S} {Y} {L} visit told of before after then s mid n link peer serves rests same = record {
  mid = mid;
  serves = subst (λ (d : DoorSide C). ServesClient {L = L} visit told of before d s mid link peer None) (sym same) serves;
  rests = rests;
}

pub goes_next : {C S Y L X : Type 0} → (visit : Peer → Visit) (told : LinkTells C X) (of : WorkerTells S Y) (first before mid after : DoorSide C) (s m k : WorkerSide S Y) (count next : ℕ) (link : C) (peer : Peer)
    → IsUnderWay visit told of first before s m count → Gives before mid link peer → ServesOn {L = L} visit told of mid after m k link peer None
    → next ≡ min (count + 1) 18446744073709551615 → IsUnderWay visit told of first after s k next
goes_next {C} {S} {Y} {L} visit told of first before mid after s m k count next link peer way gives on more =
    goes_on {L = L} visit told of first before mid after s m on.mid k count next link peer after way gives on.serves on.rests refl more

pub ends_next : {C S Y L X : Type 0} → (visit : Peer → Visit) (told : LinkTells C X) (of : WorkerTells S Y) (first before mid after : DoorSide C) (s m n : WorkerSide S Y) (count : ℕ) (link : C) (peer : Peer) (end : WorkerEnd L)
    → IsUnderWay visit told of first before s m count → Gives before mid link peer
    → ServesNext visit told of mid after m n link peer (Some end) → IsServed visit told of first after s n end
ends_next visit told of first before mid after s m n count link peer end way gives (inl serves) =
    ends visit told of first before mid after s m n count link peer end way gives serves
ends_next {C} {S} {Y} {L} visit told of first before mid after s m n count link peer end way gives (inr wants) =
    subst (λ (e : WorkerEnd L). IsServed visit told of first after s n e) (sym wants.0)
    (rest_wants {L = L} visit told of first after s n _
    (goes_next {L = L} visit told of first before mid after s m n count (min (count + 1) 18446744073709551615) link peer way gives wants.1 refl))

-- one turn, after which the worker goes on or ends
pub turns : {C S Y L X : Type 0} → (visit : Peer → Visit) (told : LinkTells C X) (of : WorkerTells S Y) (first before mid after : DoorSide C) (s m n : WorkerSide S Y) (count : ℕ) (link : C) (peer : Peer) (end : Option (WorkerEnd L))
    → IsUnderWay visit told of first before s m count → Gives before mid link peer → ServesNext visit told of mid after m n link peer end
    → GoesOrEnds visit told of first after s n count end
turns {L = L} visit told of first before mid after s m n count link peer None way gives serves =
    goes_next {L = L} visit told of first before mid after s m n count (min (count + 1) 18446744073709551615) link peer way gives serves refl
turns visit told of first before mid after s m n count link peer (Some end) way gives serves =
    ends_next visit told of first before mid after s m n count link peer end way gives serves

-- A client was served, and the worker goes on or ends. It may serve on with what it has. Its share keeps its parts. Before each talk
-- the reach was told how long its dial may take.
pub record NextsPart {L D R K S W Y C X : Type 0} (told : PartTells D R K S Y C X) (post : Post) (before after : Part L D R K S W Y) (link : C) (peer : Peer) (end : Option (WorkerEnd L)) : Type 0 where
  pub served : ServesPartNext told (visit_at post) before after link peer end
  pub dials : AwaitsDials told.reach told.reach_heard post.cfg.now.lbs before.reach after.reach
  pub fit : IsFit post.cfg.now post.map.now after.desk.desk (told.reach.beside after.reach)
  pub parts : after.desk.desk.parts ≡ before.desk.desk.parts

-- So of what the worker does at its rest.
next_so : {L D R K S W Y C X : Type 0} → (told : PartTells D R K S Y C X) (visit : Peer → Visit) (before after : Part L D R K S W Y) (link : C) (peer : Peer) (end : Option (WorkerEnd L))
    → EndsAtRest end
    → ServesOn {L = L} visit told.link told.keeps (told.door before.door) (told.door after.door) (worker_of told before) (worker_of told after) link peer None
    → ServesPartNext told visit before after link peer end
next_so told visit before after link peer None why on = on
next_so told visit before after link peer (Some end) why on = inr (why, on)

pub rests_next : {L D R K S W Y C X : Type 0} → (told : PartTells D R K S Y C X) (post : Post) (before mid after : Part L D R K S W Y) (link : C) (peer : Peer) (end : Option (WorkerEnd L))
    → LeavesClient told post before mid link peer None → RestsPart told mid after end → NextsPart told post before after link peer end
rests_next {L} told post before mid after link peer end left rested = record {
  served =
      next_so told (visit_at post) before after link peer end rested.why
      (serves_on {L = L} (visit_at post) told.link told.keeps (told.door before.door) (told.door mid.door) (told.door after.door)
      (worker_of told before) (worker_of told mid) (worker_of told after) link peer left.served rested.rests (ap told.door rested.same_door));
  dials =
      awaits_twice told.reach told.reach_heard post.cfg.now.lbs before.reach mid.reach after.reach left.dials
      (awaits_none told.reach told.reach_heard post.cfg.now.lbs mid.reach after.reach (ap (λ (b : Beside). b.talks) rested.beside));
  fit = fit_again post.cfg.now post.map.now mid.desk after.desk (told.reach.beside mid.reach) (told.reach.beside after.reach) left.fit rested.same_desk rested.beside;
  parts = parts_again mid.desk after.desk before.desk.desk.parts left.parts rested.same_desk;
}

-- ---- turns one after another

pub turns_first : {L D R K S W Y C X : Type 0} → (told : PartTells D R K S Y C X) (cfg : Config) (rules : List Rule) (number : ℕ) (part : Part L D R K S W Y)
    → IsFit cfg rules part.desk.desk (told.reach.beside part.reach) → told.keeps.log.broken_by part.log ≡ None → KeepsTurning told cfg rules number part part 0
turns_first told cfg rules number part fit logged = record {
  way = begins (visit cfg rules number) told.link told.keeps (told.door part.door) (worker_of told part) logged;
  dials = awaits_none told.reach told.reach_heard cfg.lbs part.reach part.reach refl;
  fit = fit;
  parts = refl;
}

pub turns_again : {L D R K S W Y C X : Type 0} → (told : PartTells D R K S Y C X) (post : Post) (first now next : Part L D R K S W Y) (count more : ℕ)
    → TurnsPart told post now next count None → more ≡ min (count + 1) 18446744073709551615
    → KeepsTurning told post.cfg.now post.map.now post.number first now count → KeepsTurning told post.cfg.now post.map.now post.number first next more
turns_again told post first now next count more turn is keeps = record {
  way =
      subst (λ (n : ℕ). IsUnderWay (visit_at post) told.link told.keeps (told.door first.door) (told.door next.door) (worker_of told first) (worker_of told next) n)
      (sym is) (turn.turned (told.door first.door) (worker_of told first) keeps.way);
  dials = awaits_twice told.reach told.reach_heard post.cfg.now.lbs first.reach now.reach next.reach keeps.dials turn.dials;
  fit = turn.fit;
  parts = turn.parts ∙ keeps.parts;
}

-- ---- what a session is asked with, and what a worker may serve with after it

some_met : (before now : Option Stray) (stray : Stray) → now ≡ first_stray before stray → IsSome now
some_met None now stray is = rw is refl
some_met (Some first) now stray is = rw is refl

-- a stray was met where the session ended by one
pub stray_met : (end : SessionStop) (old new : DeskState) → MeetsBy end old new → IsStray end → IsSome new.met
stray_met (stop.Closed why) old new meets stray = absurd stray
stray_met stop.ClientFault old new meets stray = absurd stray
stray_met stop.Truncated old new meets stray = absurd stray
stray_met (stop.Stray ticket returned_at) old new meets stray = some_met old.met new.met _ meets.1
stray_met stop.NoMemory old new meets stray = absurd stray

-- A desk that holds what another does, for the same caller and balancers, with the same parts.
pub record HoldsAs (from to : DeskState) : Type 0 where
  pub caller : to.caller ≡ from.caller
  pub sizes : to.sizes ≡ from.sizes
  pub held : to.held ≡ from.held
  pub parts : to.parts ≡ from.parts

holds_same : (from to : DeskState) → to ≡ from → HoldsAs from to
holds_same from to same = record {
  caller = ap (λ (x : DeskState). x.caller) same;
  sizes = ap (λ (x : DeskState). x.sizes) same;
  held = ap (λ (x : DeskState). x.held) same;
  parts = ap (λ (x : DeskState). x.parts) same;
}

holds_took : (from to : DeskState) → to ≡ record from { met = None } → HoldsAs from to
holds_took from to same = record {
  caller = ap (λ (x : DeskState). x.caller) same;
  sizes = ap (λ (x : DeskState). x.sizes) same;
  held = ap (λ (x : DeskState). x.held) same;
  parts = ap (λ (x : DeskState). x.parts) same;
}

left_desk : {S L : Type 0} → (end : WorkerEnd L) (to n : SharedState S) → n ≡ left_by end to → HoldsAs to.desk n.desk
left_desk {S} (worker.Closed sessions) to n is = holds_same to.desk n.desk (ap (λ (x : SharedState S). x.desk) is)
left_desk {S} worker.DoorFault to n is = holds_same to.desk n.desk (ap (λ (x : SharedState S). x.desk) is)
left_desk {S} worker.ShelfFault to n is = holds_same to.desk n.desk (ap (λ (x : SharedState S). x.desk) is)
left_desk {S} worker.LogFault to n is = holds_same to.desk n.desk (ap (λ (x : SharedState S). x.desk) is)
left_desk {S} (worker.Stray stray) to n is = holds_took to.desk n.desk (ap (λ (x : SharedState S). x.desk) is)
left_desk {S} worker.NoMemory to n is = holds_same to.desk n.desk (ap (λ (x : SharedState S). x.desk) is)

-- So a desk is after a session, whether its worker goes on or ends.
pub settled : {S Y L : Type 0} → (of : WorkerTells S Y) (from to : WorkerSide S Y) (n : SharedState S) (end : SessionEnd) (worker_end : Option (WorkerEnd L))
    → Settles of from to n end worker_end → HoldsAs to.desk.desk n.desk
settled {S} of from to n end None settles = holds_same to.desk.desk n.desk (ap (λ (x : SharedState S). x.desk) settles.1)
settled of from to n end (Some worker_end) settles = left_desk worker_end to.desk n settles.1

pub fit_after : (cfg : Config) (rules : List Rule) (first d to n : DeskState) (session : ℕ) (b b' : Beside) → IsFit cfg rules first b
    → d ≡ record first { receipts = [] } → KeepsTickets session d to → HoldsAs to n → b'.sizes ≡ sizes_of cfg.lbs → b'.runs ≡ false → IsFit cfg rules n b'
fit_after cfg rules first d to n session b b' fit forgets kept holds sizes idle = record {
  stands = fit.stands;
  caller = holds.caller ∙ kept.caller ∙ ap (λ (x : DeskState). x.caller) forgets ∙ fit.caller;
  desk_sizes = holds.sizes ∙ kept.sizes ∙ ap (λ (x : DeskState). x.sizes) forgets ∙ fit.desk_sizes;
  reach_sizes = sizes;
  none_held = holds.held ∙ kept.held ∙ ap (λ (x : DeskState). x.held) forgets ∙ fit.none_held;
  idle = idle;
}

-- A desk that forgot its receipts is as fit.
pub fit_forgot : (cfg : Config) (rules : List Rule) (first d : DeskState) (b : Beside) → IsFit cfg rules first b → d ≡ record first { receipts = [] } → IsFit cfg rules d b
fit_forgot cfg rules first d b fit forgets = subst (λ (x : DeskState). IsFit cfg rules x b) (sym forgets) (record {
  stands = fit.stands;
  caller = fit.caller;
  desk_sizes = fit.desk_sizes;
  reach_sizes = fit.reach_sizes;
  none_held = fit.none_held;
  idle = fit.idle;
})

-- A worker that is fit is ready for a session with its number.
pub ready_for : (post : Post) (peer : Peer) (d : DeskState) (b : Beside) → IsFit post.cfg.now post.map.now d b → IsReady (visit_at post peer) d b
ready_for post peer d b fit = record {
  stands = fit.stands;
  caller = subst (λ (c : Option ℕ). IfSome c (λ n. post.number ≡ n)) (sym fit.caller) tt;
  desk_sizes = fit.desk_sizes;
  reach_sizes = fit.reach_sizes;
  idle = fit.idle;
}

pub parts_after : (first d to n : DeskState) (session : ℕ) → d ≡ record first { receipts = [] } → KeepsTickets session d to → HoldsAs to n → n.parts ≡ first.parts
parts_after first d to n session forgets kept holds = holds.parts ∙ kept.parts ∙ ap (λ (x : DeskState). x.parts) forgets

-- a link that came can be left
pub room_left : (room before : ℕ) → room ≡ before + 1 → 0 < room
room_left room before more = omega (arith, more)
