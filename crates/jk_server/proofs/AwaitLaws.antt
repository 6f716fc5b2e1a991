-- What a session was, where nothing is told of what its client was told to await.
use Rattle.std.proofs.Common.{ℕ, zero, suc, List, inl, inr}
use Rattle.std.proofs.lemmas.List.Elements.{All-weaker}
use Rattle.jk_io.specs.Doors.{DoorSide}
use Rattle.jk_io.specs.Moments.{Moment}
use Rattle.jk_io.specs.declared.traits.streams.Awaited.{Awaited}
use Rattle.jk_io.specs.declared.traits.streams.Meanings.{Ghosts}
use Rattle.jk_io.specs.declared.traits.surroundings.Peer.{Peer}
use Rattle.lb_model.specs.declared.served.Served.{Served}
use Rattle.client_session.specs.Awaits.{AwaitsRequests, IsAwaitedAt, WereAwaited}
use Rattle.client_session.specs.Requests.{Visit}
use Rattle.client_session.specs.Sessions.{HaveServed}
use Rattle.client_session.specs.Standings.{ClientStanding}
use Rattle.client_session.specs.declared.ending.SessionEnd.{SessionEnd}
use Rattle.jk_server.specs.Awaits.{AwaitsClient, link_tells, unheard}
use Rattle.jk_server.specs.Served.{IsRun, IsServed, Run}
use Rattle.jk_server.specs.Worker.{WorkerSide, WorkerTells}
use Rattle.jk_server.specs.declared.part.WorkerEnd.{WorkerEnd}

-- a link of which each may be so
abbrev any : {C : Type 0} → C → Awaited → C → Type 0
any = λ _ _ _. Unit {0}

any_at : {C X : Type 0} (told : Ghosts C X) (heard : C → Awaited → C → Type 0) (at : Moment) → IsAwaitedAt told heard at → IsAwaitedAt told any at
any_at told heard at (client, here, (after, so)) = (client, here, (after, tt))

any_were : {C X : Type 0} (told : Ghosts C X) (heard : C → Awaited → C → Type 0) (v : Visit) (number : ℕ) (s n : ClientStanding) (rows : List Served)
    (served : HaveServed v number s n rows) → WereAwaited told heard v number s n rows served → WereAwaited told any v number s n rows served
any_were told heard v zero s n rows served each = tt
any_were told heard v (suc number) s n rows served each =
    (any_were told heard v number s served.0 served.1 served.5 each.0, any_at told heard served.0.client each.1)

any_requests : {C X : Type 0} (told : Ghosts C X) (heard : C → Awaited → C → Type 0) (v : Visit) (at_first at_last : List ℕ → ClientStanding) (end : SessionEnd)
    → AwaitsRequests told heard v at_first at_last end → AwaitsRequests told any v at_first at_last end
any_requests told heard v at_first at_last end way = record {
  inbox = way.inbox;
  gained = way.gained;
  session = way.session;
  each = any_were told heard v way.session.number _ way.session.mid way.session.before way.session.served way.each;
  last = elim way.last [
    | inl idle ↦ inl idle
    | inr here ↦ inr (any_at told heard way.session.mid.client here)
  ];
}

any_client : {C X : Type 0} (told : Ghosts C X) (heard : C → Awaited → C → Type 0) (v : Visit) (at_first at_last : List ℕ → ClientStanding) (came left : C) (end : SessionEnd)
    → AwaitsClient told heard v at_first at_last came left end → AwaitsClient told any v at_first at_last came left end
any_client told heard v at_first at_last came left end way = record {
  requests = elim way.requests [
    | inl none ↦ inl none
    | inr each ↦ inr (any_requests told heard v at_first at_last end each)
  ];
}

pub run_unheard : {C S Y X : Type 0} (visit : Peer → Visit) (told : Ghosts C X) (heard : C → Awaited → C → Type 0) (of : WorkerTells S Y) (r : Run C S Y)
    → IsRun visit (link_tells told heard) of r → IsRun visit (unheard told) of r
run_unheard visit told heard of r run = record {
  session = run.session;
  parts = run.parts;
  each = run.each;
  fault = run.fault;
  met = run.met;
  kept = run.kept;
  idle_only = run.idle_only;
  gone = run.gone;
  shelf = run.shelf;
  awaits = any_client told heard _ _ _ r.link r.back r.end run.awaits;
}

-- The clients that a worker served, told of no link what it was told to await.
abbrev pub served_unheard : {C S Y L X : Type 0} → (visit : Peer → Visit) (told : Ghosts C X) (heard : C → Awaited → C → Type 0) (of : WorkerTells S Y)
    (before after : DoorSide C) (s n : WorkerSide S Y) (end : WorkerEnd L)
    → IsServed visit (link_tells told heard) of before after s n end → IsServed visit (unheard told) of before after s n end
served_unheard visit told heard of before after s n end served = record {
  runs = served.runs;
  clients = served.clients;
  sessions =
      All-weaker (IsRun visit (link_tells told heard) of) (IsRun visit (unheard told) of) (λ r run. run_unheard visit told heard of r run) served.runs served.sessions;
  why = served.why;
}
