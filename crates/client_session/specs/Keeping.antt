-- Desk, reach and client as the parts of a session keep them; strays and the client's faults as answers tell them.
use Rattle.std.specs.Prelude.{◌≡◌, ℕ, ◌+◌, ◌<◌, ◌≤◌, Bool, List, Option, Result, Ok, Err}
use Rattle.jk_io.specs.declared.reaching.Beside.{Beside}
use Rattle.jk_io.specs.declared.traits.streams.Awaited.{Awaited}
use Rattle.jk_io.specs.declared.traits.streams.Meanings.{Ghosts}
use Rattle.http_front.specs.declared.head.Head.{Head}
use Rattle.lb_model.specs.declared.served.Asked.{Asked}
use Rattle.lb_model.specs.declared.served.Served.{Served}
use Rattle.lb_book.specs.Desks.{DeskState}
use Rattle.status_worker.specs.Desks.{KeepsTickets}
use Rattle.client_session.specs.Awaits.{DialsInTime}
use Rattle.client_session.specs.Concluding.{settled_by, whole_settled}
use Rattle.client_session.specs.Ready.{IsReady}
use Rattle.client_session.specs.Requests.{Visit, visit_of}
use Rattle.client_session.specs.Rows.{worker_row}
use Rattle.client_session.specs.Surroundings.{AreSame, TurnsFrom, TurnsNow, standing_of}
use Rattle.client_session.specs.Turns.{IsBusy, MeetsInAnswer, MeetsInTurn, RisesInAnswer, RisesInTurn}
use Rattle.client_session.specs.Standings.{ClientStanding}
use Rattle.client_session.specs.declared.ending.SessionStop.{SessionStop}
use Rattle.client_session.specs.declared.requests.TheConstants.{MAX_REQUESTS}
use Rattle.client_session.specs.declared.inquiry.Inquiry.{Inquiry}
use Rattle.client_session.specs.declared.session_site.SessionSite.{SessionSite}
use Rattle.client_session.specs.declared.surroundings.Surroundings.{Surroundings}
use Rattle.client_session.specs.declared.turn.SessionTurn.{SessionTurn}
use Rattle.client_session.specs.declared.turn.SessionTurn.TheVariants as turns
use Rattle.client_session.specs.declared.turn.Settled.{Settled}

-- Desk and reach are as ready as before: no talk runs, and the desk holds the tickets that it held. No count of faults fell,
-- and all are still the caller's own.
pub record KeepsAround {B K R C X : Type 0} (state : B → DeskState) (of_reach : Ghosts R Beside) (of_client : Ghosts C X) (v : Visit)
    (s n : Surroundings B K R C) : Type 0 where
  pub ready : IsReady v (state n.desk.now) (of_reach.beside n.reach.now)
  pub kept : KeepsTickets v.session (state s.desk.now) (state n.desk.now)
  pub beside : of_client.beside n.client.now ≡ of_client.beside s.client.now
  pub reach_faults : of_reach.faults s.reach.now ≤ of_reach.faults n.reach.now
  pub client_faults : of_client.faults s.client.now ≤ of_client.faults n.client.now
  pub same : AreSame s n

-- A request was settled so by an answer of this kind; what that tells of strays and of the client's faults, and what is kept. Before
-- each talk the reach was told how long its dial may take.
pub record TellsAnswer {B K R C X : Type 0} (state : B → DeskState) (answers : K → Option (List ℕ)) (of_reach : Ghosts R Beside) (heard : R → Awaited → R → Type 0)
    (of_client : Ghosts C X) (i : Inquiry) (s n : Surroundings B K R C) (settled : Settled) (kind : ClientStanding → ClientStanding → Type 0) : Type 0 where
  pub answer : kind (standing_of state answers of_reach of_client s) (standing_of state answers of_reach of_client n)
  pub met : MeetsInAnswer settled.answered (state s.desk.now) (state n.desk.now)
  pub fault : RisesInAnswer settled.answered (of_client.faults s.client.now) (of_client.faults n.client.now)
  pub kept : KeepsAround state of_reach of_client (visit_of i.site.now) s n
  pub dials : DialsInTime of_reach heard i.site.now s n

-- The same of a turn, before which that number of requests came. It leaves no client that waits, and a next one follows only
-- where it isn't the last of the most that a session has.
pub record TellsTurn {B K R C X : Type 0} (state : B → DeskState) (answers : K → Option (List ℕ)) (of_reach : Ghosts R Beside) (heard : R → Awaited → R → Type 0)
    (of_client : Ghosts C X) (site : SessionSite) (number : ℕ) (s n : Surroundings B K R C) (turn : SessionTurn) (kind : ClientStanding → ClientStanding → Type 0) : Type 0 where
  pub turned : kind (standing_of state answers of_reach of_client s) (standing_of state answers of_reach of_client n)
  pub more : turn ≡ turns.Next → number + 1 < MAX_REQUESTS
  pub busy : IsBusy turn
  pub met : MeetsInTurn turn (state s.desk.now) (state n.desk.now)
  pub fault : RisesInTurn turn (of_client.faults s.client.now) (of_client.faults n.client.now)
  pub kept : KeepsAround state of_reach of_client (visit_of site) s n
  pub dials : DialsInTime of_reach heard site s n

-- So of the turn of a request that is read and answered, and of one whose head was read.
abbrev pub TellsRequest : {B K R C X : Type 0} → (B → DeskState) → (K → Option (List ℕ)) → Ghosts R Beside → (heard : R → Awaited → R → Type 0) → Ghosts C X → SessionSite
    → (number : ℕ) → (s n : Surroundings B K R C) → (puts : List Served → Type 0) → SessionTurn → Type 0
TellsRequest state answers of_reach heard of_client site number s n puts turn =
    TellsTurn state answers of_reach heard of_client site number s n turn (λ s n. TurnsNow (visit_of site) number s n puts turn)

abbrev pub TellsHead : {B K R C X : Type 0} → (B → DeskState) → (K → Option (List ℕ)) → Ghosts R Beside → (heard : R → Awaited → R → Type 0) → Ghosts C X → SessionSite
    → (number : ℕ) → Head → (s n : Surroundings B K R C) → (puts : List Served → Type 0) → SessionTurn → Type 0
TellsHead state answers of_reach heard of_client site number head s n puts turn =
    TellsTurn state answers of_reach heard of_client site number s n turn (λ s n. TurnsFrom (visit_of site) number head s n puts turn)

-- A status worker's answer as one of its session, with the row of its request.
abbrev pub IsShown : Result ℕ SessionStop → (name : List ℕ) → (head_only : Bool) → Asked → Settled → Type 0
IsShown (Ok len) name head_only asked settled = settled ≡ whole_settled (worker_row asked 200 len name)
IsShown (Err stop) name head_only asked settled = settled ≡ settled_by stop asked head_only
