-- One session over what it is lent: a desk, a clock, a reach, a client and rows, as they were and as they are.
use Rattle.std.specs.Prelude.{◌≡◌, ◌≤◌, ℕ, Bool, true, List, []}
use Rattle.jk_io.specs.declared.reaching.Beside.{Beside}
use Rattle.jk_io.specs.declared.traits.streams.Meanings.{Ghosts}
use Rattle.jk_io.specs.declared.traits.streams.Awaited.{Awaited}
use Rattle.jk_io.specs.declared.traits.surroundings.Clock.{Ghosts as ClockGhosts}
use Rattle.lb_model.specs.declared.row_sink.RowSink.{Ghosts as RowGhosts}
use Rattle.lb_book.specs.Desks.{DeskState}
use Rattle.status_worker.specs.Desks.{KeepsTickets}
use Rattle.exchange.specs.Awaits.{AwaitsDials}
use Rattle.client_session.specs.Ends.{MeetsBy, RisesBy}
use Rattle.client_session.specs.Parts.{HasParts}
use Rattle.client_session.specs.Ready.{IsReady}
use Rattle.client_session.specs.Requests.{visit_of}
use Rattle.client_session.specs.Sessions.{Serves}
use Rattle.client_session.specs.Standings.{ClientStanding, standing}
use Rattle.client_session.specs.Whole.{HoldsOfEach}
use Rattle.client_session.specs.declared.ending.SessionEnd.{SessionEnd}
use Rattle.client_session.specs.declared.ending.SessionStop.TheVariants as stop
use Rattle.client_session.specs.declared.ending.Why.TheVariants as why
use Rattle.lb_shared.specs.Loans.{state_in}
use Rattle.lb_shared.specs.SharedDesks.{SharedState}
use Rattle.lb_shared.specs.declared.lent_desk.DeskLoan.{DeskLoan}
use Rattle.jk_server.specs.Awaits.{AwaitsClient}
use Rattle.jk_server.specs.declared.client.ShelfCounts.{ShelfCounts}
use Rattle.jk_server.specs.declared.client.LentMeans.{LentMeans}
use Rattle.jk_server.specs.declared.client.Reception.{Reception}

-- the desk of a loan, as each desk is told
abbrev pub loaned : {B : Type 0} → (B → DeskState) → DeskLoan B → DeskState
loaned state loan = state_in state loan.desk

-- What a session is lent, at a moment.
pub record LentSides (B K R C Y : Type 0) : Type 0 where
  pub desk : B
  pub clock : K
  pub reach : R
  pub client : C
  pub rows : Y

abbrev pub lent : {B K R C Y : Type 0} → B → LentMeans K R C Y → LentSides B K R C Y
lent desk m = record { desk = desk; clock = m.clock.now; reach = m.reach.now; client = m.client.now; rows = m.rows.now }

-- what stands beside the desk is still the caller's own
abbrev pub AreLentStill : {K R C Y : Type 0} → LentMeans K R C Y → LentMeans K R C Y → Type 0
AreLentStill s n =
    (n.clock.ghost_name ≡ s.clock.ghost_name) × (n.reach.ghost_name ≡ s.reach.ghost_name)
    × (n.client.ghost_name ≡ s.client.ghost_name) × (n.rows.ghost_name ≡ s.rows.ghost_name)

-- how a session stands by what it is lent, with these bytes that were read and not used
abbrev pub standing_by : {B K R C Y X : Type 0} → (B → DeskState) → ClockGhosts K → Ghosts R Beside → Ghosts C X → LentSides B K R C Y → List ℕ → ClientStanding
standing_by state of_clock of_reach of_client s inbox = standing state of_clock.answers of_reach of_client s.desk s.clock s.reach s.client inbox

-- The client was served by one session, as each session serves: the rows of its requests were put, and it has their parts, joined.
-- A client's fault ended it only where its faults rose, a stray only where the desk's strays rose. The desk keeps its tickets, no
-- talk runs, and a client is left only where its reads may wait. Before each request the client was told that it is waited for, unless
-- memory was wanted before the first, and before each talk the reach how long its dial may take.
pub record ServesLent {B K R C Y X : Type 0} (state : B → DeskState) (of_clock : ClockGhosts K) (of_reach : Ghosts R Beside) (reach_heard : R → Awaited → R → Type 0)
    (of_client : Ghosts C X) (client_heard : C → Awaited → C → Type 0) (may_wait : Bool) (of_rows : RowGhosts Y) (reception : Reception) (s n : LentSides B K R C Y) (end : SessionEnd) : Type 0 where
  pub ran : Serves (visit_of reception.site) (standing_by state of_clock of_reach of_client s) (standing_by state of_clock of_reach of_client n)
      (λ gained. of_rows.gained s.rows gained n.rows) end
  pub parts : HasParts (visit_of reception.site) (standing_by state of_clock of_reach of_client s []) (standing_by state of_clock of_reach of_client n []) end
  pub each : HoldsOfEach (visit_of reception.site) end
  pub fault : RisesBy end.stop (of_client.faults s.client) (of_client.faults n.client)
  pub met : MeetsBy end.stop (state s.desk) (state n.desk)
  pub kept : KeepsTickets (visit_of reception.site).session (state s.desk) (state n.desk)
  pub ready : IsReady (visit_of reception.site) (state n.desk) (of_reach.beside n.reach)
  pub idle_only : end.stop ≡ stop.Closed why.Idle → may_wait ≡ true
  pub awaits : AwaitsClient of_client client_heard (visit_of reception.site) (standing_by state of_clock of_reach of_client s)
      (standing_by state of_clock of_reach of_client n) s.client n.client end
  pub dials : AwaitsDials of_reach reach_heard reception.site.cfg.now.lbs s.reach n.reach

-- So it is of the desk at each earlier moment whose counts these are, since which neither fell.
abbrev pub SinceCounts : {S : Type 0} → (faults : S → ℕ) → ShelfCounts → (now : SharedState S) → (SharedState S → Type 0) → Type 0
SinceCounts {S} faults counts now Is =
    (from : SharedState S) → counts.faults ≡ faults from.shelf → counts.wants ≡ from.wants → faults from.shelf ≤ faults now.shelf → from.wants ≤ now.wants
    → Is from
