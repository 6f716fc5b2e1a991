-- The sessions so far left the desk and the reach as they have to be, and their rows came to the count.
use Rattle.std.proofs.Common.{◌≡◌, length}
use Rattle.client_session.specs.Ready.{IsReady}
use Rattle.status_worker.specs.Desks.{KeepsTickets}
use Rattle.drill.specs.Counts.{visit_at}
use Rattle.drill.proofs.CountLaws.{AreSoFar}
use Rattle.drill.proofs.thread.serve_requests.Given as goal

abbrev pub invariant-sessions : goal.invariant-sessions
invariant-sessions g l = record {
  kept : KeepsTickets l.post.number (g.B.Desk.state l.fn.desk) (g.B.Desk.state l.desk);
  ready : IsReady (visit_at l.post) (g.B.Desk.state l.desk) (g.R.Meanings.beside l.reach);
  seed : l.requests.seed ≡ l.fn.requests.seed;
  counted : AreSoFar (visit_at l.post) l.fn.requests.seed l.fn.requests.left l.requests.left (g.B.Desk.state l.fn.desk).receipts (g.B.Desk.state l.desk).receipts
      l.fn.bodies.bytes l.bodies.bytes;
}

abbrev pub decreases-sessions : goal.decreases-sessions
decreases-sessions g l = length l.requests.left
