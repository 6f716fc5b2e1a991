-- Requests were served, and the next one is to be read; at most 1,000 are.
use Rattle.std.proofs.Common.{◌≡◌, ◌<◌, ◌-◌, []}
use Rattle.lb_book.specs.Desks.{MeetsNone}
use Rattle.client_session.specs.Awaits.{DialsInTime}
use Rattle.client_session.specs.Keeping.{KeepsAround}
use Rattle.client_session.specs.Requests.{visit_of}
use Rattle.client_session.specs.Surroundings.{PutIn, standing_of, standing_with}
use Rattle.client_session.proofs.AwaitLaws.{HaveBeenAwaited}
use Rattle.client_session.proofs.SessionLaws.{IsUnderWay}
use Rattle.client_session.proofs.serving.serve_session.Given as goal

abbrev pub invariant-loop-number : goal.invariant-loop-number
invariant-loop-number g l = record {
  way : IsUnderWay (visit_of l.site) l.number
      (standing_with g.B.Desk.state g.K.Clock.answers g.R.Meanings g.C.Meanings l.fn.around [])
      (standing_of g.B.Desk.state g.K.Clock.answers g.R.Meanings g.C.Meanings l.around)
      (PutIn g.W.RowSink.gained l.fn.rows l.rows);
  few : l.number < 1000;
  met : MeetsNone (g.B.Desk.state l.fn.around.desk.now) (g.B.Desk.state l.around.desk.now);
  calm : g.C.Meanings.faults l.around.client.now ≡ g.C.Meanings.faults l.fn.around.client.now;
  awaits : HaveBeenAwaited g.C.Meanings g.C.Link.heard (visit_of l.site) l.number
      (standing_with g.B.Desk.state g.K.Clock.answers g.R.Meanings g.C.Meanings l.fn.around [])
      (standing_of g.B.Desk.state g.K.Clock.answers g.R.Meanings g.C.Meanings l.around);
  dials : DialsInTime g.R.Meanings g.R.Link.heard l.site l.fn.around l.around;
  kept : KeepsAround g.B.Desk.state g.R.Meanings g.C.Meanings (visit_of l.site) l.fn.around l.around;
}

abbrev pub decreases-loop-number : goal.decreases-loop-number
decreases-loop-number g l = 1000 - l.number
