-- The balancers before this one were looked at.
use Rattle.std.proofs.Common.{◌≡◌, take}
use Rattle.status_worker.specs.Pages.{AreSeen}
use Rattle.status_worker.proofs.pages.all_parts.Given as goal

abbrev pub invariant-loop-lb : goal.invariant-loop-lb
invariant-loop-lb g l = record {
  seen : AreSeen (g.B.Desk.state l.fn.desk) 0 (take l.lb-index l.lb-items) l.parts;
  place : l.place ≡ l.lb-index;
  same : g.B.Desk.state l.desk ≡ g.B.Desk.state l.fn.desk;
}
