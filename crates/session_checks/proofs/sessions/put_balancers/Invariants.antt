-- A look leaves the desk as it is.
use Rattle.std.proofs.Common.{◌≡◌}
use Rattle.session_checks.proofs.sessions.put_balancers.Given as goal

abbrev pub invariant-loop-lb : goal.invariant-loop-lb
invariant-loop-lb l = record {
  same : l.desk ≡ l.fn.desk;
  place : l.place ≡ l._lb-index;
}
