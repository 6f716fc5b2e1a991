use Rattle.lb_rules.specs.Least.{IsLeastOf}
use Rattle.lb_rules.proofs.least.least.Given as goal

abbrev pub invariant-loop-i : goal.invariant-loop-i
invariant-loop-i l = IsLeastOf l.among l.rows l.ask l.begin l.i l.best
