use Rattle.lb_rules.specs.Kept.{weights_now}
use Rattle.lb_rules.specs.Weights.{IsLightest}
use Rattle.lb_rules.specs.declared.weight.Weight.{Weight}
use Rattle.lb_rules.proofs.index.lightest.Given as goal

abbrev pub invariant-loop-i : goal.invariant-loop-i
invariant-loop-i l = (d : Weight) → IsLightest (weights_now l.halvings l.kept) d l.set l.begin l.i l.best
