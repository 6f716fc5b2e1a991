use Rattle.std.proofs.Common.{◌≡◌, get_or}
use Rattle.lb_model.specs.Loads.{greatest, halved}
use Rattle.lb_rules.specs.declared.standing.Standing.{Standing}
use Rattle.lb_book.proofs.maintenance.greatest_halved.Given as goal

abbrev pub invariant-loop-i : goal.invariant-loop-i
invariant-loop-i l = (d : Standing) → l.most ≡ greatest l.i (λ j. halved (get_or l.rows j d).load l.times)
