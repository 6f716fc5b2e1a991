use Rattle.std.proofs.Common.{◌≡◌, take}
use Rattle.lb_model.specs.Ranges.{factors_in}
use Rattle.lb_model.proofs.config.put_factors.Given as goal

abbrev pub invariant-loop-i : goal.invariant-loop-i
invariant-loop-i l = take l.i l.table ≡ factors_in (take l.i l.members)
