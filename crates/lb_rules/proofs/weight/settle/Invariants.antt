use Rattle.std.proofs.Common.{◌≡◌, ◌++◌, map, take, drop}
use Rattle.lb_rules.specs.Kept.{settled}
use Rattle.lb_rules.proofs.weight.settle.Given as goal

-- the weights so far are up to date, the others are as they were
abbrev pub invariant-loop-one : goal.invariant-loop-one
invariant-loop-one l =
    l.kept ≡ map (settled l.halvings) (take l.one-index l.initial.kept) ++ drop l.one-index l.initial.kept
