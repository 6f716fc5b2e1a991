use Rattle.std.proofs.Common.{◌≡◌, map, take}
use Rattle.gear_worlds.proofs.opening.names_of.Given as goal

-- the names so far
abbrev pub invariant-loop-lb : goal.invariant-loop-lb
invariant-loop-lb l = l.names ≡ map (λ lb. lb.name) (take l.lb-index l.lbs)
