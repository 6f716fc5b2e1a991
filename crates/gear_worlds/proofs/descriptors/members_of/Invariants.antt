use Rattle.std.proofs.Common.{◌≡◌, ◌*◌, ◌≤◌, length, take}
use Rattle.std.specs.List.{sum_by}
use Rattle.gear_worlds.proofs.descriptors.members_of.Given as goal

-- the members of the balancers so far, of which each has 64 at most
abbrev pub invariant-loop-lb : goal.invariant-loop-lb
invariant-loop-lb l = record {
  so_far : l.members ≡ sum_by (λ lb. length lb.ends) (take l.lb-index l.lb-items);
  few : l.members ≤ 64 * l.lb-index;
}
