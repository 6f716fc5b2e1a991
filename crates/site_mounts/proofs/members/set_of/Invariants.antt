use Rattle.std.proofs.Common.{◌≡◌, ◌≤◌, drop, take, length, map}
use Rattle.site_mounts.specs.Members.{set_of}
use Rattle.site_mounts.proofs.members.set_of.Given as goal

-- the set of the members after those that are left
abbrev pub invariant-loop-left : goal.invariant-loop-left
invariant-loop-left l = record {
  within : length l.left ≤ length l.members;
  left : l.left ≡ take (length l.left) l.members;
  set : l.set ≡ set_of (drop (length l.left) l.members) (map (λ n. n.now) l.names);
}

abbrev pub decreases-loop-left : goal.decreases-loop-left
decreases-loop-left l = length l.left
