use Rattle.std.proofs.Common.{◌≡◌, drop, map}
use Rattle.site_mounts.specs.Members.{are_members}
use Rattle.site_mounts.proofs.members.are_members.Given as goal

-- the names that are left decide
abbrev pub invariant-loop-name : goal.invariant-loop-name
invariant-loop-name l = are_members l.members (map (λ n. n.now) (drop l.name-index l.names)) ≡ are_members l.members (map (λ n. n.now) l.names)
