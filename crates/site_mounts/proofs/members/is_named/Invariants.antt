use Rattle.std.proofs.Common.{◌≡◌, drop, map}
use Rattle.site_mounts.specs.Members.{is_named}
use Rattle.site_mounts.proofs.members.is_named.Given as goal

-- the names that are left decide
abbrev pub invariant-loop-name : goal.invariant-loop-name
invariant-loop-name l = is_named (map (λ n. n.now) (drop l.name-index l.names)) l.member ≡ is_named (map (λ n. n.now) l.names) l.member
