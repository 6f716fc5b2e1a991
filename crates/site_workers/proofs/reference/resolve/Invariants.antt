use Rattle.std.proofs.Common.{ℕ, List, map, reverse, Bor, vec_len}
use Rattle.site_config.specs.Entries.{as_properties}
use Rattle.site_workers.specs.Ways.{IsWay}
use Rattle.site_workers.proofs.reference.resolve.Given as goal

-- what is left of the way back
abbrev pub invariant-loop-name : goal.invariant-loop-name
invariant-loop-name l = IsWay (as_properties l.given.entries.now) l.start l.given.names.now l.rows.items (reverse (map (λ (n : Bor (List ℕ)). n.now) l.path.items))

abbrev pub decreases-loop-name : goal.decreases-loop-name
decreases-loop-name l = vec_len l.path
