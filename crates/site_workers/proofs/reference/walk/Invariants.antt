use Rattle.std.proofs.Common.{ℕ, List, map, reverse, Bor}
use Rattle.site_config.specs.Entries.{as_properties}
use Rattle.site_workers.specs.Ways.{IsAt, fresh_in}
use Rattle.site_workers.proofs.reference.walk.Given as goal

-- the walk stands at a worker, past those of the path
abbrev pub invariant-loop-at : goal.invariant-loop-at
invariant-loop-at l = IsAt (as_properties l.given.entries.now) l.start l.given.names.now l.rows.items (reverse (map (λ (n : Bor (List ℕ)). n.now) l.path.items)) l.at

abbrev pub decreases-loop-at : goal.decreases-loop-at
decreases-loop-at l = fresh_in l.rows.items
