use Rattle.std.proofs.Common.{ℕ, List, map, take, Bor}
use Rattle.site_config.specs.Entries.{as_properties}
use Rattle.site_workers.specs.Listings.{as_listings}
use Rattle.site_workers.specs.Built.{AreBuilt}
use Rattle.site_workers.proofs.members.built.Given as goal

-- the members so far
abbrev pub invariant-loop-i : goal.invariant-loop-i
invariant-loop-i l = AreBuilt (as_properties l.entries) (map (λ (r : Bor (List ℕ)). r.now) l.routes) 0 (as_listings (take l.i l.members)) (take l.i l.rows) l.configs.items l.ends.items
