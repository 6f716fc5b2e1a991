use Rattle.std.proofs.Common.{◌≡◌, ℕ, List, map, take, Bor}
use Rattle.site_config.specs.Entries.{as_properties}
use Rattle.site_workers.specs.Listings.{as_listings}
use Rattle.site_workers.specs.Built.{routes_at}
use Rattle.site_workers.proofs.members.routes_of.Given as goal

-- the routes of the members so far
abbrev pub invariant-loop-i : goal.invariant-loop-i
invariant-loop-i l = map (λ (r : Bor (List ℕ)). r.now) l.out.items ≡ routes_at (as_properties l.entries) (as_listings (take l.i l.members)) (take l.i l.rows)
