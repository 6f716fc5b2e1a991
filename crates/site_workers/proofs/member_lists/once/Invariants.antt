use Rattle.std.proofs.Common.{◌≡◌, List, map, take}
use Rattle.site_workers.specs.declared.listing.Listing as declared
use Rattle.site_workers.specs.Lists.{firsts}
use Rattle.site_workers.specs.Listings.{as_listings}
use Rattle.site_workers.proofs.member_lists.once.Given as goal

-- the lists so far
abbrev pub invariant-loop-list : goal.invariant-loop-list
invariant-loop-list l = map as_listings l.out.items ≡ map (λ (ls : List declared.Listing). firsts (as_listings ls)) (take l.list-index l.lists)
