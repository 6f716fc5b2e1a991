use Rattle.std.proofs.Common.{◌≡◌, ◌++◌, ℕ, List, map, take, Bor}
use Rattle.site_workers.specs.Lists.{listing_at}
use Rattle.site_workers.specs.Listings.{as_listings}
use Rattle.site_workers.proofs.listing.push_listings.Given as goal

-- the words so far, with the line
abbrev pub invariant-loop-word : goal.invariant-loop-word
invariant-loop-word l = as_listings l.out ≡ as_listings l.fn.out ++ map (λ (w : Bor (List ℕ)). listing_at l.entry.line w.now) (take l.word-index l.word-items)
