use Rattle.std.proofs.Common.{◌≡◌, ℕ, List, take}
use Rattle.std.specs.Option.{is_some}
use Rattle.site_workers.specs.Lists.{firsts, is_named}
use Rattle.site_workers.specs.Listings.{as_listings}
use Rattle.site_workers.specs.Numbers.{number_of}
use Rattle.site_workers.proofs.firsts.firsts.Given as goal

-- the first places of the names so far, and those names
abbrev pub invariant-loop-listing : goal.invariant-loop-listing
invariant-loop-listing l = record {
  so_far : as_listings l.out.items ≡ firsts (as_listings (take l.listing-index l.listings));
  seen_are : (name : List ℕ) → is_some (number_of name l.seen) ≡ is_named name (as_listings (take l.listing-index l.listings));
}
