use Rattle.std.proofs.Common.{◌≡◌, take}
use Rattle.site_workers.specs.Lists.{joined, is_list_line}
use Rattle.site_workers.specs.Listings.{as_listings}
use Rattle.site_config.specs.Entries.{as_properties}
use Rattle.site_workers.proofs.listing.site_list.Given as goal

-- the names of the lines so far
abbrev pub invariant-loop-entry : goal.invariant-loop-entry
invariant-loop-entry l = as_listings l.out ≡ joined is_list_line (as_properties (take l.entry-index l.entries))
