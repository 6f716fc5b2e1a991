use Rattle.std.proofs.Common.{take}
use Rattle.site_config.specs.Entries.{as_properties}
use Rattle.site_workers.specs.Listings.{as_listings}
use Rattle.site_workers.specs.Built.{HaveForce}
use Rattle.site_workers.specs.Tables.{AreAtRest}
use Rattle.site_workers.proofs.members.rows_of.Given as goal

-- the rows of the members so far
abbrev pub invariant-loop-listing : goal.invariant-loop-listing
invariant-loop-listing l = record {
  rows_are : AreAtRest l.given l.rows.items;
  force : HaveForce (as_properties l.given.entries.now) (as_listings (take l.listing-index l.members)) l.out.items;
}
