use Rattle.std.proofs.Common.{drop}
use Rattle.site_config.specs.Entries.{as_properties}
use Rattle.site_workers.specs.Listings.{as_listings}
use Rattle.site_workers.specs.Checks.{Checked}
use Rattle.site_workers.specs.Tables.{AreAtRest}
use Rattle.site_workers.specs.Site.{Chained, Breaks}
use Rattle.site_workers.proofs.members.check_references.Given as goal

-- the rest of the members decides
abbrev pub invariant-loop-listing : goal.invariant-loop-listing
invariant-loop-listing l = record {
  rows_are : AreAtRest l.given l.rows.items;
  checked : Checked (Chained (as_properties l.given.entries.now)) (Breaks (as_properties l.given.entries.now)) (as_listings (drop l.listing-index l.members)) (as_listings l.members);
}
