use Rattle.std.proofs.Common.{drop}
use Rattle.site_workers.specs.Building.{IsBuilding}
use Rattle.site_config.specs.Entries.{as_properties}
use Rattle.site_workers.specs.Listings.{as_listings}
use Rattle.site_workers.specs.Site.{no_workers}
use Rattle.site_workers.specs.Tables.{AreAtRest}
use Rattle.site_workers.proofs.workers.add_workers.Given as goal

-- the rest of the listed workers decides
abbrev pub invariant-loop-listing : goal.invariant-loop-listing
invariant-loop-listing l = record {
  rows_are : AreAtRest l.given l.rows.items;
  building : IsBuilding (as_properties l.given.entries.now) l.given.maintain (as_listings l.listings) no_workers (as_listings (drop l.listing-index l.listings)) l.draft;
}
