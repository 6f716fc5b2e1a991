use Rattle.std.proofs.Common.{drop}
use Rattle.site_config.specs.Entries.{as_properties}
use Rattle.site_workers.specs.Listings.{as_listings}
use Rattle.site_workers.specs.Checks.{Checked}
use Rattle.site_workers.specs.Site.{Known, IsUnknown}
use Rattle.site_workers.proofs.members.check_members_known.Given as goal

-- the rest of the members decides
abbrev pub invariant-loop-listing : goal.invariant-loop-listing
invariant-loop-listing l = record {
  checked : Checked (Known (as_properties l.given.entries.now)) (IsUnknown (as_properties l.given.entries.now)) (as_listings (drop l.listing-index l.members)) (as_listings l.members);
}
