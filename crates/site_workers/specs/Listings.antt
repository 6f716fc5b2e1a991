-- Names of lists as they stand in the text.
use Rattle.std.specs.Prelude.{List, map}
use Rattle.site_workers.specs.declared.listing.Listing as declared
use Rattle.site_workers.specs.Lists.{Listing}

abbrev pub as_listing : declared.Listing → Listing
as_listing l = record { name = l.name.now; line = l.line }

abbrev pub as_listings : List declared.Listing → List Listing
as_listings ls = map as_listing ls
