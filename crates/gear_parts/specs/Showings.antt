-- A site that a world was shown, and the gears that it had handed out before, where they are told.
use Rattle.std.specs.Prelude.{List, Option}
use Rattle.site_reports.specs.declared.found.AcceptedSite.{AcceptedSite}

pub record Showing (G : Type 0) : Type 0 where
  pub site : AcceptedSite
  pub handed : Option (List G)
