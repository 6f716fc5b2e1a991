-- A loop that checks a list, as far as it has come: what is left decides the whole.
use Rattle.std.specs.Prelude.{List}
use Rattle.site_workers.specs.Lists.{Listing}
use Rattle.site_config.specs.declared.error.PropsRefusal.{PropsRefusal}
use Rattle.site_workers.specs.Site.{Each, FirstBad}

pub record Checked (fine : Listing → Type 0) (bad : Listing → PropsRefusal → Type 0) (rest all : List Listing) : Type 0 where
  pub each : Each fine rest → Each fine all
  pub first : (r : PropsRefusal) → FirstBad fine bad rest r → FirstBad fine bad all r
