-- A loop over the listed workers, as far as it has come: what is left decides the whole.
use Rattle.std.specs.Prelude.{ℕ, List}
use Rattle.site_config.specs.declared.property.Property.{Property}
use Rattle.site_workers.specs.declared.draft.Draft.{Draft}
use Rattle.site_workers.specs.Lists.{Listing}
use Rattle.site_config.specs.declared.error.PropsRefusal.{PropsRefusal}
use Rattle.site_workers.specs.Site.{Builds, StopsAtListing}

pub record IsBuilding (ps : List Property) (maintain : ℕ) (all : List Listing) (start : Draft) (rest : List Listing) (now : Draft) : Type 0 where
  pub builds : (new : Draft) → Builds ps maintain rest now new → Builds ps maintain all start new
  pub stops : (r : PropsRefusal) → StopsAtListing ps maintain rest now r → StopsAtListing ps maintain all start r
