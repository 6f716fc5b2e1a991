-- A line whose key gives a worker a directive has an effect where that is built.
use Rattle.std.proofs.Common.{◌≡◌, ℕ, List, Option, refl}
use Rattle.std.specs.Option.{is_some}
use Rattle.site_config.specs.declared.directive.Directive.{Directive}
use Rattle.site_config.specs.Subjects.{GivesWorker}
use Rattle.site_workers.specs.Site.{is_built}

pub built_given : (key name : List ℕ) (d : Option Directive) → GivesWorker key name d → is_some d ≡ is_built key
built_given key name d h = rw (h.1, h.2) refl
