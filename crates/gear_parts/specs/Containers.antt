-- A run of a container's workers: the links of each gear's door were served, and the rest of the gear stands.
use Rattle.std.specs.Prelude.{◌≡◌, List, [], ◌∷◌, map}
use Rattle.jk_io.specs.declared.traits.streams.Meanings.{Ghosts}
use Rattle.ajp_container.specs.Served.{AreEachServed}
use Rattle.ajp_container.specs.declared.worker_ends.ContainerWorker.{ContainerWorker}
use Rattle.ajp_container.specs.declared.app_config.AppConfig.{AppConfig}
use Rattle.gear_parts.specs.Gears.{GearSide}

-- A container's worker uses its gear's door alone.
abbrev pub SameButDoors : {C S O : Type 0} → (before back : List (GearSide C S O)) → Type 0
SameButDoors [] [] = Unit {0}
SameButDoors (b ∷ before) (a ∷ back) = (a ≡ record b { door = a.door }) × SameButDoors before back
SameButDoors before back = ⊥

-- Each worker served the links of its gear's door, and how it ended.
pub record IsContainerRun {C S O X : Type 0} (app : AppConfig) (told : Ghosts C X) (before back : List (GearSide C S O)) (ends : List ContainerWorker) : Type 0 where
  pub served : AreEachServed app told (map (λ g. g.door) before) (map (λ g. g.door) back) ends
  pub same : SameButDoors before back
