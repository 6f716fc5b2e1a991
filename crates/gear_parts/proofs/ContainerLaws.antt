-- A container's workers served at gears, told of what the gears' types tell.
use Rattle.std.proofs.Common.{ℕ, ◌≡◌, List, [], ◌∷◌, map, Option, sym, ap, subst}
use Rattle.std.specs.List.{AllZip}
use Rattle.jk_io.specs.declared.reaching.Talk.{Talk}
use Rattle.jk_io.specs.declared.traits.streams.Meanings.{Ghosts}
use Rattle.jk_io.specs.Doors.{DoorSide}
use Rattle.ajp_container.specs.Served.{AreEachServed}
use Rattle.ajp_container.specs.declared.worker_ends.ContainerWorker.{ContainerWorker}
use Rattle.ajp_container.specs.declared.app_config.AppConfig.{AppConfig}
use Rattle.gear_parts.specs.Containers.{IsContainerRun, SameButDoors}
use Rattle.gear_parts.specs.Gears.{GearSide, gear_side, KeepsRest}
use Rattle.gear_parts.specs.declared.world.Gear.{Gear}
use Rattle.gear_parts.proofs.ListLaws.{map_map}

-- the doors of gears
doors_told : {D G T K S O C : Type 0} → (at : D → DoorSide C) (talks : T → Option (List Talk)) (answers : K → Option (List ℕ)) (gears : List (Gear D G T K S O))
    → map (λ (g : Gear D G T K S O). at g.door) gears ≡ map (λ (s : GearSide C S O). s.door) (map (gear_side at talks answers) gears)
doors_told {S = S} {O = O} {C = C} at talks answers gears = sym (map_map (λ (s : GearSide C S O). s.door) (gear_side at talks answers) gears)

same_but_doors : {D G T K S O C : Type 0} → (at : D → DoorSide C) (talks : T → Option (List Talk)) (answers : K → Option (List ℕ)) (gears back : List (Gear D G T K S O))
    → AllZip KeepsRest gears back → SameButDoors (map (gear_side at talks answers) gears) (map (gear_side at talks answers) back)
same_but_doors at talks answers [] [] kept = tt
same_but_doors at talks answers [] (b ∷ back) kept = absurd kept
same_but_doors at talks answers (g ∷ gears) [] kept = absurd kept
same_but_doors at talks answers (g ∷ gears) (b ∷ back) kept =
    (ap (gear_side at talks answers) kept.0, same_but_doors at talks answers gears back kept.1)

-- Each gear's door was served, and the rest of each stands.
pub container_ran : {D G T K S O C X : Type 0} → (app : AppConfig) (told : Ghosts C X) (at : D → DoorSide C) (talks : T → Option (List Talk)) (answers : K → Option (List ℕ))
    (gears back : List (Gear D G T K S O)) (ends : List ContainerWorker)
    → AreEachServed app told (map (λ (g : Gear D G T K S O). at g.door) gears) (map (λ (g : Gear D G T K S O). at g.door) back) ends
    → AllZip KeepsRest gears back
    → IsContainerRun app told (map (gear_side at talks answers) gears) (map (gear_side at talks answers) back) ends
container_ran {D} {G} {T} {K} {S} {O} {C} app told at talks answers gears back ends served kept = record {
  served =
      subst (λ (ds : List (DoorSide C)). AreEachServed app told (map (λ (s : GearSide C S O). s.door) (map (gear_side at talks answers) gears)) ds ends)
      (doors_told at talks answers back)
      (subst (λ (ds : List (DoorSide C)). AreEachServed app told ds (map (λ (g : Gear D G T K S O). at g.door) back) ends)
      (doors_told at talks answers gears) served);
  same = same_but_doors at talks answers gears back kept;
}
