-- Gears taken from a world for the workers of a run, and last segments added to shelves.
use Rattle.std.specs.Prelude.{◌≡◌, ℕ, List, [], ◌∷◌, IsOk, Option, Result}
use Rattle.std.specs.List.{All}
use Rattle.std.specs.Option.{option_copied}
use Rattle.jk_io.specs.Told.{HasCause, appended}
use Rattle.jk_io.specs.declared.failures.IoError.{IoError}
use Rattle.lb_model.specs.Legal.{IsLegal}
use Rattle.lb_model.specs.declared.segment.Segment.{Segment}
use Rattle.lb_book.specs.Journal.{IsSegmentOf, Journal}
use Rattle.conn_pool.specs.declared.tape.Tape.{Ghosts as TapeGhosts}
use Rattle.jk_io.specs.declared.traits.surroundings.Clock.{Ghosts as ClockGhosts}
use Rattle.jk_io.specs.declared.traits.surroundings.Door.{Ghosts as DoorGhosts}
use Rattle.site_config.specs.declared.config.Config.{Config}
use Rattle.gear_parts.specs.Wants.{AreSuited, GearWants, wants_of}
use Rattle.gear_parts.specs.Worlds.{gear_tells, GearTells, HandsAndTakes, IsMade, HandsOutGear, world_side, WorldSide}
use Rattle.gear_parts.specs.declared.order.GearOrder.{GearOrder}
use Rattle.gear_parts.specs.declared.world.World.{Ghosts as WorldGhosts}
use Rattle.gear_parts.specs.declared.world.Gear.{Gear}

-- The world handed out these gears, each just made, its tape idle and as it is wanted, and none came back.
pub record AreTaken {D G T K S O C : Type 0} (tells : GearTells D G T K S O C) (wanted : GearWants) (cfg : Option Config) (before after : WorldSide (Gear D G T K S O)) (gears : List (Gear D G T K S O)) : Type 0 where
  pub passed : HandsAndTakes before after gears []
  pub made : All (λ g. IsMade wanted.clients (tells.told g)) gears
  pub idle : All (λ g. tells.is_idle g.tape) gears
  pub suited : AreSuited (λ number. tells.suits number wanted cfg) 0 gears

-- `HandsOutGear` for the gear of worker `number`, by what the types of the world and its parts tell.
abbrev pub TakesGear : {W D G T K S O C X E Y Z V : Type 0} → WorldGhosts W D G T K S O C X E Y Z V → DoorGhosts D C X → TapeGhosts T → ClockGhosts K → ℕ → GearOrder → (before after : W) → (gears more : List (Gear D G T K S O)) → Type 0
TakesGear of_world of_door of_tape of_clock number asked before after gears more =
    HandsOutGear (gear_tells of_world of_door of_tape of_clock) number (wants_of asked) (option_copied asked.cfg) (world_side of_world before) (world_side of_world after) gears more

-- `AreTaken` for the gears, by what the types tell.
abbrev pub TakesGears : {W D G T K S O C X E Y Z V : Type 0} → WorldGhosts W D G T K S O C X E Y Z V → DoorGhosts D C X → TapeGhosts T → ClockGhosts K → GearOrder → (before after : W) → List (Gear D G T K S O) → Type 0
TakesGears of_world of_door of_tape of_clock asked before after gears =
    AreTaken (gear_tells of_world of_door of_tape of_clock) (wants_of asked) (option_copied asked.cfg) (world_side of_world before) (world_side of_world after) gears

-- The last segment of a Book was added to a shelf, as that of balancer lb.
pub record AddsCut {S : Type 0} (shelved : S → Option (List (ℕ × Segment))) (lb : ℕ) (book : Journal) (old new : S) : Type 0 where
  pub segment : Segment
  pub whole : IsSegmentOf book segment
  pub legal : IsLegal segment.rules segment.opening segment.entries
  pub added : shelved new ≡ appended (shelved old) ((lb, segment) ∷ [])

-- The count of failures rose where the call failed, and in no call that was done.
pub record CountsFailure {T : Type 0} (before now : ℕ) (done : Result T IoError) : Type 0 where
  pub cause : HasCause before now done
  pub steady : IsOk done → now ≡ before
