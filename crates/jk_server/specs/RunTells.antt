-- The parts of gears by what their types tell: door, talks, clock, client's link, shelf and log.
use Rattle.std.specs.Prelude.{ℕ, Bool, List, map, Option}
use Rattle.conn_pool.specs.declared.tape.Tape.{Ghosts as TapeGhosts}
use Rattle.jk_io.specs.declared.reaching.Talk.{Talk}
use Rattle.jk_io.specs.declared.traits.streams.Meanings.{Ghosts}
use Rattle.jk_io.specs.declared.traits.surroundings.Clock.{Ghosts as ClockGhosts}
use Rattle.jk_io.specs.declared.traits.surroundings.Door.{Ghosts as DoorGhosts}
use Rattle.lb_model.specs.declared.segment.Segment.{Segment}
use Rattle.jk_io.specs.Doors.{DoorSide, side}
use Rattle.lb_shared.specs.declared.shelf.Shelf.{Ghosts as ShelfGhosts}
use Rattle.request_log.specs.LogStates.{LogState}
use Rattle.gear_parts.specs.GearLogs.{broken_by, LogGains, GreetsIf, log_faults}
use Rattle.gear_parts.specs.Gears.{gear_side, GearSide}
use Rattle.gear_parts.specs.Logs.{log_tells}
use Rattle.gear_parts.specs.declared.world.Gear.{Gear}
use Rattle.jk_server.specs.Worker.{WorkerTells, keeps}

-- The tellings of a door, a tape, a clock and a client's link, and of a shelf and a log.
pub record RunTells (D T K S O C X : Type 0) : Type 1 where
  pub door : D → DoorSide C
  pub talks : T → Option (List Talk)
  pub answers : K → Option (List ℕ)
  pub link : Ghosts C X
  pub shelved : S → Option (List (ℕ × Segment))
  pub keeps : WorkerTells S (Option (LogState O))

-- what is told of a shelf, and of logs that are written to this: `logging S.shelved S.faults O.Meanings D.L.may_wait`
abbrev pub logging : {S O Z : Type 0} → (S → Option (List (ℕ × Segment))) → (S → ℕ) → Ghosts O Z → Bool → WorkerTells S (Option (LogState O))
logging shelved faults told may_wait = keeps shelved faults (log_tells (LogGains told) (λ s peer t. GreetsIf s peer t) (λ s. broken_by s) (λ s. log_faults told.faults s)) may_wait

-- what they tell, by their types: `run_tells D.Door T.Tape K.Clock D.L.Meanings S.Shelf O.Meanings D.L.may_wait`
abbrev pub run_tells : {D T K S O C X Z : Type 0} → DoorGhosts D C X → TapeGhosts T → ClockGhosts K → Ghosts C X → ShelfGhosts S → Ghosts O Z → Bool → RunTells D T K S O C X
run_tells of_door of_tape of_clock of_link of_shelf of_log may_wait = record {
  door = side of_door.coming of_door.left of_door.faults;
  talks = of_tape.talks;
  answers = of_clock.answers;
  link = of_link;
  shelved = of_shelf.shelved;
  keeps = logging of_shelf.shelved of_shelf.faults of_log may_wait;
}

-- gears at a moment, in order
abbrev pub gears_at : {D G T K S O C X : Type 0} → RunTells D T K S O C X → List (Gear D G T K S O) → List (GearSide C S O)
gears_at told gears = map (gear_side told.door told.talks told.answers) gears
