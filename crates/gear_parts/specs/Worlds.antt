-- A world at a moment, and the gears that a command takes of it and gives back.
use Rattle.std.specs.Prelude.{◌≡◌, ℕ, Bool, ◌+◌, ◌<◌, ◌≤◌, List, [], ◌∷◌, ◌++◌, length, Option, Some, None, IfSome}
use Rattle.jk_io.specs.Doors.{side}
use Rattle.jk_io.specs.Told.{appended, IsEmpty}
use Rattle.jk_io.specs.declared.traits.streams.Meanings.{Ghosts}
use Rattle.jk_io.specs.declared.traits.surroundings.Clock.{Ghosts as ClockGhosts}
use Rattle.jk_io.specs.declared.traits.surroundings.Door.{Ghosts as DoorGhosts}
use Rattle.site_config.specs.declared.config.Config.{Config}
use Rattle.site_reports.specs.declared.found.AcceptedSite.{AcceptedSite}
use Rattle.lb_model.specs.declared.segment.Segment.{Segment}
use Rattle.conn_pool.specs.declared.tape.Tape.{Ghosts as TapeGhosts}
use Rattle.lb_shared.specs.declared.shelf.Shelf.{Ghosts as ShelfGhosts}
use Rattle.gear_parts.specs.Gears.{AreGiven, gear_side, GearSide, KeepsRest}
use Rattle.gear_parts.specs.Showings.{Showing}
use Rattle.gear_parts.specs.Wants.{GearWants}
use Rattle.gear_parts.specs.declared.world.Gear.{Gear}
use Rattle.gear_parts.specs.declared.world.World.{Ghosts as WorldGhosts}

-- The gears that it handed out and those that came back, each as it was then, how many are out, the sites that it was shown, each
-- with the gears that were handed out before, and how often it failed.
pub record WorldSide (G : Type 0) : Type 0 where
  pub handed : Option (List G)
  pub back : Option (List G)
  pub out : ℕ
  pub shown : Option (List (Showing G))
  pub faults : ℕ

-- a world at a moment, by what its type tells: `world_side W.World world`
abbrev pub world_side : {W D G T K S O C X E Y Z V : Type 0} → WorldGhosts W D G T K S O C X E Y Z V → W → WorldSide (Gear D G T K S O)
world_side of_world world = record {
  handed = of_world.handed world;
  back = of_world.came_back world;
  out = of_world.out world;
  shown = of_world.shown world;
  faults = of_world.faults world;
}

-- a world after it was shown this site, when the gears were handed out that were before
abbrev pub shown_to : {G : Type 0} → WorldSide G → AcceptedSite → WorldSide G
shown_to s site = record { handed = s.handed; back = s.back; out = s.out; shown = appended s.shown (record { site = site; handed = s.handed } ∷ []); faults = s.faults }

-- a gear at a moment, by what its types tell: `gear_told W.D.Door W.T.Tape W.K.Clock gear`
abbrev pub gear_told : {D G T K S O C X : Type 0} → DoorGhosts D C X → TapeGhosts T → ClockGhosts K → Gear D G T K S O → GearSide C S O
gear_told of_door of_tape of_clock = gear_side (side of_door.coming of_door.left of_door.faults) of_tape.talks of_clock.answers

-- The tellings of a world and its parts: the world at a moment, a gear, a client's link, a shelf with its faults, and what a log is
-- written to; whether a read of a client may wait; whether gears were given the logs of a directory; whether a gear has all that
-- it had before but for its door, and whether it is what a worker wants.
pub record Tells (W G C S O X Z : Type 0) : Type 1 where
  pub world : W → WorldSide G
  pub gear : G → GearSide C S O
  pub link : Ghosts C X
  pub shelved : S → Option (List (ℕ × Segment))
  pub shelf_faults : S → ℕ
  pub log : Ghosts O Z
  pub may_wait : Bool
  pub are_given : Option (List ℕ) → List G → List G → Type 0
  pub keeps_rest : G → G → Type 0
  pub suits : ℕ → GearWants → Option Config → G → Type 0

-- what they tell, by their types; of a world W it is `⟦<W as ToldWorld>⟧.told` in a clause
abbrev pub tells : {W D G T K S O C X E Y Z V : Type 0} → WorldGhosts W D G T K S O C X E Y Z V → DoorGhosts D C X → TapeGhosts T → ClockGhosts K → Ghosts C X → ShelfGhosts S → Ghosts O V → Bool → Tells W (Gear D G T K S O) C S O X V
tells of_world of_door of_tape of_clock of_link of_shelf of_log may_wait = record {
  world = world_side of_world;
  gear = gear_told of_door of_tape of_clock;
  link = of_link;
  shelved = of_shelf.shelved;
  shelf_faults = of_shelf.faults;
  log = of_log;
  may_wait = may_wait;
  are_given = λ dir before after. AreGiven of_world.is_log dir before after;
  keeps_rest = λ before after. KeepsRest before after;
  suits = of_world.suits;
}

-- The world handed out these gears and took those back, each list in order.
pub record HandsAndTakes {G : Type 0} (before after : WorldSide G) (gears back : List G) : Type 0 where
  pub handed : after.handed ≡ appended before.handed gears
  pub came_back : after.back ≡ appended before.back back
  pub counted : after.out + length back ≡ before.out + length gears
  pub no_fewer : before.faults ≤ after.faults

-- A gear that was just made: its door has at most this many clients to come, where that is given; no link was left there, and
-- no talk was noted.
pub record IsMade {C S O : Type 0} (clients : Option ℕ) (gear : GearSide C S O) : Type 0 where
  pub few : IfSome clients (λ most. IfSome gear.door.coming (λ coming. length coming ≤ most))
  pub none_left : IsEmpty gear.door.left
  pub no_talk : IsEmpty gear.talks

-- One of this many gears was refused: those that were handed out before it came back as they were.
pub record RefusesGear {G : Type 0} (threads : ℕ) (before after : WorldSide G) : Type 0 where
  pub gears : List G
  pub passed : HandsAndTakes before after gears gears
  pub fewer : length gears < threads

-- The tellings of a world on its gears: a gear at a moment, whether its tape is idle, and whether it is what a worker wants.
pub record GearTells (D G T K S O C : Type 0) : Type 1 where
  pub told : Gear D G T K S O → GearSide C S O
  pub is_idle : T → Type 0
  pub suits : ℕ → GearWants → Option Config → Gear D G T K S O → Type 0

-- what the types of a world and its parts tell of its gears
abbrev pub gear_tells : {W D G T K S O C X E Y Z V : Type 0} → WorldGhosts W D G T K S O C X E Y Z V → DoorGhosts D C X → TapeGhosts T → ClockGhosts K → GearTells D G T K S O C
gear_tells of_world of_door of_tape of_clock = record {
  told = gear_told of_door of_tape of_clock;
  is_idle = of_tape.is_idle;
  suits = of_world.suits;
}

-- The world handed out one more gear, just made, its tape idle and as it is wanted, which was put after the others.
pub record HandsOutGear {D G T K S O C : Type 0} (tells : GearTells D G T K S O C) (number : ℕ) (wanted : GearWants) (cfg : Option Config) (before after : WorldSide (Gear D G T K S O)) (gears more : List (Gear D G T K S O)) : Type 0 where
  pub gear : Gear D G T K S O
  pub added : more ≡ gears ++ gear ∷ []
  pub handed : after.handed ≡ appended before.handed (gear ∷ [])
  pub came_back : after.back ≡ before.back
  pub counted : after.out ≡ before.out + 1
  pub no_fewer : before.faults ≤ after.faults
  pub made : IsMade wanted.clients (tells.told gear)
  pub idle : tells.is_idle gear.tape
  pub suited : tells.suits number wanted cfg gear

-- The world handed out none, and nothing else of it changed but its faults.
pub record HandsNone {G : Type 0} (before after : WorldSide G) : Type 0 where
  pub handed : after.handed ≡ before.handed
  pub came_back : after.back ≡ before.back
  pub counted : after.out ≡ before.out
  pub no_fewer : before.faults ≤ after.faults
