-- A part by what its types tell, and its worker at a moment.
use Rattle.std.specs.Prelude.{ℕ, Bool, List, Option}
use Rattle.jk_io.specs.Looks.{LookTimes}
use Rattle.jk_io.specs.declared.reaching.Beside.{Beside}
use Rattle.jk_io.specs.declared.traits.streams.Awaited.{Awaited}
use Rattle.jk_io.specs.declared.traits.streams.Meanings.{Ghosts}
use Rattle.jk_io.specs.declared.traits.surroundings.Clock.{Ghosts as ClockGhosts}
use Rattle.jk_io.specs.declared.traits.surroundings.Door.{Ghosts as DoorGhosts}
use Rattle.jk_io.specs.declared.traits.surroundings.Peer.{Peer}
use Rattle.lb_shared.specs.declared.shelf.Shelf.{Ghosts as ShelfGhosts}
use Rattle.client_session.specs.Requests.{Visit, visit}
use Rattle.jk_io.specs.Doors.{DoorSide, side}
use Rattle.gear_parts.specs.Logs.{LogTells}
use Rattle.jk_server.specs.Awaits.{LinkTells, link_tells}
use Rattle.jk_server.specs.Worker.{WorkerTells, keeps, worker_side, WorkerSide}
use Rattle.gear_parts.specs.declared.part.Part.{Part}
use Rattle.jk_server.specs.declared.part.Post.{Post}

-- The tellings of a door, a client's link, a clock and a reach, what the reach was told to await, its looks through its idle links,
-- and the tellings of a shelf and a log.
pub record PartTells (D R K S Y C X : Type 0) : Type 1 where
  pub door : D → DoorSide C
  pub link : LinkTells C X
  pub clock : K → Option (List ℕ)
  pub reach : Ghosts R Beside
  pub reach_heard : R → Awaited → R → Type 0
  pub looks : R → Option LookTimes
  pub keeps : WorkerTells S Y

-- what they tell, by their types:
-- `part_tells D.Door D.L.Meanings D.L.heard K.Clock R.Meanings R.heard R.looks S.Shelf ⟦<Y as ToldLog>⟧.told D.L.may_wait`
abbrev pub part_tells : {D R K S Y C X : Type 0} → DoorGhosts D C X → Ghosts C X → (C → Awaited → C → Type 0) → ClockGhosts K → Ghosts R Beside → (R → Awaited → R → Type 0) → (R → Option LookTimes) → ShelfGhosts S → LogTells Y → Bool → PartTells D R K S Y C X
part_tells of_door of_link heard of_clock of_reach reach_heard looks of_shelf of_log may_wait = record {
  door = side of_door.coming of_door.left of_door.faults;
  link = link_tells of_link heard;
  clock = of_clock.answers;
  reach = of_reach;
  reach_heard = reach_heard;
  looks = looks;
  keeps = keeps of_shelf.shelved of_shelf.faults of_log may_wait;
}

-- the worker of a part at a moment
abbrev pub worker_of : {L D R K S W Y C X : Type 0} → PartTells D R K S Y C X → Part L D R K S W Y → WorkerSide S Y
worker_of told part = worker_side told.clock told.reach told.looks part.desk part.clock part.reach part.log

-- whom a worker at this post visits
abbrev pub visit_at : Post → Peer → Visit
visit_at post = visit post.cfg.now post.map.now post.number
