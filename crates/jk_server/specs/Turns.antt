-- One turn of a worker, after the clients that it served before.
use Rattle.std.specs.Prelude.{ℕ, ◌≡◌, ◌+◌, min, List, map, Option, Some, None}
use Rattle.std.specs.List.{All}
use Rattle.jk_io.specs.declared.traits.surroundings.Peer.{Peer}
use Rattle.client_session.specs.Requests.{Visit, visit}
use Rattle.exchange.specs.Awaits.{AwaitsDials}
use Rattle.jk_io.specs.Doors.{DoorSide, GaveAndGot}
use Rattle.site_config.specs.declared.config.Config.{Config}
use Rattle.site_mounts.specs.declared.rule.Rule.{Rule}
use Rattle.gear_parts.specs.declared.part.Part.{Part}
use Rattle.jk_server.specs.Awaits.{LinkTells}
use Rattle.jk_server.specs.PartTells.{PartTells, visit_at, worker_of}
use Rattle.jk_server.specs.Served.{count_of, HaveRested, IsRun, IsServed, Run, ServesPartClient}
use Rattle.jk_server.specs.Worker.{IsFit, WorkerTells, Rests, WorkerSide}
use Rattle.jk_server.specs.declared.part.Post.{Post}
use Rattle.jk_server.specs.declared.part.WorkerEnd.{WorkerEnd}
use Rattle.jk_server.specs.declared.part.WorkerEnd.TheVariants as worker

-- These clients were served, the worker rested after each, no call of its door failed, and its log took each row.
pub record IsUnderWay {C S Y X : Type 0} (visit : Peer → Visit) (told : LinkTells C X) (of : WorkerTells S Y) (first now : DoorSide C) (s n : WorkerSide S Y) (count : ℕ) : Type 0 where
  pub runs : List (Run C S Y)
  pub clients : GaveAndGot first now (map (λ r. (r.link, r.peer)) runs) (map (λ r. r.back) runs)
  pub sessions : All (IsRun visit told of) runs
  pub rested : HaveRested of s runs n
  pub counted : count ≡ count_of runs
  pub steady : now.faults ≡ first.faults
  pub logged : of.log.broken_by n.log ≡ None

-- One more client was served, and the worker goes on; or it ended.
abbrev pub GoesOrEnds : {C S Y L X : Type 0} → (Peer → Visit) → LinkTells C X → WorkerTells S Y → (first now : DoorSide C) → (s n : WorkerSide S Y) → (count : ℕ) → Option (WorkerEnd L) → Type 0
GoesOrEnds visit told of first now s n count None = IsUnderWay visit told of first now s n (min (count + 1) 18446744073709551615)
GoesOrEnds visit told of first now s n count (Some end) = IsServed visit told of first now s n end

-- A client was served and its link was left. Before each talk the reach was told how long its dial may take. The worker may serve
-- on with what it has. Its share keeps its parts.
pub record LeavesClient {L D R K S W Y C X : Type 0} (told : PartTells D R K S Y C X) (post : Post) (before after : Part L D R K S W Y) (link : C) (peer : Peer) (end : Option (WorkerEnd L)) : Type 0 where
  pub served : ServesPartClient told (visit_at post) before after link peer end
  pub dials : AwaitsDials told.reach told.reach_heard post.cfg.now.lbs before.reach after.reach
  pub fit : IsFit post.cfg.now post.map.now after.desk.desk (told.reach.beside after.reach)
  pub parts : after.desk.desk.parts ≡ before.desk.desk.parts

-- A worker that rests ends only since its reach wanted memory.
abbrev pub EndsAtRest : {L : Type 0} → Option (WorkerEnd L) → Type 0
EndsAtRest None = Unit {0}
EndsAtRest (Some end) = end ≡ worker.NoMemory

-- The worker rested, and goes on or ends. Door, desk and log stay as they are.
pub record RestsPart {L D R K S W Y C X : Type 0} (told : PartTells D R K S Y C X) (before after : Part L D R K S W Y) (end : Option (WorkerEnd L)) : Type 0 where
  pub why : EndsAtRest end
  pub rests : Rests (worker_of told before) (worker_of told after)
  pub beside : told.reach.beside after.reach ≡ told.reach.beside before.reach
  pub same_door : after.door ≡ before.door
  pub same_desk : after.desk ≡ before.desk
  pub same_log : after.log ≡ before.log

-- So after all that were served before, and the worker may serve on with what it has. Its share keeps its parts. Before each talk
-- the reach was told how long its dial may take.
pub record TurnsPart {L D R K S W Y C X : Type 0} (told : PartTells D R K S Y C X) (post : Post) (before after : Part L D R K S W Y) (count : ℕ) (end : Option (WorkerEnd L)) : Type 0 where
  pub turned : (first : DoorSide C) (s : WorkerSide S Y)
      → IsUnderWay (visit_at post) told.link told.keeps first (told.door before.door) s (worker_of told before) count
      → GoesOrEnds (visit_at post) told.link told.keeps first (told.door after.door) s (worker_of told after) count end
  pub dials : AwaitsDials told.reach told.reach_heard post.cfg.now.lbs before.reach after.reach
  pub fit : IsFit post.cfg.now post.map.now after.desk.desk (told.reach.beside after.reach)
  pub parts : after.desk.desk.parts ≡ before.desk.desk.parts

-- The clients so far were served since a moment, and the worker may serve on with what it has. Its share keeps its parts. Before
-- each talk the reach was told how long its dial may take.
pub record KeepsTurning {L D R K S W Y C X : Type 0} (told : PartTells D R K S Y C X) (cfg : Config) (rules : List Rule) (number : ℕ) (first now : Part L D R K S W Y) (count : ℕ) : Type 0 where
  pub way : IsUnderWay (visit cfg rules number) told.link told.keeps (told.door first.door) (told.door now.door) (worker_of told first) (worker_of told now) count
  pub dials : AwaitsDials told.reach told.reach_heard cfg.lbs first.reach now.reach
  pub fit : IsFit cfg rules now.desk.desk (told.reach.beside now.reach)
  pub parts : now.desk.desk.parts ≡ first.desk.desk.parts
