-- A run over its gears: each is served by the worker of its place, and comes back.
use Rattle.std.specs.Prelude.{ℕ, ◌≡◌, List, length, map, Option, Some, sum_by}
use Rattle.std.specs.List.{All}
use Rattle.atomic_table.specs.Seated.{TableId}
use Rattle.jk_io.specs.declared.reaching.Talk.{Talk}
use Rattle.jk_io.specs.Doors.{DoorSide}
use Rattle.lb_shared.specs.SharedDesks.{SharedState}
use Rattle.gear_parts.specs.Gears.{GearSide}
use Rattle.client_session.specs.Requests.{visit}
use Rattle.request_log.specs.declared.format.Part.{Part as FormatPart}
use Rattle.request_log.specs.LogStates.{LogState}
use Rattle.gear_parts.specs.GearLogs.{new_log, sink_of}
use Rattle.gear_parts.specs.GearParts.{Start}
use Rattle.lb_shared.specs.declared.shared_desk.Leaving.{Leaving}
use Rattle.gear_parts.specs.declared.world.Gear.{Gear}
use Rattle.jk_server.specs.Runs.{AreServedGears, IsNew}
use Rattle.jk_server.specs.RunTells.{gears_at, RunTells}
use Rattle.jk_server.specs.declared.runs.parts.SitePlan.{SitePlan}
use Rattle.jk_server.specs.declared.part.Ran.{Ran}

-- a gear as its worker begins with it
abbrev pub start_side : {D G T K S O C X : Type 0} → (D → DoorSide C) → (T → Option (List Talk)) → (K → Option (List ℕ)) → Start D G T K S O X → GearSide C S O
start_side at talks answers s = record { door = at s.door; talks = talks s.reach.pooled.tape; clock = answers s.clock; shelf = s.desk.shelf; log = sink_of s.log }

-- A worker that begins has a new desk at this lock, and one part of the ledger.
abbrev pub IsBeginning : {S : Type 0} → TableId → SharedState S → Type 0
IsBeginning lock desk = IsNew desk × (desk.desk.parts ≡ Some 1) × (desk.seat.lock ≡ lock)

-- It begins a log of this format, where there is something to write it to.
abbrev pub BeginsSo : {S O : Type 0} → TableId → List FormatPart → SharedState S → Option (LogState O) → Type 0
BeginsSo lock format desk log = IsBeginning lock desk × (log ≡ new_log format (sink_of log))

-- Each gear was served by the worker of its place, and comes back. There is a desk at this lock and a part of the ledger for
-- each gear.
pub record IsRunOf {D G T K S O L C X V : Type 0} (told : RunTells D T K S O C X) (plan : SitePlan) (lock : TableId) (gears : List (Gear D G T K S O)) (ran : Ran L (Leaving L V) (Gear D G T K S O)) : Type 0 where
  pub served : AreServedGears (visit plan.cfg.now plan.map.now) told.link told.keeps plan.format.now 0 (gears_at told gears) (gears_at told ran.gears.items)
      (map (λ l. l.seat) ran.leaving.items) ran.workers.items
  pub here : All (λ l. l.seat.lock ≡ lock) ran.leaving.items
  pub whole : sum_by (λ l. l.share.parts) ran.leaving.items ≡ length gears
  pub each : (length ran.gears.items ≡ length gears) × (length ran.leaving.items ≡ length gears)
