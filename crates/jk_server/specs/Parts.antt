-- The workers of a run, each at its part, and the gear, the leaving and the end that are left of its slot.
use Rattle.std.specs.Prelude.{ℕ, ◌≡◌, ◌+◌, ◌<◌, false, is_some, List, [], ◌∷◌, length, slice_index_or, Option}
use Rattle.jk_io.specs.declared.reaching.Beside.{Beside}
use Rattle.jk_io.specs.declared.traits.surroundings.Peer.{Peer}
use Rattle.client_session.specs.Requests.{Visit, visit}
use Rattle.jk_io.specs.Doors.{DoorSide}
use Rattle.lb_shared.specs.declared.shared_desk.Leaving.{Leaving}
use Rattle.site_config.specs.declared.config.Config.{Config}
use Rattle.site_mounts.specs.declared.rule.Rule.{Rule}
use Rattle.jk_server.specs.Awaits.{LinkTells}
use Rattle.jk_server.specs.Served.{IsServed}
use Rattle.jk_server.specs.PartTells.{PartTells, worker_of}
use Rattle.jk_server.specs.Worker.{IsFit, WorkerTells, WorkerSide}
use Rattle.conn_pool.specs.Watched.{WatchedState}
use Rattle.request_log.specs.LogStates.{LogState}
use Rattle.gear_parts.specs.GearParts.{DeskLeaves, gear_in, Start, start_with}
use Rattle.gear_parts.specs.declared.part.Part.{Part}
use Rattle.gear_parts.specs.declared.world.Gear.{Gear}
use Rattle.jk_server.specs.declared.part.WorkerEnd.{WorkerEnd}
use Rattle.jk_server.specs.declared.workers.Slot.{Slot}

-- A worker served its part, and may serve on with what it has. Its share keeps its parts.
pub record IsWorked {C S Y L X : Type 0} (visit : Peer → Visit) (told : LinkTells C X) (of : WorkerTells S Y) (cfg : Config) (rules : List Rule) (before after : DoorSide C) (s n : WorkerSide S Y) (beside : Beside) (end : WorkerEnd L) : Type 0 where
  pub served : IsServed visit told of before after s n end
  pub fit : IsFit cfg rules n.desk.desk beside
  pub parts : n.desk.desk.parts ≡ s.desk.desk.parts

-- `IsWorked` for the part of a worker with this number, from one moment to another.
abbrev pub WorksPart : {L D R K S W Y C X : Type 0} → PartTells D R K S Y C X → Config → List Rule → (number : ℕ) → (before after : Part L D R K S W Y) → WorkerEnd L → Type 0
WorksPart told cfg rules number before after end =
    IsWorked (visit cfg rules number) told.link told.keeps cfg rules (told.door before.door) (told.door after.door)
    (worker_of told before) (worker_of told after) (told.reach.beside after.reach) end

-- `Did` holds of each item of a list and of what it became, by its place.
abbrev pub InEach : {Q : Type 0} → (ℕ → Q → Q → Type 0) → (before after : List Q) → Type 0
InEach {Q} Did before after = (i : ℕ) (d : Q) → i < length before → Did i (slice_index_or before i d) (slice_index_or after i d)

-- `Is` holds of the items of four lists, taken together in order, with their number, the first of which is n.
abbrev pub AreEach : {P O V E : Type 0} → (ℕ → P → O → V → E → Type 0) → ℕ → List P → List O → List V → List E → Type 0
AreEach Is n [] [] [] [] = Unit {0}
AreEach Is n (p ∷ ps) (o ∷ os) (l ∷ ls) (e ∷ es) = Is n p o l e × AreEach Is (n + 1) ps os ls es
AreEach Is n _ _ _ _ = ⊥

-- As `AreEach`, without numbers.
abbrev pub AllFour : {P O V E : Type 0} → (P → O → V → E → Type 0) → List P → List O → List V → List E → Type 0
AllFour Is [] [] [] [] = Unit {0}
AllFour Is (p ∷ ps) (o ∷ os) (l ∷ ls) (e ∷ es) = Is p o l e × AllFour Is ps os ls es
AllFour Is _ _ _ _ = ⊥

-- `Did` holds of each item of a list and of what it became, with its number, the first of which is n.
abbrev pub AreDone : {Q : Type 0} → (ℕ → Q → Q → Type 0) → ℕ → (before after : List Q) → Type 0
AreDone Did n [] [] = Unit {0}
AreDone Did n (a ∷ before) (b ∷ after) = Did n a b × AreDone Did (n + 1) before after
AreDone Did n _ _ = ⊥

-- ---- slots

-- what the worker of a slot begins with
abbrev pub slot_start : {L D G T K S W O C : Type 0} → Slot (Part L D (WatchedState G T C) K S W (Option (LogState O))) L → Start D G T K S O C
slot_start slot = start_with slot.part

-- The worker of a slot, of this number, served its part, and how it ended stands in the slot.
abbrev pub WorksSlot : {L D R K S W Y C X : Type 0} → PartTells D R K S Y C X → Config → List Rule → (number : ℕ) → (before after : Slot (Part L D R K S W Y) L) → Type 0
WorksSlot told cfg rules number before after = WorksPart told cfg rules number before.part after.part after.end

-- Its worker ended: the desk holds no ticket, and no link is lent to the reach.
abbrev pub WorkerIsOver : {L D G T K S W O C : Type 0} → Slot (Part L D (WatchedState G T C) K S W (Option (LogState O))) L → Type 0
WorkerIsOver slot = (slot.part.desk.desk.held ≡ []) × (is_some slot.part.reach.pooled.lent ≡ false)

-- Of a slot its part's gear was left, what its desk left, and how its worker ended.
pub record LeavesSlot {L D G T K S W O C V : Type 0} (slot : Slot (Part L D (WatchedState G T C) K S W (Option (LogState O))) L) (gear : Gear D G T K S O) (left : Leaving L V) (end : WorkerEnd L) : Type 0 where
  pub gear_left : gear ≡ gear_in slot.part
  pub desk : DeskLeaves slot.part.desk left
  pub ended : end ≡ slot.end

-- Something was done in a slot, and then this was left of it.
pub record DoneAndLeft {Q G V E : Type 0} (Did : ℕ → Q → Q → Type 0) (Leaves : Q → G → V → E → Type 0) (number : ℕ) (before : Q) (gear : G) (left : V) (end : E) : Type 0 where
  pub after : Q
  pub did : Did number before after
  pub leaves : Leaves after gear left end
