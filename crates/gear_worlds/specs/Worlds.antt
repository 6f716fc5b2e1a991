-- A world in memory as contracts see it: its gears to come, out and back, and which one it hands out.
use Rattle.std.specs.Prelude.{◌≡◌, ◌↔◌, ℕ, List, [], ◌∷◌, Option, Some, None, Result, Contains, IsErrOf, IsOk, take}
use Rattle.jk_io.specs.MemDoors.{MemDoorState}
use Rattle.jk_io.specs.Memory.{MemDialState, MemLinkState, counted}
use Rattle.jk_io.specs.TalkBooks.{TalkBookState}
use Rattle.jk_io.specs.Told.{HasCause}
use Rattle.jk_io.specs.declared.failures.IoError.{IoError}
use Rattle.jk_io.specs.declared.failures.IoError.TheVariants as io
use Rattle.lb_shared.specs.Shelves.{MemShelfState}
use Rattle.gear_worlds.specs.declared.mem_plan.MemPlan.{MemPlan}
use Rattle.gear_parts.specs.declared.world.Gear.{Gear}

-- a gear in memory
abbrev pub MemGearState : Type 0 → Type 0
MemGearState L = Gear (MemDoorState L) MemDialState TalkBookState (List ℕ) MemShelfState MemLinkState

-- The plans and the logs to come, the gears that were handed out, each as it was then, those that came back, and how many
-- are out; which calls are to fail, how many were made, and how many failed.
pub record MemWorldState (L : Type 0) : Type 0 where
  pub plans : List (MemPlan L)
  pub logs : List MemLinkState
  pub handed : List (MemGearState L)
  pub back : List (MemGearState L)
  pub out : ℕ
  pub failing : List ℕ
  pub calls : ℕ
  pub faults : ℕ

-- A call was counted. It fails exactly where it is told to, and where memory is wanted, which is no fault.
pub record CallsAsTold {L T : Type 0} (before after : MemWorldState L) (result : Result T IoError) : Type 0 where
  pub failed : IsErrOf result io.Failed ↔ Contains before.failing before.calls
  pub calls : after.calls ≡ counted before.calls
  pub cause : HasCause before.faults after.faults result
  pub steady : IsOk result → after.faults ≡ before.faults
  pub quiet : before.failing ≡ [] → after.faults ≡ before.faults

-- the first `most` items, where a most is given
abbrev pub at_most : {T : Type 0} → Option ℕ → List T → List T
at_most None items = items
at_most (Some most) items = take most items

-- the gear of a plan, with `most` of its clients at most, where a most is given
abbrev pub gear_of : {L : Type 0} → Option ℕ → MemPlan L → MemGearState L
gear_of most plan = record {
  door = record { coming = at_most most plan.clients; left = []; room = 0; failing = plan.refused; calls = 0; faults = 0 };
  dial = plan.dial;
  tape = record { talks = []; begun = None; sent = []; received = []; room = 0 };
  clock = plan.clock;
  shelf = plan.shelf;
  log = None;
}

-- no client comes, the clock stands at 0, and nothing is to fail
abbrev pub empty_plan : {L : Type 0} → MemPlan L
empty_plan = record {
  clients = [];
  refused = [];
  dial = record { links = []; failing = []; calls = 0; faults = 0 };
  clock = [];
  shelf = record { kept = []; failing = []; calls = 0; faults = 0 };
}

-- the next one, or an empty one after the last
abbrev pub next_plan : {L : Type 0} → List (MemPlan L) → MemPlan L
next_plan [] = empty_plan
next_plan (plan ∷ later) = plan
