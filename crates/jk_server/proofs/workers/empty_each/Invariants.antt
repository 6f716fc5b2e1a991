-- The slots so far are taken apart, and there is room for what the others leave.
use Rattle.std.proofs.Common.{length}
use Rattle.std.specs.List.{All}
use Rattle.jk_server.specs.Parts.{WorkerIsOver, LeavesSlot}
use Rattle.jk_server.specs.Rooms.{HasSpace}
use Rattle.jk_server.proofs.SlotLaws.{IsSoFar}
use Rattle.jk_server.proofs.workers.empty_each.Given as goal

abbrev pub invariant-slots : goal.invariant-slots
invariant-slots g l = record {
  so_far : IsSoFar (λ s gear left end. LeavesSlot s gear left end)
      l.fn.slots.rest.items l.slots.rest.items l.ran.gears.items l.ran.leaving.items l.ran.workers.items;
  over : All (λ s. WorkerIsOver s) l.slots.rest.items;
  space : HasSpace (length l.slots.rest.items) l.ran;
}

abbrev pub decreases-slots : goal.decreases-slots
decreases-slots g l = length l.slots.rest.items
