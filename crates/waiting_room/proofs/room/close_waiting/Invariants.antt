use Rattle.std.specs.Prelude.{◌≡◌}
use Rattle.waiting_room.specs.Turns.{KeepsAway}
use Rattle.waiting_room.proofs.room.close_waiting.Given as goal

-- who is ready, and who is away, stays
abbrev pub invariant-loop-at : goal.invariant-loop-at
invariant-loop-at l = record {
  ready : l.table.places.ready ≡ l.initial.table.places.ready;
  away : KeepsAway l.initial.table.places.places l.table.places.places;
}
