use Rattle.std.proofs.Common.{◌≡◌, ◌+◌, ◌≤◌, ◌++◌, length, map}
use Rattle.std.specs.Prelude.{vec_capacity, vec_len}
use Rattle.ajp_container.proofs.workers.empty_slots.Given as goal

abbrev pub invariant-slots : goal.invariant-slots
invariant-slots g l =
    (l.workers.items ++ map (λ s. s.end) l.slot-iterator.rest.items ≡ map (λ s. s.end) l.fn.slots.items)
    × (l.back.items ++ map (λ s. s.holder) l.slot-iterator.rest.items ≡ map (λ s. s.holder) l.fn.slots.items)
    × (vec_len l.workers + length l.slot-iterator.rest.items ≤ vec_capacity l.workers)
    × (vec_len l.back + length l.slot-iterator.rest.items ≤ vec_capacity l.back)
