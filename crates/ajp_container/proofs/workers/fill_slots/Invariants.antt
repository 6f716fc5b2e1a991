use Rattle.std.proofs.Common.{◌≡◌, ◌+◌, ◌≤◌, ◌++◌, length, map}
use Rattle.std.specs.Prelude.{vec_capacity, vec_len}
use Rattle.ajp_container.proofs.workers.fill_slots.Given as goal

abbrev pub invariant-holders : goal.invariant-holders
invariant-holders g l =
    (map (λ s. s.holder) l.slots.items ++ l.holder-iterator.rest.items ≡ l.fn.holders.items)
    × (vec_len l.slots + length l.holder-iterator.rest.items ≤ vec_capacity l.slots)
