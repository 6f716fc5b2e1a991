-- The leavings of the desks so far, and room for those of the others.
use Rattle.std.proofs.Common.{◌≡◌, ◌+◌, ◌≤◌, ◌++◌, fold, length, map}
use Rattle.std.specs.Prelude.{sum_by, vec_capacity, vec_len}
use Rattle.std.specs.List.{All}
use Rattle.drill.specs.Bodies.{all_together, together}
use Rattle.drill.proofs.slots.empty_slots.Given as goal

abbrev pub invariant-slots : goal.invariant-slots
invariant-slots g l = record {
  parts : sum_by (λ x. x.share.parts) l.leaving.items + length l.slot-iterator.rest.items ≡ vec_len l.fn.slots;
  count : length l.leaving.items + length l.slot-iterator.rest.items ≡ vec_len l.fn.slots;
  none_forgot : All (λ x. x.forgotten ≡ 0) l.leaving.items;
  bodies : fold together l.bodies (map (λ s. s.made) l.slot-iterator.rest.items) ≡ all_together (map (λ s. s.made) l.fn.slots.items);
  receipts : map (λ x. x.receipts) l.leaving.items ++ map (λ s. s.desk.desk.receipts) l.slot-iterator.rest.items ≡ map (λ s. s.desk.desk.receipts) l.fn.slots.items;
  room : vec_len l.leaving + length l.slot-iterator.rest.items ≤ vec_capacity l.leaving;
}
