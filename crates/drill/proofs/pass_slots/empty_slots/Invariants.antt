-- The passes so far, and room for the others.
use Rattle.std.proofs.Common.{◌≡◌, ◌+◌, ◌≤◌, ◌++◌, length, fold, map}
use Rattle.std.specs.Prelude.{vec_capacity, vec_len}
use Rattle.lb_passes.specs.Holds.{entries_in, own_in}
use Rattle.lb_passes.specs.PassDesks.{view_of}
use Rattle.lb_passes.specs.Placed.{AreEachBack}
use Rattle.drill.specs.Bodies.{all_together, together}
use Rattle.drill.proofs.pass_slots.empty_slots.Given as goal

abbrev pub invariant-slots : goal.invariant-slots
invariant-slots g l = record {
  numbers : map (λ p. p.number) l.passes.items ++ map (λ s. s.number) l.slot-iterator.rest.items ≡ map (λ s. s.number) l.fn.slots.items;
  own : map (λ p. own_in (view_of p)) l.passes.items ++ map (λ s. entries_in s.desk.desk.desk.receipts) l.slot-iterator.rest.items
      ≡ map (λ s. entries_in s.desk.desk.desk.receipts) l.fn.slots.items;
  bodies : fold together l.bodies (map (λ s. s.made) l.slot-iterator.rest.items) ≡ all_together (map (λ s. s.made) l.fn.slots.items);
  back : AreEachBack g.P.PassPlace.table g.P.PassPlace.origin g.P.PassPlace.given l.passes.items;
  room : vec_len l.passes + length l.slot-iterator.rest.items ≤ vec_capacity l.passes;
}
