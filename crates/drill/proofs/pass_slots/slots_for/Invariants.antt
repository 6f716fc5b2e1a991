-- A slot for each pass so far, in order, and room for the others.
use Rattle.std.proofs.Common.{◌≡◌, ◌+◌, ◌≤◌, [], length, map}
use Rattle.std.specs.Prelude.{vec_capacity, vec_len}
use Rattle.std.specs.List.{All}
use Rattle.lb_passes.specs.Placed.{AreFrom}
use Rattle.lb_passes.proofs.PlacedLaws.{AreNext}
use Rattle.drill.proofs.pass_slots.slots_for.Given as goal

abbrev pub invariant-passes : goal.invariant-passes
invariant-passes g l = record {
  next : AreNext g.P.PassPlace.origin g.P.PassPlace.table g.P.PassPlace.given (length l.slots.items) l.pass-iterator.rest.items;
  fresh : All (λ s. s.desk.desk.desk.receipts ≡ []) l.slots.items;
  numbers : AreFrom 0 (map (λ s. s.number) l.slots.items);
  count : vec_len l.slots + length l.pass-iterator.rest.items ≡ g.P.PassPlace.given;
  room : vec_len l.slots + length l.pass-iterator.rest.items ≤ vec_capacity l.slots;
}
