-- A slot for each part so far, and the other parts in the share.
use Rattle.std.proofs.Common.{◌≡◌, ◌+◌, ◌≤◌, []}
use Rattle.std.specs.Prelude.{vec_capacity, vec_len}
use Rattle.std.specs.List.{All}
use Rattle.drill.proofs.slots.fill_slots.Given as goal

abbrev pub invariant-slots : goal.invariant-slots
invariant-slots g l = record {
  count : vec_len l.slots ≡ l.counter;
  parts : l.unused.share.parts + vec_len l.slots ≡ l.threads;
  room : l.threads ≤ vec_capacity l.slots;
  fresh : All (λ s. s.desk.desk.receipts ≡ []) l.slots.items;
}
