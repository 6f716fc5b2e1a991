-- The leavings taken so far and those that are left are all of them.
use Rattle.std.proofs.Common.{◌≡◌, ◌+◌, ◌≤◌, ◌++◌, false, length, map}
use Rattle.std.specs.Prelude.{◌↔◌, sum_by, vec_capacity, vec_len}
use Rattle.std.specs.List.{All, flat_map}
use Rattle.lb_closing.specs.Closings.{noted}
use Rattle.lb_closing.proofs.gather.take_all.Given as goal

abbrev pub invariant-loop-left : goal.invariant-loop-left
invariant-loop-left g l = record {
  parts : l.all.share.parts + sum_by (λ x. x.share.parts) l.left-iterator.rest.items ≡ l.initial.all.share.parts + sum_by (λ x. x.share.parts) l.fn.leaving.items;
  amount : l.all.share.amount + sum_by (λ x. x.share.amount) l.left-iterator.rest.items ≡ l.initial.all.share.amount + sum_by (λ x. x.share.amount) l.fn.leaving.items;
  cuts : l.all.cuts.amount + sum_by (λ x. x.cuts.amount) l.left-iterator.rest.items ≡ l.initial.all.cuts.amount + sum_by (λ x. x.cuts.amount) l.fn.leaving.items;
  noted : l.all.noted.items ++ noted (flat_map (λ x. x.receipts) l.left-iterator.rest.items) ≡ l.initial.all.noted.items ++ noted (flat_map (λ x. x.receipts) l.fn.leaving.items);
  shelves : l.all.shelves.items ++ map (λ x. x.shelf) l.left-iterator.rest.items ≡ l.initial.all.shelves.items ++ map (λ x. x.shelf) l.fn.leaving.items;
  seats : l.all.seats.items ++ map (λ x. x.seat) l.left-iterator.rest.items ≡ l.initial.all.seats.items ++ map (λ x. x.seat) l.fn.leaving.items;
  room : vec_len l.all.shelves + length l.left-iterator.rest.items ≤ vec_capacity l.all.shelves;
  for_seats : vec_len l.all.seats + length l.left-iterator.rest.items ≤ vec_capacity l.all.seats;
  forgot : ((l.all.forgot ≡ false) × All (λ x. x.forgotten ≡ 0) l.left-iterator.rest.items) ↔ ((l.initial.all.forgot ≡ false) × All (λ x. x.forgotten ≡ 0) l.fn.leaving.items);
}
