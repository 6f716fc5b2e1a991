use Rattle.std.proofs.Common.{◌≡◌, replicate, None}
use Rattle.lb_book.proofs.opened.none_returned.Given as goal

abbrev pub invariant-loop : goal.invariant-loop
invariant-loop l = l.table.items ≡ replicate l.counter None
