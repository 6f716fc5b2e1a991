use Rattle.std.proofs.Common.{◌≡◌, map, take}
use Rattle.lb_book.specs.Journal.{start_row}
use Rattle.lb_book.proofs.opened.start_rows.Given as goal

abbrev pub invariant-loop-member : goal.invariant-loop-member
invariant-loop-member l = l.rows.items ≡ map start_row (take l.member-index l.members)
