use Rattle.lb_book.specs.Shown.{AreOpened}
use Rattle.lb_book.proofs.opened.opening_rows.Given as goal

abbrev pub invariant-loop-i : goal.invariant-loop-i
invariant-loop-i l = AreOpened l.common l.members l.rows l.i l.opened.items
