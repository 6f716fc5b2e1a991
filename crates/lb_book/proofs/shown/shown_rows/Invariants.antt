use Rattle.lb_book.specs.Shown.{AreShown}
use Rattle.lb_book.proofs.shown.shown_rows.Given as goal

abbrev pub invariant-loop-i : goal.invariant-loop-i
invariant-loop-i l = AreShown l.members l.rows l.i l.shown.items
