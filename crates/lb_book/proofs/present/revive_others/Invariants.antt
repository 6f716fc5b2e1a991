use Rattle.lb_book.specs.Revived.{AreOthersRevived}
use Rattle.lb_book.proofs.present.revive_others.Given as goal

abbrev pub invariant-loop-i : goal.invariant-loop-i
invariant-loop-i l = AreOthersRevived l.ask l.except l.i l.initial.rows.items l.rows.items
