use Rattle.lb_book.specs.Ending.{AreSettled}
use Rattle.lb_book.proofs.ending.ending_members.Given as goal

abbrev pub invariant-loop-i : goal.invariant-loop-i
invariant-loop-i l = AreSettled l.members l.rows l.i l.settled.items
