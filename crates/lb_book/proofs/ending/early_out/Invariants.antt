use Rattle.std.proofs.Common.{◌≡◌, List, not, take}
use Rattle.std.specs.List.{filter}
use Rattle.lb_model.specs.Tickets.{is_returned}
use Rattle.lb_model.specs.declared.journal.Entry.{Entry}
use Rattle.lb_book.specs.Ending.{AreEarly}
use Rattle.lb_book.proofs.ending.early_out.Given as goal

abbrev pub invariant-loop-i : goal.invariant-loop-i
invariant-loop-i l =
    (p : List Entry) → AreEarly p l.out l.early → l.tickets.items ≡ filter (λ x. not (is_returned x.0 p)) (take l.i l.out)
