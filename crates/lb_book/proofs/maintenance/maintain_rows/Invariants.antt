use Rattle.lb_book.specs.Maintained.{maintained_row}
use Rattle.lb_book.specs.Stepped.{AreStepped}
use Rattle.lb_book.proofs.maintenance.maintain_rows.Given as goal

abbrev pub invariant-loop-i : goal.invariant-loop-i
invariant-loop-i l =
    AreStepped (λ _ row. maintained_row l.method l.by.at l.by.recover l.by.most l.by.times row) l.i l.initial.rows.items l.rows.items
