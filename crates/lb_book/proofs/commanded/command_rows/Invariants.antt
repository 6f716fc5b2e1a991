use Rattle.lb_book.specs.Commanded.{commanded_row}
use Rattle.lb_book.specs.Stepped.{AreStepped}
use Rattle.lb_book.proofs.commanded.command_rows.Given as goal

abbrev pub invariant-loop-i : goal.invariant-loop-i
invariant-loop-i l =
    AreStepped (λ m row. commanded_row l.config.method l.common l.command m row) l.i l.initial.rows.items l.rows.items
