use Rattle.std.proofs.Common.{◌≡◌, get_or, take}
use Rattle.lb_model.specs.Journal.{each}
use Rattle.lb_book.specs.Commanded.{setting_commanded}
use Rattle.lb_rules.specs.declared.standing.Standing.{Standing}
use Rattle.lb_book.proofs.commanded.put_factors.Given as goal

abbrev pub invariant-loop-i : goal.invariant-loop-i
invariant-loop-i l =
    (d : Standing) → take l.i l.table ≡ each l.i (λ m. (setting_commanded l.command m (get_or l.rows m d)).factor)
