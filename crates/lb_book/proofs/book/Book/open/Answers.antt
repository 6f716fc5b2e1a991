use Rattle.lb_rules.specs.RuleNumbers.{rules_number}
use Rattle.lb_book.proofs.book.Book.open.Goals as goal

pub invariant_of-result : goal.invariant_of-result
invariant_of-result c = c.in_ok-tables.ensures.kept (rules_number c.args.rules)
