use Rattle.std.proofs.Common.{arith}
use Rattle.lb_book.proofs.halvings.unlike_loads_may_tie.Goals as goal

pub returns-clause-tie : goal.returns-clause-tie
returns-clause-tie c = omega arith
