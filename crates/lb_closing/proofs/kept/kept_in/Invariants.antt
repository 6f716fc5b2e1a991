-- The entries of the Books so far, and those that the others keep, are all.
use Rattle.std.proofs.Common.{◌≡◌, ◌++◌, drop}
use Rattle.lb_closing.specs.Closings.{kept_from}
use Rattle.lb_closing.proofs.kept.kept_in.Given as goal

abbrev pub invariant-loop-lb : goal.invariant-loop-lb
invariant-loop-lb l = l.kept.items ++ kept_from l.lb (drop l.lb l.books) ≡ kept_from 0 l.books
