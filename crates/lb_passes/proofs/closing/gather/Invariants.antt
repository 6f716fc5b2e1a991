-- The seat carries the numbers of those that are no longer in the list.
use Rattle.std.proofs.Common.{◌≡◌, ◌++◌, ◌∷◌, [], List, length}
use Rattle.lb_passes.specs.Closing.{HasGathered}
use Rattle.lb_passes.specs.declared.pass.Pass.{Pass}
use Rattle.lb_passes.proofs.closing.gather.Given as goal

abbrev pub invariant-loop-pass : goal.invariant-loop-pass
invariant-loop-pass l =
    (done : List Pass) × (l.fn.list.items ++ l.fn.last ∷ [] ≡ l.list.items ++ done) × HasGathered l.book.table.shared.table_id done l.seat

abbrev pub decreases-loop-pass : goal.decreases-loop-pass
decreases-loop-pass l = length l.list.items
