-- The entries so far are noted.
use Rattle.std.proofs.Common.{◌≡◌, ◌++◌, map, take}
use Rattle.lb_closing.proofs.kept.note_all.Given as goal

abbrev pub invariant-loop-entry : goal.invariant-loop-entry
invariant-loop-entry l = l.kept.items ≡ l.initial.kept.items ++ map (λ e. (l.lb, e)) (take l.entry-index l.entries)
