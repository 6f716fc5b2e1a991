-- The thread's entries so far.
use Rattle.std.proofs.Common.{◌≤◌, take}
use Rattle.drill.specs.Drills.{entries_of}
use Rattle.drill.specs.Progress.{IsSoFar}
use Rattle.drill.proofs.answered.is_answered.Given as goal

abbrev pub invariant-loop-entry : goal.invariant-loop-entry
invariant-loop-entry l = IsSoFar (entries_of l.thread (take l.entry-index l.entries)) l.progress.whole l.progress.ticket × (l.progress.whole ≤ l.entry-index)
