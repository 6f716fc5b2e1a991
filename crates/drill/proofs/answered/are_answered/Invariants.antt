-- The threads so far.
use Rattle.std.proofs.Common.{ℕ, ◌<◌, length}
use Rattle.drill.specs.Drills.{AreAnswered, entries_of}
use Rattle.drill.specs.Requests.{requests_of}
use Rattle.drill.proofs.answered.are_answered.Given as goal

abbrev pub invariant-loop-thread : goal.invariant-loop-thread
invariant-loop-thread l =
    (t : ℕ) → t < l.thread → AreAnswered (length (requests_of l.plan.threads l.plan.requests t)) (entries_of t l.entries)
