use Rattle.std.proofs.Common.{length}
use Rattle.journal_text.proofs.PairFacts.{IsSplit}
use Rattle.journal_text.proofs.segments.segments_of.Given as goal

-- those that are left, and those that were made pairs
abbrev pub invariant-loop-one : goal.invariant-loop-one
invariant-loop-one l = IsSplit l.fn.counted l.counted l.pairs.items

abbrev pub decreases-loop-one : goal.decreases-loop-one
decreases-loop-one l = length l.counted
