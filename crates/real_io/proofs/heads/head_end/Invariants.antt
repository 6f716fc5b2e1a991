use Rattle.std.proofs.Common.{ℕ, length, ◌-◌, ◌≤◌, ◌<◌}
use Rattle.real_io.specs.Heads.{IsEndAt}
use Rattle.real_io.proofs.heads.head_end.Given as goal

abbrev pub invariant-loop-at : goal.invariant-loop-at
invariant-loop-at l = record { from : l.initial.at ≤ l.at; within : l.at ≤ length l.bytes; none : (p len : ℕ) → l.initial.at ≤ p → p < l.at → IsEndAt l.bytes p len → ⊥ }

abbrev pub decreases-loop-at : goal.decreases-loop-at
decreases-loop-at l = length l.bytes - l.at
