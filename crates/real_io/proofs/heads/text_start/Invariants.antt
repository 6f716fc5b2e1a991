use Rattle.std.proofs.Common.{ℕ, length, ◌-◌, ◌≤◌, ◌<◌}
use Rattle.real_io.specs.Heads.{IsText}
use Rattle.real_io.proofs.heads.text_start.Given as goal

abbrev pub invariant-loop-at : goal.invariant-loop-at
invariant-loop-at l = record { within : l.at ≤ length l.bytes; before : (p : ℕ) → p < l.at → IsText l.bytes p → ⊥ }

abbrev pub decreases-loop-at : goal.decreases-loop-at
decreases-loop-at l = length l.bytes - l.at
