use Rattle.std.proofs.Common.{◌≡◌, ℕ, ◌<◌}
use Rattle.std.specs.Prelude.{slice_get}
use Rattle.journal_verdict.specs.Verdicts.{opening_texts}
use Rattle.journal_verdict.proofs.joining.first_difference.Given as goal

-- the lines so far are the same
abbrev pub invariant-loop-at : goal.invariant-loop-at
invariant-loop-at l =
    (v i : ℕ) → i < l.at → slice_get (opening_texts v l.name l.opening) i ≡ slice_get (opening_texts v l.former l.ending) i
