use Rattle.std.proofs.Common.{ℕ, ◌≡◌, ◌+◌, ◌≤◌, List, length}
use Rattle.play_script.specs.Drafts.{empty_draft, names_in}
use Rattle.play_script.specs.Play.{Plays}
use Rattle.play_script.proofs.begun.begin.Given as goal

-- what is left prints what all lines print
abbrev pub invariant-loop-line : goal.invariant-loop-line
invariant-loop-line l = record {
  count : l.number + length l.lines ≡ length l.fn.lines;
  few : length (names_in l.draft) ≤ l.number;
  plays : (out : List ℕ) (status : ℕ) → Plays l.lines l.draft (l.number + 1) l.at out status → Plays l.fn.lines empty_draft 1 0 out status;
}

abbrev pub decreases-loop-line : goal.decreases-loop-line
decreases-loop-line l = length l.lines
