use Rattle.std.proofs.Common.{◌+◌, ◌≤◌, ◌∷◌, length}
use Rattle.journal_verdict.proofs.CheckerFacts.{Stands}
use Rattle.journal_verdict.proofs.checking.check_journal.Given as goal

-- some segments were taken, and what is read of the rest after them is what the text is read as
abbrev pub invariant-lines : goal.invariant-lines
invariant-lines l = record {
  few : l.checker.number + length l.lines ≤ 67108866;
  stands : Stands l.text l.checker (l.line ∷ l.lines);
}

abbrev pub decreases-lines : goal.decreases-lines
decreases-lines l = length l.lines
