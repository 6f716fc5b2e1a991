use Rattle.std.proofs.Common.{ℕ, ◌≡◌, ◌+◌, ◌≤◌, ◌<◌, ◌^◌, ◌++◌, ◌∷◌, List, length}
use Rattle.lb_book.specs.Journal.{past_of}
use Rattle.play_script.specs.Play.{Runs}
use Rattle.plain_commands.specs.Turns.{IsPlayed}
use Rattle.plain_commands.proofs.play.run.Given as goal

-- what the lines so far print, and then those that are left, is what all of them print
abbrev pub invariant-lines : goal.invariant-lines
invariant-lines l = record {
  played : IsPlayed l.book;
  few : l.number + length l.lines < 2 ^ 32;
  entries : length l.book.entries ≤ l.number;
  text : List ℕ;
  put : l.out ≡ l.fn.out ++ text;
  runs : (rest : List ℕ) (status : ℕ)
      → Runs l.names l.book.opening (l.line ∷ l.lines) l.number l.at (past_of l.book) rest status
      → Runs l.names l.fn.book.opening (l.fn.line ∷ l.fn.lines) l.fn.first.number l.fn.first.at (past_of l.fn.book) (text ++ rest) status;
}

abbrev pub decreases-lines : goal.decreases-lines
decreases-lines l = length l.lines
