use Rattle.journal_verdict.proofs.JudgeFacts.{HasKept}
use Rattle.journal_verdict.proofs.judging.judge_entries.Given as goal

-- the Book went on by the entries so far, which are legal
abbrev pub invariant-loop-i : goal.invariant-loop-i
invariant-loop-i l = HasKept l.fn.book.rules l.fn.book.opening l.entries l.i l.at l.book
