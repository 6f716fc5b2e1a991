use Rattle.journal_text.specs.Openings.{AreCounted}
use Rattle.journal_text.proofs.draft.count_tickets.Given as goal

abbrev pub invariant-loop-i : goal.invariant-loop-i
invariant-loop-i l = AreCounted l.out l.i l.initial.rows.items l.rows.items
