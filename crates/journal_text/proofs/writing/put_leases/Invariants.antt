use Rattle.std.proofs.Common.{◌≡◌, ◌++◌, take}
use Rattle.journal_text.specs.Lines.{lines_text}
use Rattle.journal_text.specs.SegmentText.{lease_lines}
use Rattle.journal_text.proofs.writing.put_leases.Given as goal

-- the lines of the tickets so far
abbrev pub invariant-loop-ticket : goal.invariant-loop-ticket
invariant-loop-ticket l = l.out ≡ l.fn.out ++ lines_text l.rules (lease_lines (take l.ticket-index l.tickets))
