use Rattle.std.proofs.Common.{◌≡◌, ◌++◌, take}
use Rattle.journal_text.specs.Lines.{lines_text}
use Rattle.journal_text.specs.SegmentText.{entry_lines}
use Rattle.journal_text.proofs.writing.put_entries.Given as goal

-- the lines of the entries so far
abbrev pub invariant-loop-entry : goal.invariant-loop-entry
invariant-loop-entry l = l.out ≡ l.fn.out ++ lines_text l.rules (entry_lines (take l.entry-index l.entries))
