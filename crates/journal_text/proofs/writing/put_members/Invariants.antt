use Rattle.std.proofs.Common.{◌≡◌, ◌++◌, take}
use Rattle.journal_text.specs.Lines.{lines_text}
use Rattle.journal_text.specs.SegmentText.{member_lines}
use Rattle.journal_text.proofs.writing.put_members.Given as goal

-- the lines of the members so far
abbrev pub invariant-loop-i : goal.invariant-loop-i
invariant-loop-i l = l.out ≡ l.fn.out ++ lines_text l.rules (member_lines (take l.i l.members) (take l.i l.rows))
