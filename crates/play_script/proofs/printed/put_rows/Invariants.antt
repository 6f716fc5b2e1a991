use Rattle.std.proofs.Common.{◌≡◌, ◌++◌, take}
use Rattle.play_script.specs.Printed.{row_lines}
use Rattle.play_script.proofs.printed.put_rows.Given as goal

abbrev pub invariant-loop-row : goal.invariant-loop-row
invariant-loop-row l = l.out ≡ l.fn.out ++ row_lines (take l.row-index l.rows)
