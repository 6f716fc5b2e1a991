use Rattle.std.proofs.Common.{◌≡◌, ◌++◌, take}
use Rattle.request_log.specs.Lines.{lines_alike}
use Rattle.request_log.proofs.writing.put_rows.Given as goal

abbrev pub invariant-loop-row : goal.invariant-loop-row
invariant-loop-row l = l.out ≡ l.fn.out ++ lines_alike l.format l.seen (take l.row-index l.rows)
