use Rattle.std.proofs.Common.{◌≡◌, ◌++◌, take}
use Rattle.http_out.specs.ReplyBytes.{lines_bytes}
use Rattle.http_out.proofs.head_text.put_lines.Given as goal

abbrev pub invariant-loop-line : goal.invariant-loop-line
invariant-loop-line l = l.text ≡ l.initial.text ++ lines_bytes l.status (take l.line-index l.lines)
