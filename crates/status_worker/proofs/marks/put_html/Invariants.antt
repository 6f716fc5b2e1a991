use Rattle.std.proofs.Common.{◌≡◌, ◌++◌, take}
use Rattle.status_worker.specs.Marks.{html_text}
use Rattle.status_worker.proofs.marks.put_html.Given as goal

abbrev pub invariant-loop-byte : goal.invariant-loop-byte
invariant-loop-byte l = l.out ≡ l.fn.out ++ html_text (take l.byte-index l.text)
