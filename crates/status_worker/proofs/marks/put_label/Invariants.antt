use Rattle.std.proofs.Common.{◌≡◌, ◌++◌, take}
use Rattle.status_worker.specs.Marks.{label_text}
use Rattle.status_worker.proofs.marks.put_label.Given as goal

abbrev pub invariant-loop-byte : goal.invariant-loop-byte
invariant-loop-byte l = l.out ≡ l.fn.out ++ label_text (take l.byte-index l.text)
