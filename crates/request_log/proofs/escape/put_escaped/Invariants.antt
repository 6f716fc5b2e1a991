use Rattle.std.proofs.Common.{◌≡◌, ◌++◌, take}
use Rattle.request_log.specs.Lines.{escaped}
use Rattle.request_log.proofs.escape.put_escaped.Given as goal

abbrev pub invariant-loop-byte : goal.invariant-loop-byte
invariant-loop-byte l = l.out ≡ l.fn.out ++ escaped (take l.byte-index l.text)
