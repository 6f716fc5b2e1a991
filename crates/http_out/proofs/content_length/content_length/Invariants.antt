use Rattle.std.proofs.Common.{◌≡◌, take}
use Rattle.http_out.specs.Head.{length_in}
use Rattle.http_out.proofs.content_length.content_length.Given as goal

abbrev pub invariant-loop-line : goal.invariant-loop-line
invariant-loop-line l = l.said ≡ length_in (take l.line-index l.lines)
