-- The lines so far go on as they are.
use Rattle.std.proofs.Common.{◌≡◌, map, take}
use Rattle.forwarding.specs.Forwards.{line_for}
use Rattle.forwarding.proofs.request.are_trimmed.Given as goal

abbrev pub invariant-loop-line : goal.invariant-loop-line
invariant-loop-line l = map line_for (take l.line-index l.lines) ≡ take l.line-index l.lines
