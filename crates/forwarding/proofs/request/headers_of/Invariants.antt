-- The headers so far.
use Rattle.std.proofs.Common.{◌≡◌, map, take}
use Rattle.forwarding.specs.Forwards.{line_for}
use Rattle.forwarding.proofs.request.headers_of.Given as goal

abbrev pub invariant-loop-line : goal.invariant-loop-line
invariant-loop-line l = l.pairs.items ≡ map line_for (take l.line-index l.line-items)
