use Rattle.std.proofs.Common.{◌≡◌, length}
use Rattle.request_log.specs.Lines.{query_of}
use Rattle.request_log.proofs.request_line.query_of.Given as goal

-- only bytes before the first `?` were passed
abbrev pub invariant-loop-rest : goal.invariant-loop-rest
invariant-loop-rest l = query_of l.rest ≡ query_of l.target

abbrev pub decreases-loop-rest : goal.decreases-loop-rest
decreases-loop-rest l = length l.rest
