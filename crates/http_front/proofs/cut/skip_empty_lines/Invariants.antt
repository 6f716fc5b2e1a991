use Rattle.std.proofs.Common.{length, ◌-◌, ◌≤◌}
use Rattle.http_front.specs.Search.{Skipped}
use Rattle.http_front.proofs.cut.skip_empty_lines.Given as goal

abbrev pub invariant-loop-at : goal.invariant-loop-at
invariant-loop-at l = record { from : l.from ≤ l.at; within : l.at ≤ length l.bytes; skipped : Skipped l.bytes l.at }

abbrev pub decreases-loop-at : goal.decreases-loop-at
decreases-loop-at l = length l.bytes - l.at
