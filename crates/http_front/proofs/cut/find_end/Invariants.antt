use Rattle.std.proofs.Common.{length, ◌-◌, ◌≤◌}
use Rattle.http_front.specs.Search.{Searched}
use Rattle.http_front.proofs.cut.find_end.Given as goal

abbrev pub invariant-loop-at : goal.invariant-loop-at
invariant-loop-at l = record { within : l.at ≤ length l.front; searched : Searched l.front l.at }

abbrev pub decreases-loop-at : goal.decreases-loop-at
decreases-loop-at l = length l.front - l.at
