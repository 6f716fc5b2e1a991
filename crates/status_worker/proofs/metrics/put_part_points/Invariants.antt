use Rattle.std.proofs.Common.{◌≡◌, ◌++◌, take}
use Rattle.std.specs.List.{flat_map}
use Rattle.status_worker.specs.Metrics.{member_points}
use Rattle.status_worker.proofs.metrics.put_part_points.Given as goal

abbrev pub invariant-loop-row : goal.invariant-loop-row
invariant-loop-row l = l.out ≡ l.fn.out ++ flat_map (member_points l.metric l.part.name) (take l.row-index l.rows)
