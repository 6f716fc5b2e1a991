use Rattle.std.proofs.Common.{◌≡◌, ◌++◌, take}
use Rattle.std.specs.List.{flat_map}
use Rattle.status_worker.specs.Metrics.{balancer_point}
use Rattle.status_worker.proofs.metrics.put_balancer_points.Given as goal

abbrev pub invariant-loop-part : goal.invariant-loop-part
invariant-loop-part l = l.out ≡ l.fn.out ++ flat_map balancer_point (take l.part-index l.parts)
