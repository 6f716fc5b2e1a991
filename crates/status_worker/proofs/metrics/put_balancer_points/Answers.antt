-- One more balancer's figure.
use Rattle.status_worker.specs.Metrics.{balancer_point}
use Rattle.status_worker.proofs.PutLaws.{next_put}
use Rattle.status_worker.proofs.metrics.put_balancer_points.Goals as goal

pub loop-part-preserved : goal.loop-part-preserved
loop-part-preserved c =
    next_put balancer_point c.args.out.now c.loop-part.out c.put_balancer_point.new.out c.args.parts.now c.loop-part.part-index c.part-item.result
    c.loop-part-test.true c.part-item.is c.loop-part.invariant c.in_ok-put_balancer_point.ensures
