-- The families, one after the other.
use Rattle.status_worker.specs.Metrics.{balancer_family, member_family}
use Rattle.status_worker.specs.declared.metrics.Metric.TheVariants as metric
use Rattle.status_worker.proofs.PutLaws.{put_seven}
use Rattle.status_worker.proofs.metrics.put_metrics_page.Goals as goal

pub returns : goal.returns
returns c =
    put_seven c.put_family-6.result c.args.out.now c.put_balancer_family.new.out c.put_family.new.out c.put_family-2.new.out c.put_family-3.new.out
    c.put_family-4.new.out c.put_family-5.new.out c.put_family-6.new.out
    (balancer_family c.args.parts.now) (member_family metric.Busy c.args.parts.now) (member_family metric.Load c.args.parts.now)
    (member_family metric.Factor c.args.parts.now) (member_family metric.Distance c.args.parts.now) (member_family metric.State c.args.parts.now)
    (member_family metric.Activation c.args.parts.now)
    c.in_ok-put_balancer_family.ensures c.in_ok-put_family.ensures c.in_ok-put_family-2.ensures c.in_ok-put_family-3.ensures
    c.in_ok-put_family-4.ensures c.in_ok-put_family-5.ensures c.put_family-6.ensures
