-- The head, and the figures behind it.
use Rattle.std.proofs.Common.{codes}
use Rattle.std.specs.List.{flat_map}
use Rattle.status_worker.specs.Metrics.{balancer_point, family_head}
use Rattle.status_worker.proofs.PutLaws.{put_two}
use Rattle.status_worker.proofs.metrics.put_balancer_family.Goals as goal

pub returns : goal.returns
returns c =
    put_two c.put_balancer_points.result c.args.out.now c.put_family_head.new.out c.put_balancer_points.new.out
    (family_head (codes "jkd_balancer_entries_total") (codes "Entries of the balancer's journal.") (codes "counter"))
    (flat_map balancer_point c.args.parts.now) c.in_ok-put_family_head.ensures c.put_balancer_points.ensures
