-- The five pieces of the line on a balancer, one after the other.
use Rattle.std.proofs.Common.{ℕ, List, ◌++◌, codes, ap, ◌∙◌}
use Rattle.std.specs.Fmt.{decimal}
use Rattle.status_worker.specs.Metrics.{label_pair}
use Rattle.status_worker.proofs.PutLaws.{put_five}
use Rattle.status_worker.proofs.metrics.put_balancer_point.Goals as goal

pub returns : goal.returns
returns c =
    put_five c.extend-3.result c.args.out.now c.extend.new.self c.put_pair.new.out c.extend-2.new.self c.put_decimal.new.out c.extend-3.new.self
    (codes "jkd_balancer_entries_total") (label_pair (codes "{balancer") c.args.part.now.name) (codes "} ") (decimal c.args.part.now.view.next)
    (codes "\n")
    c.in_ok-extend.ensures.ok
    (c.in_ok-put_pair.ensures ∙ ap (λ (t : List ℕ). c.extend.new.self ++ label_pair (codes "{balancer") t) c.as_slice.ensures)
    c.in_ok-extend-2.ensures.ok
    (c.in_ok-put_decimal.ensures.ok ∙ ap (λ (n : ℕ). c.extend-2.new.self ++ decimal n) c.from.ensures) c.extend-3.ensures.ok
