-- The name is that of a balancer that is there.
use Rattle.std.proofs.Common.{Some, ap, sym, ◌∙◌}
use Rattle.status_worker.proofs.PlaceLaws.{names_balancer}
use Rattle.status_worker.proofs.asking.named_balancer.Goals as goal

pub returns-in-Some-Balancer-clause-ok : goal.returns-in-Some-Balancer-clause-ok
returns-in-Some-Balancer-clause-ok c =
    names_balancer c.args.cfg.now c.args.command.now c.in-Some.name.now c.in-Some-Balancer.lb c.args.cfg.now.placed (sym c.in-Some.ensures)
    (rw c.as_slice.ensures at (sym c.in-Some-Balancer.ensures ∙ ap Some c.in-Some-Balancer.field-0-is))
