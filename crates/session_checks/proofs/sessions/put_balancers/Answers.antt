-- The desk has a size for each balancer.
use Rattle.std.proofs.Common.{List, length, ap, ◌∙◌, arith}
use Rattle.site_config.specs.declared.balancer.Lb.{Lb}
use Rattle.exchange.proofs.SizeLaws.{within_sizes}
use Rattle.session_checks.proofs.sessions.put_balancers.Goals as goal

pub put_balancer-requires : goal.put_balancer-requires
put_balancer-requires c =
    within_sizes _ c.args.case.now.config.now.lbs _ (ap (λ d. d.sizes) c.loop-lb.invariant.same ∙ c.requires)
    (omega (arith, c.loop-lb-test.true, c.loop-lb.invariant.place, ap (λ (ls : List Lb). length ls) c.as_slice-lb-items.ensures))
