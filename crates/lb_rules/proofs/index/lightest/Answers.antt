use Rattle.std.proofs.Common.{◌≡◌, ℕ, length, arith, subst}
use Rattle.lb_rules.specs.Kept.{weights_now}
use Rattle.lb_rules.specs.Weights.{IsLightest}
use Rattle.lb_rules.proofs.index.lightest.Goals as goal

pub returns : goal.returns
returns c = λ d.
    let all : c.loop-i.i ≡ length c.args.kept.now = omega (arith, c.loop-i-test.false, c.loop-i.auto.i-end) in
    subst (λ (n : ℕ). IsLightest (weights_now c.args.halvings c.args.kept.now) d c.args.set c.args.begin n c.loop-i.best) all
    (c.loop-i.invariant d)
