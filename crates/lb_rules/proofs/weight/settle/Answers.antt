use Rattle.std.proofs.Common.{arith}
use Rattle.lb_rules.specs.Kept.{settled}
use Rattle.lb_rules.proofs.IndexLaws.{settled_more}
use Rattle.lb_rules.proofs.weight.settle.Goals as goal

pub loop-one-preserved : goal.loop-one-preserved
loop-one-preserved c =
    settled_more (settled c.args.halvings) c.args.kept.now c.loop-one.kept c.loop-one.one-index _ c.settle_one.new.kept (omega arith)
    c.loop-one.invariant c.settle_one.ensures
