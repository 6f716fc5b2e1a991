use Rattle.std.proofs.Common.{List, length, subst}
use Rattle.lb_model.specs.Choice.{begin_after}
use Rattle.lb_rules.proofs.IndexLaws.{least_of}
use Rattle.lb_rules.specs.Kept.{weights_now}
use Rattle.lb_rules.specs.Weights.{IsLeastOfSet, IsLightest}
use Rattle.lb_rules.specs.declared.weight.Weight.{Weight}
use Rattle.lb_rules.proofs.index.Index.least.Goals as goal

pub returns : goal.returns
returns c = λ d.
    let raw = c.lightest.ensures d in
    let found : IsLightest (weights_now c.self.inside.halvings c.self.inside.kept.items) d c.args.set (begin_after c.args.after)
    (length c.self.inside.kept.items) c.lightest.result =
    rw (c.as_slice.ensures.value, c.begin_after.ensures) at raw in
    subst (λ (weights : List Weight). IsLeastOfSet weights d c.args.set c.args.after c.lightest.result) c.self.view_is
    (least_of c.self.inside.kept.items c.self.inside.halvings d c.args.set c.args.after c.lightest.result found)
