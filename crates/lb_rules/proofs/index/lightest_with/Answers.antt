use Rattle.std.proofs.Common.{sym, ◌∙◌}
use Rattle.lb_rules.proofs.IndexLaws.{best_within, lightest_keep, lightest_skip, lightest_take}
use Rattle.lb_rules.specs.Kept.{weights_now}
use Rattle.lb_rules.proofs.index.lightest_with.Goals as goal

pub lightens-requires-clause-best : goal.lightens-requires-clause-best
lightens-requires-clause-best c =
    best_within (weights_now c.args.halvings c.args.kept.now) (record { distance = 0; load = 0 }) c.args.set c.args.begin c.args.i
    _ c.args.best (c.requires.best _) c.requires.within

pub returns-then-not-is_in : goal.returns-then-not-is_in
returns-then-not-is_in c = λ d.
    lightest_skip (weights_now c.args.halvings c.args.kept.now) d c.args.set c.args.begin c.args.i c.args.best
    (c.requires.best d) (sym c.is_in.ensures ∙ c.if-not-is_in.true)

pub returns-then-lightens : goal.returns-then-lightens
returns-then-lightens c = λ d.
    lightest_take (weights_now c.args.halvings c.args.kept.now) d c.args.set c.args.begin c.args.i c.args.best
    (c.requires.best d) (sym c.is_in.ensures ∙ c.if-not-is_in.false) (sym (c.lightens.ensures d) ∙ c.if-lightens.true)

pub returns-else-lightens : goal.returns-else-lightens
returns-else-lightens c = λ d.
    lightest_keep (weights_now c.args.halvings c.args.kept.now) d c.args.set c.args.begin c.args.i c.args.best
    (c.requires.best d) (sym (c.lightens.ensures d) ∙ c.if-lightens.false)
