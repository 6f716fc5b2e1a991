use Rattle.std.proofs.Common.{sym, ◌∙◌}
use Rattle.lb_rules.proofs.LeastLaws.{least_skip, least_keep, least_take}
use Rattle.lb_rules.proofs.least.least_with.Goals as goal

pub returns-then-not-passes : goal.returns-then-not-passes
returns-then-not-passes c =
    least_skip _ _ _ _ _ c.requires.within _ c.requires.best _ (sym c.passes.ensures ∙ c.if-not-passes.true)

pub returns-then-improves : goal.returns-then-improves
returns-then-improves c =
    least_take _ _ _ _ _ c.requires.within _ c.requires.best _ (sym c.passes.ensures ∙ c.if-not-passes.false)
    (λ d. sym (c.improves.ensures d) ∙ c.if-improves.true)

pub returns-else-improves : goal.returns-else-improves
returns-else-improves c =
    least_keep _ _ _ _ _ c.requires.within _ c.requires.best (λ d. sym (c.improves.ensures d) ∙ c.if-improves.false)
