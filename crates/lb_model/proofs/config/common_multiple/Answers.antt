use Rattle.std.proofs.Common.{ℕ, ◌<◌, List, All, sym, subst}
use Rattle.lb_model.proofs.MemberFacts.{factors_above}
use Rattle.lb_model.proofs.config.common_multiple.Goals as goal

pub lcm_of-requires : goal.lcm_of-requires
lcm_of-requires c =
    subst (λ (xs : List ℕ). All (λ f. 0 < f) xs) (sym c.put_factors.ensures.front)
    (factors_above c.args.members.now c.requires.in_range)
