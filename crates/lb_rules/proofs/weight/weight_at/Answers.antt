use Rattle.std.proofs.Common.{sym, ◌∙◌}
use Rattle.lb_rules.proofs.IndexLaws.{weight_read}
use Rattle.lb_rules.proofs.weight.weight_at.Goals as goal

pub returns : goal.returns
returns c = λ d. c.weight_now.ensures ∙ sym (weight_read c.args.kept.now c.args.halvings c.args.i d _ c.requires)
