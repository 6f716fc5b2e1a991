use Rattle.std.proofs.Common.{reverse, subst}
use Rattle.lb_model.specs.Choice.{IsPick}
use Rattle.lb_model.specs.declared.journal.Answer.{Answer}
use Rattle.lb_model.proofs.ChoiceLaws.{good_choice, may_be_chosen}
use Rattle.lb_model.proofs.laws.choice_is_good.Goals as goal

pub returns-clause-good : goal.returns-clause-good
returns-clause-good c = λ m t how probe chosen.
    good_choice c.args.rules c.args.opening.now (reverse c.args.past.now) c.args.ask.now m how
    (subst (λ (a : Answer). IsPick c.args.rules c.args.opening.now (reverse c.args.past.now) c.args.ask.now a) chosen c.requires).0

pub returns-clause-state : goal.returns-clause-state
returns-clause-state c = λ m t how probe chosen.
    may_be_chosen c.args.rules c.args.opening.now (reverse c.args.past.now) c.args.ask.now m how
    (subst (λ (a : Answer). IsPick c.args.rules c.args.opening.now (reverse c.args.past.now) c.args.ask.now a) chosen c.requires).0
