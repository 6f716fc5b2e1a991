use Rattle.std.proofs.Common.{sym, ap, ◌∙◌}
use Rattle.lb_model.specs.States.{is_balanced}
use Rattle.lb_rules.specs.RuleNumbers.{rules_number}
use Rattle.lb_rules.specs.Picks.{home_of, serves_at, redirect_at}
use Rattle.lb_rules.proofs.PickLaws.{picked, routed_chosen, route-unbalanced, revives-other}
use Rattle.lb_rules.proofs.choice.pick.Goals as goal

pub returns-in-Some-clause-pick : goal.returns-in-Some-clause-pick
returns-in-Some-clause-pick c = λ d.
    picked (rules_number c.args.rules) c.args.rows.now d c.args.last c.args.ask.now c.args.config.now c.chosen.result.answer
    c.in-Some.how c.in-Some.member c.args.next _ c.in-Some.ensures.room.0 c.chosen.ensures.answer
    (routed_chosen (rules_number c.args.rules) c.args.config.now c.args.rows.now d c.args.last c.args.ask.now
    c.in-Some.member c.in-Some.how (sym (c.in-Some.ensures.value d)))

pub returns-in-Some-clause-revives : goal.returns-in-Some-clause-revives
returns-in-Some-clause-revives c = λ d.
    c.chosen.ensures.revives
    ∙ revives-other c.args.rows.now c.args.ask.now (rules_number c.args.rules) d c.chosen.result.answer
    (ap is_balanced c.chosen.ensures.answer
    ∙ route-unbalanced (serves_at c.args.rows.now d c.args.ask.now) (redirect_at c.args.rows.now d)
    (home_of c.args.config.now c.args.ask.now) c.in-Some.member c.args.next c.in-Some.how _ (sym (c.in-Some.ensures.value d)))
