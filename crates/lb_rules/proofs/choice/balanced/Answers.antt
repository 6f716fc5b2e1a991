use Rattle.std.proofs.Common.{refl, ap, ◌∙◌, length, Some}
use Rattle.lb_model.specs.Choice.{begin_after}
use Rattle.lb_model.specs.States.{is_balanced}
use Rattle.lb_model.specs.declared.journal.Answer.TheVariants as answer
use Rattle.lb_model.specs.declared.journal.How.TheVariants as How
use Rattle.lb_rules.specs.declared.among.Among.TheVariants as Among
use Rattle.lb_rules.specs.Least.{IsLeastRow, IsRevivalOf}
use Rattle.lb_rules.specs.RuleNumbers.{rules_number}
use Rattle.lb_rules.proofs.PickLaws.{least_usable, least_revivable, none_candidate, picked, revives-usable, revives-balanced, revives-other}
use Rattle.lb_rules.proofs.PlaceLaws.{chosen_room, least_room}
use Rattle.lb_rules.proofs.choice.balanced.Goals as goal

pub returns-in-Some-clause-pick : goal.returns-in-Some-clause-pick
returns-in-Some-clause-pick c = λ config d open'.
    let first : IsLeastRow Among.Usable c.args.rows.now c.args.ask.now (begin_after c.args.last) (length c.args.rows.now) c.in-Some.member =
    rw c.begin_after-begin.ensures at c.in-Some.ensures.value in
    picked (rules_number c.args.rules) c.args.rows.now d c.args.last c.args.ask.now config c.chosen.result.answer How.Balanced
    c.in-Some.member c.args.next _ first.within c.chosen.ensures.answer
    (open', least_usable (rules_number c.args.rules) c.args.rows.now d c.args.last c.args.ask.now c.in-Some.member first)

pub returns-in-Some-clause-revives : goal.returns-in-Some-clause-revives
returns-in-Some-clause-revives c = λ d.
    c.chosen.ensures.revives
    ∙ revives-usable c.args.rows.now c.args.ask.now (rules_number c.args.rules) _ c.in-Some.member d c.chosen.result.answer
    c.in-Some.ensures.value

pub returns-in-Some-least_revivable-clause-pick : goal.returns-in-Some-least_revivable-clause-pick
returns-in-Some-least_revivable-clause-pick c = λ config d open'.
    let revival : IsRevivalOf (rules_number c.args.rules) c.args.rows.now c.args.ask.now (begin_after c.args.last)
    (Some c.in-Some-least_revivable.member) =
    rw c.begin_after-begin.ensures at c.in-Some-least_revivable.ensures in
    picked (rules_number c.args.rules) c.args.rows.now d c.args.last c.args.ask.now config
    c.chosen-in-Some-least_revivable.result.answer How.Balanced c.in-Some-least_revivable.member c.args.next _ revival.1.within
    c.chosen-in-Some-least_revivable.ensures.answer (
      open',
      least_revivable (rules_number c.args.rules) c.args.rows.now d c.args.last c.args.ask.now revival.0
          c.in-Some-least_revivable.member c.in_default.ensures.value revival.1,
    )

pub returns-in-Some-least_revivable-clause-revives : goal.returns-in-Some-least_revivable-clause-revives
returns-in-Some-least_revivable-clause-revives c = λ d.
    c.chosen-in-Some-least_revivable.ensures.revives
    ∙ revives-balanced c.args.rows.now c.args.ask.now (rules_number c.args.rules) d c.chosen-in-Some-least_revivable.result.answer
    (ap is_balanced c.chosen-in-Some-least_revivable.ensures.answer) c.in-Some-least_revivable.ensures.0 c.in_default.ensures.value

pub returns-in-None-clause-pick : goal.returns-in-None-clause-pick
returns-in-None-clause-pick c = λ config d open'. (
  open',
  none_candidate (rules_number c.args.rules) c.args.rows.now d c.args.last c.args.ask.now c.in_default.ensures.value
      c.in-None.ensures,
)

pub returns-in-Some-clause-room : goal.returns-in-Some-clause-room
returns-in-Some-clause-room c =
    chosen_room c.args.rows.now c.chosen.result.answer c.in-Some.member c.args.next How.Balanced _ c.chosen.ensures.answer
    (least_room Among.Usable c.args.rows.now c.args.ask.now _ c.in-Some.member c.in-Some.ensures.value)

pub returns-in-Some-least_revivable-clause-room : goal.returns-in-Some-least_revivable-clause-room
returns-in-Some-least_revivable-clause-room c =
    chosen_room c.args.rows.now c.chosen-in-Some-least_revivable.result.answer c.in-Some-least_revivable.member c.args.next How.Balanced _
    c.chosen-in-Some-least_revivable.ensures.answer
    (least_room Among.Revivable c.args.rows.now c.args.ask.now _ c.in-Some-least_revivable.member c.in-Some-least_revivable.ensures.1)

pub returns-in-None-clause-revives : goal.returns-in-None-clause-revives
returns-in-None-clause-revives c = λ d.
    revives-other c.args.rows.now c.args.ask.now (rules_number c.args.rules) d answer.NoMember refl
