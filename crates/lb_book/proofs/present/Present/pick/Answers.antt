use Rattle.lb_rules.specs.RuleNumbers.{rules_number}
use Rattle.lb_book.proofs.ChoiceLaws.{nobody, pick_now}
use Rattle.lb_book.proofs.present.Present.pick.Goals as goal

pub returns-clause-pick : goal.returns-clause-pick
returns-clause-pick c = λ p h number.
    pick_now (rules_number c.args.rules) c.args.opening.now p c.args.self.now h c.args.ask.now nobody c.args.next
    c.pick.result.answer number (rw c.as_slice-rows.ensures.value at c.pick.ensures.room)
    (rw c.as_slice-rows.ensures.value at (c.pick.ensures.pick nobody))
