use Rattle.std.proofs.Common.{◌≡◌, ℕ, ◌<◌, length, get_or, ◌∙◌, ap, arith}
use Rattle.std.proofs.lemmas.List.{get_or_default}
use Rattle.lb_model.specs.Loads.{greatest, halved}
use Rattle.lb_rules.specs.declared.standing.Standing.{Standing}
use Rattle.lb_book.proofs.CallLaws.{greatest-more}
use Rattle.lb_book.proofs.maintenance.greatest_halved.Goals as goal

pub loop-i-preserved : goal.loop-i-preserved
loop-i-preserved c = λ d.
    let within : c.loop-i.i < length c.args.rows.now = omega arith in
    greatest-more _ _ _ _ _ (c.loop-i.invariant d) c.max-most.ensures
    (c.halve.ensures.value ∙ ap (λ (r : Standing). halved r.load c.args.times) (get_or_default c.args.rows.now c.loop-i.i _ d within))

pub returns : goal.returns
returns c = λ d.
    let end : c.loop-i.i ≡ length c.args.rows.now = omega arith in
    c.loop-i.invariant d ∙ ap (λ (n : ℕ). greatest n (λ j. halved (get_or c.args.rows.now j d).load c.args.times)) end
