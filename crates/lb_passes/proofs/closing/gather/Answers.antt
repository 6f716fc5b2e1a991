-- One pass after the other is joined.
use Rattle.std.proofs.Common.{◌≡◌, ◌∙◌, ◌++◌, ◌∷◌, [], List, append_assoc, ap, length, refl, rules, sym, subst}
use mathlib.Core.Option.{some}
use lib.ListN.{get_elem?}
use Rattle.atomic_table.proofs.Lists.{at_last, at_longer}
use Rattle.lb_passes.specs.declared.pass.Pass.{Pass}
use Rattle.lb_passes.proofs.CloseLaws.{gathered_more, gathered_one}
use Rattle.lb_passes.proofs.closing.gather.Goals as goal

pub loop-pass-init : goal.loop-pass-init
loop-pass-init c = (
  c.args.last ∷ [],
  refl,
  gathered_one _ c.args.last c.args.last.seat (c.requires.of (length c.args.list.items) c.args.last (at_last c.args.list.items c.args.last (length c.args.list.items) refl)) refl,
)

pub join_pass-seat-requires-clause-pass : goal.join_pass-seat-requires-clause-pass
join_pass-seat-requires-clause-pass c =
    let i = c.loop-pass.invariant in
    let popped : c.loop-pass.list.items ≡ c.pop.new.self.items ++ c.in-Some.pass ∷ [] = search rules in
    let xs = c.pop.new.self.items in
    let whole = i.1 ∙ ap (λ (ys : List Pass). ys ++ i.0) popped in
    c.requires.of (length xs) c.in-Some.pass
    (subst (λ (ys : List Pass). get_elem? ys (length xs) ≡ some c.in-Some.pass) (sym whole)
    (at_longer (xs ++ c.in-Some.pass ∷ []) i.0 (length xs) c.in-Some.pass (at_last xs c.in-Some.pass (length xs) refl)))

pub loop-pass-preserved : goal.loop-pass-preserved
loop-pass-preserved c =
    let i = c.loop-pass.invariant in
    let popped : c.loop-pass.list.items ≡ c.pop.new.self.items ++ c.in-Some.pass ∷ [] = search rules in
    let e = c.join_pass-seat.ensures in (
      c.in-Some.pass ∷ i.0,
      i.1 ∙ ap (λ (ys : List Pass). ys ++ i.0) popped ∙ append_assoc c.pop.new.self.items (c.in-Some.pass ∷ []) i.0,
      gathered_more _ i.0 c.in-Some.pass c.loop-pass.seat c.join_pass-seat.result i.2 e.of e.first e.other,
    )
