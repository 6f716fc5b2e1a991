-- The desk has that one pass.
use Rattle.std.proofs.Common.{◌∙◌, List, [], ◌∷◌, ◌++◌, ap, sym}
use Rattle.lb_passes.specs.declared.pass.Pass.{Pass}
use Rattle.lb_passes.proofs.PlacedLaws.{new_placed, new_waiting, one_desk}
use Rattle.lb_passes.proofs.placed_desk.PlacedDesk.new.Goals as goal

pub new-desk-requires : goal.new-desk-requires
new-desk-requires g c =
    let book = c.requires.book in
    let one = c.in_ok-push.ensures.ok ∙ ap (λ (xs : List Pass). xs ++ c.args.pass ∷ []) c.new-passes.ensures in
    record { passes = one_desk _ _ book.0 c.args.pass book.1 one (c.requires.pass.back.of ∙ sym book.2) }

pub invariant_of-result : goal.invariant_of-result
invariant_of-result g c =
    let made = c.new-desk.ensures in
    let one = c.in_ok-push.ensures.ok ∙ ap (λ (xs : List Pass). xs ++ c.args.pass ∷ []) c.new-passes.ensures in
    record { placed = new_placed _ _ _ made.0 _ _ c.args.pass made.2 one made.1 c.requires.pass }

pub returns : goal.returns
returns g c =
    let made = c.new-desk.ensures in
    let one = c.in_ok-push.ensures.ok ∙ ap (λ (xs : List Pass). xs ++ c.args.pass ∷ []) c.new-passes.ensures in
    new_waiting made.0 _ _ c.args.pass made.2 one made.1
