-- The seat with all numbers is told the whole history.
use Rattle.std.proofs.Common.{◌≡◌, ◌∙◌, ◌++◌, ◌∷◌, [], List, rules, sym, subst}
use Rattle.lb_passes.specs.Closing.{HasGathered}
use Rattle.lb_passes.specs.declared.pass.Pass.{Pass}
use Rattle.lb_passes.proofs.CloseLaws.{closes}
use Rattle.lb_passes.proofs.closing.close_passes.Goals as goal

pub returns-clause-closed : goal.returns-clause-closed
returns-clause-closed c =
    let popped : c.into_vec-list.result.items ≡ c.pop.new.self.items ++ c.in-Some.last ∷ [] = search rules in
    let had = subst (λ (xs : List Pass). HasGathered c.args.book.table.shared.table_id xs c.gather-all.result) (sym popped ∙ c.into_vec-list.ensures) c.gather-all.ensures in
    closes _ c.args.passes c.gather-all.result _ _ _ c.take-book.result c.requires.all had c.close_with-closed.ensures.values.2 c.take-book.ensures.value
