use Rattle.std.proofs.Common.{ℕ, List, [], ◌∷◌, ◌++◌, Option, IfSome, sym, subst}
use Rattle.lb_model.specs.declared.journal.Entry.{Entry}
use Rattle.drill.specs.Progress.{IsSoFar}
use Rattle.drill.proofs.answered.Progress.after.Goals as goal

pub returns-in-Some-clause-some : goal.returns-in-Some-clause-some
returns-in-Some-clause-some c =
    subst
    (λ (o : Option ℕ). IfSome c.ended.result (λ p. (xs : List Entry) → IsSoFar xs c.args.self.whole o → IsSoFar (xs ++ c.args.entry ∷ []) p.whole p.ticket))
    (sym c.in-Some.is) c.ended.ensures.some
