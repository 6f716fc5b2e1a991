use Rattle.std.proofs.Common.{◌≡◌, ℕ, Option, subst, sym}
use Rattle.drill.specs.Progress.{IsSoFar}
use Rattle.drill.proofs.AnsweredLaws.{open_is, whole_is}
use Rattle.std.proofs.lemmas.Bool.{eq-eqb}
use Rattle.drill.proofs.answered.Progress.is_done.Goals as goal

pub returns-in-Some-clause-no : goal.returns-in-Some-clause-no
returns-in-Some-clause-no c none xs so all =
    open_is xs c.args.self.whole c.in-Some.field-0 c.args.requests (subst (λ (o : Option ℕ). IsSoFar xs c.args.self.whole o) c.in-Some.is so) all

pub returns-in-None-clause-no : goal.returns-in-None-clause-no
returns-in-None-clause-no c other xs so all =
    let same = whole_is xs c.args.self.whole c.args.requests (subst (λ (o : Option ℕ). IsSoFar xs c.args.self.whole o) c.in-None.is so) all in
    let whole = subst (λ (n : ℕ). c.args.self.whole ≡ n) (sym c.from.ensures) same in
    let equal = eq-eqb c.args.self.whole c.from.result whole in cc
