-- Without the last pair that is this.
use Rattle.std.proofs.Common.{ℕ, List, sym, ◌∙◌, subst, ap, add-one, ◌++◌, take, drop}
use Rattle.std.specs.Prelude.{Some, None}
use Rattle.lb_shared.specs.SharedDesks.{IsLastPlace}
use Rattle.lb_shared.proofs.SharedLaws.{without_last-at, without_last-none}
use Rattle.lb_shared.proofs.stake.take_last.Goals as goal

pub returns-in-Some-clause-held : goal.returns-in-Some-clause-held
returns-in-Some-clause-held c =
    let is = subst (λ (xs : List (ℕ × ℕ)). IsLastPlace xs c.args.pair (Some c.in-Some.place)) c.as_slice.ensures.value c.in-Some.ensures in
    c.remove.ensures.by_index.2
    ∙ ap (λ (n : ℕ). take c.in-Some.place c.args.held.now.items ++ drop n c.args.held.now.items) (add-one c.in-Some.place)
    ∙ sym (without_last-at c.args.held.now.items c.args.pair (0, 0) c.in-Some.place is.0 is.1 is.2)

pub returns-in-None-clause-held : goal.returns-in-None-clause-held
returns-in-None-clause-held c =
    let is = subst (λ (xs : List (ℕ × ℕ)). IsLastPlace xs c.args.pair None) c.as_slice.ensures.value c.in-None.ensures in
    sym (without_last-none c.args.held.now.items c.args.pair is)
