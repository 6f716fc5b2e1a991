use Rattle.std.proofs.Common.{◌≡◌, ℕ, List, [], ◌∷◌, ◌++◌, Option, Some, None, IfSome, sym, subst}
use Rattle.lb_model.specs.declared.journal.Entry.{Entry}
use Rattle.drill.specs.Drills.{entries_of}
use Rattle.drill.specs.Progress.{IsSoFar}
use Rattle.drill.specs.declared.answered.Progress.{Progress}
use Rattle.drill.proofs.AnsweredLaws.{one_more}
use Rattle.drill.proofs.answered.Progress.seen.Goals as goal

seen_more : (t whole : ℕ) (ticket : Option ℕ) (e : Entry) (r : Option Progress) → e.session ≡ t
    → IfSome r (λ p. (xs : List Entry) → IsSoFar xs whole ticket → IsSoFar (xs ++ e ∷ []) p.whole p.ticket)
    → IfSome r (λ p. (xs : List Entry) → IsSoFar (entries_of t xs) whole ticket → IsSoFar (entries_of t (xs ++ e ∷ [])) p.whole p.ticket)
seen_more t whole ticket e None is more = tt
seen_more t whole ticket e (Some p) is more =
    λ xs so. subst (λ (ys : List Entry). IsSoFar ys p.whole p.ticket) (sym (one_more t xs e is)) (more (entries_of t xs) so)

pub returns-then-entry-thread-clause-some : goal.returns-then-entry-thread-clause-some
returns-then-entry-thread-clause-some c = seen_more _ _ _ _ _ c.if-entry-thread.true c.after.ensures.some
