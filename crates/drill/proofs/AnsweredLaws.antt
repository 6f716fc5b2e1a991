-- Entries of requests that were answered whole, read from the front.
use Rattle.std.proofs.Common.{◌≡◌, ℕ, zero, suc, ◌+◌, ◌==◌, Bool, cond, List, [], ◌∷◌, ◌++◌, Some, None, sym, subst, ap, ◌∙◌, add-one, arith, append_assoc, append-nil}
use Rattle.std.proofs.lemmas.Bool.{eq-eqb}
use Rattle.std.proofs.lemmas.List.Elements.{filter-append}
use Rattle.lb_model.specs.declared.journal.Answer.TheVariants as answer
use Rattle.lb_model.specs.declared.journal.Entry.{Entry}
use Rattle.drill.specs.Drills.{AreAnswered, Chose, GaveBack, IsAnsweredWhole, entries_of}
use Rattle.drill.specs.Progress.{IsSoFar}

-- one more request was answered
grown : (k : ℕ) (xs : List Entry) (s r : Entry) → AreAnswered k xs → IsAnsweredWhole s r → AreAnswered (suc k) (xs ++ s ∷ r ∷ [])
grown zero [] s r all one = (one, tt)
grown zero (x ∷ xs) s r all one = absurd all
grown (suc k) [] s r all one = absurd all
grown (suc k) (x ∷ []) s r all one = absurd all
grown (suc k) (x ∷ y ∷ xs) s r all one = (all.0, grown k xs s r all.1 one)

-- what follows requests that were answered is those of the others
record LeftOver (k n : ℕ) (ys : List Entry) : Type 0 where
  m : ℕ
  is : n ≡ k + m
  rest : AreAnswered m ys

left_over : (k n : ℕ) (xs ys : List Entry) → AreAnswered k xs → AreAnswered n (xs ++ ys) → LeftOver k n ys
left_over zero n [] ys all more = record { m = n; is = omega arith; rest = more }
left_over zero n (x ∷ xs) ys all more = absurd all
left_over (suc k) n [] ys all more = absurd all
left_over (suc k) n (x ∷ []) ys all more = absurd all
left_over (suc k) zero (x ∷ y ∷ xs) ys all more = absurd more
left_over (suc k) (suc n) (x ∷ y ∷ xs) ys all more =
    let on = left_over k n xs ys all.1 more.1 in
    let is = on.is in
    record { m = on.m; is = omega (arith, is); rest = on.rest }

-- an entry makes one ticket
one_ticket : (t u : ℕ) (e : Entry) → Chose t e → Chose u e → t ≡ u
one_ticket t u e one other =
    let same : answer.Chosen one.member t one.how one.probe ≡ answer.Chosen other.member u other.how other.probe = sym one.chose ∙ other.chose in
    cc

-- the next entry gives its ticket back
pub back_next : (xs : List Entry) (e : Entry) (whole ticket : ℕ) → IsSoFar xs whole (Some ticket) → GaveBack ticket e → IsSoFar (xs ++ e ∷ []) (whole + 1) None
back_next xs e whole ticket (before, select, all, chose, is) back =
    let more = grown whole before select e all (record { ticket = ticket; chose = chose; gave_back = back }) in
    subst (λ (k : ℕ). AreAnswered k (xs ++ e ∷ [])) (sym (add-one whole))
    (subst (λ (ys : List Entry). AreAnswered (suc whole) ys)
    (sym (append_assoc before (select ∷ []) (e ∷ [])) ∙ ap (λ (ys : List Entry). ys ++ e ∷ []) (sym is)) more)

-- ---- an entry that no request has there

pub none_chosen : (xs ys : List Entry) (e : Entry) (whole n : ℕ) → IsSoFar xs whole None → ((ticket : ℕ) → Chose ticket e → ⊥)
    → AreAnswered n (xs ++ e ∷ ys) → ⊥
none_chosen xs ys e whole n so none all =
    let on = left_over whole n xs (e ∷ ys) so all in begun on.m ys on.rest
  where
    begun : (m : ℕ) (ys : List Entry) → AreAnswered m (e ∷ ys) → ⊥
    begun zero ys a = a
    begun (suc m) [] a = a
    begun (suc m) (y ∷ ys) a = none a.0.ticket a.0.chose

pub none_back : (xs ys : List Entry) (e : Entry) (whole ticket n : ℕ) → IsSoFar xs whole (Some ticket) → (GaveBack ticket e → ⊥)
    → AreAnswered n (xs ++ e ∷ ys) → ⊥
none_back xs ys e whole ticket n (before, select, all, chose, is) none answered =
    let here : AreAnswered n (before ++ select ∷ e ∷ ys) =
    subst (AreAnswered n) (ap (λ (zs : List Entry). zs ++ e ∷ ys) is ∙ append_assoc before (select ∷ []) (e ∷ ys)) answered in
    let on = left_over whole n before (select ∷ e ∷ ys) all here in begun on.m on.rest
  where
    begun : (m : ℕ) → AreAnswered m (select ∷ e ∷ ys) → ⊥
    begun zero a = a
    begun (suc m) a = none (subst (λ (t : ℕ). GaveBack t e) (one_ticket a.0.ticket ticket select a.0.chose chose) a.0.gave_back)

-- ---- the end

pub whole_is : (xs : List Entry) (whole n : ℕ) → IsSoFar xs whole None → AreAnswered n xs → whole ≡ n
whole_is xs whole n so all =
    let on = left_over whole n xs [] so (subst (AreAnswered n) (sym (append-nil xs)) all) in none on.m on.is on.rest
  where
    none : (m : ℕ) → n ≡ whole + m → AreAnswered m [] → whole ≡ n
    none zero is a = omega (arith, is)
    none (suc m) is a = absurd a

pub open_is : (xs : List Entry) (whole ticket n : ℕ) → IsSoFar xs whole (Some ticket) → AreAnswered n xs → ⊥
open_is xs whole ticket n (before, select, all, chose, is) answered =
    let on = left_over whole n before (select ∷ []) all (subst (AreAnswered n) is answered) in begun on.m on.rest
  where
    begun : (m : ℕ) → AreAnswered m (select ∷ []) → ⊥
    begun zero a = a
    begun (suc m) a = a

-- ---- a thread's entries among all

pub one_more : (t : ℕ) (xs : List Entry) (e : Entry) → e.session ≡ t → entries_of t (xs ++ e ∷ []) ≡ entries_of t xs ++ e ∷ []
one_more t xs e is =
    filter-append (λ (x : Entry). x.session == t) xs (e ∷ [])
    ∙ ap (λ (b : Bool). entries_of t xs ++ cond b (e ∷ []) []) (eq-eqb e.session t is)
