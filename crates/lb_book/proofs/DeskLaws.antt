-- A ticket that was held last is held no more once it came back.
use Rattle.std.proofs.Common.{◌≡◌, ℕ, true, List, [], ◌∷◌, ◌++◌, refl, ap, ◌∙◌, inl, inr}
use Rattle.std.proofs.lemmas.Bool.{cases_Bool, eq-eqb}
use Rattle.lb_book.specs.Desks.{holds, is_pair, without_last}

pub is_pair-same : (p : ℕ × ℕ) → is_pair p p ≡ true
is_pair-same p = rw (eq-eqb p.0 p.0 refl, eq-eqb p.1 p.1 refl) refl

pub holds-last : (xs : List (ℕ × ℕ)) (p : ℕ × ℕ) → holds (xs ++ p ∷ []) p ≡ true
holds-last [] p = rw (is_pair-same p) refl
holds-last (x ∷ xs) p =
    elim (cases_Bool (is_pair p x)) [
      | inl this ↦ rw this refl
      | inr other ↦ rw other (holds-last xs p)
    ]

-- The ticket that a choice made is held.
pub held_made : (held mid : List (ℕ × ℕ)) (p q : ℕ × ℕ) → mid ≡ held ++ p ∷ [] → q ≡ p → holds mid q ≡ true
held_made held mid p q made same = rw (made, same) (holds-last held p)

pub without_last-snoc : (xs : List (ℕ × ℕ)) (p : ℕ × ℕ) → without_last (xs ++ p ∷ []) p ≡ xs
without_last-snoc [] p = rw (is_pair-same p) refl
without_last-snoc (x ∷ xs) p =
    let later : holds (xs ++ p ∷ []) p ≡ true = holds-last xs p in
    let rest : x ∷ without_last (xs ++ p ∷ []) p ≡ x ∷ xs = ap (λ (ys : List (ℕ × ℕ)). x ∷ ys) (without_last-snoc xs p) in
    elim (cases_Bool (is_pair p x)) [
      | inl this ↦ rw (later, this) rest
      | inr other ↦ rw (later, other) rest
    ]

pub held_again : (held mid after : List (ℕ × ℕ)) (p q : ℕ × ℕ) → mid ≡ held ++ p ∷ [] → q ≡ p → after ≡ without_last mid q → after ≡ held
held_again held mid after p q made same back = back ∙ rw (made, same) (without_last-snoc held p)
