-- A balancer's secret, given to one member after another.
use Rattle.std.proofs.Common.{◌≡◌, ◌+◌, ◌<◌, ℕ, zero, suc, List, [], ◌∷◌, ◌++◌, length, take, drop, map, get_or, slice_set, ap, arith}

-- one member more
more_so : {A : Type 0} → (f : A → A) (xs : List A) (i : ℕ) (d y : A) → i < length xs → y ≡ f (get_or (map f (take i xs) ++ drop i xs) i d)
    → slice_set (map f (take i xs) ++ drop i xs) i y ≡ map f (take (suc i) xs) ++ drop (suc i) xs
more_so f [] i d y h e = absurd (omega (arith, h))
more_so f (x ∷ xs) zero d y h e = ap (λ z. z ∷ xs) e
more_so f (x ∷ xs) (suc i) d y h e = ap (λ rest. f x ∷ rest) (more_so f xs i d y (omega (arith, h)) e)

pub shared_more : {A : Type 0} → (f : A → A) (xs now : List A) (i : ℕ) (d y : A) → i < length xs → now ≡ map f (take i xs) ++ drop i xs → y ≡ f (get_or now i d)
    → slice_set now i y ≡ map f (take (i + 1) xs) ++ drop (i + 1) xs
shared_more f xs now i d y h same e =
    let next : i + 1 ≡ suc i = omega arith in
    rw (same, next) (more_so f xs i d y h (rw same at e))
