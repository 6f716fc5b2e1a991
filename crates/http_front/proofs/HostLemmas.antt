-- The last colon of a host.
use Rattle.std.proofs.Common.{◌≡◌, ℕ, zero, suc, ◌+◌, ◌<◌, ◌==◌, true, false, List, [], ◌∷◌, ◌++◌, length, take, drop, get_or, Some, None, ap, ◌∙◌, arith, eq-eqb, ne_eqb}
use Rattle.std.proofs.lemmas.Bool.{and_from, and_left, and_right, or_left, or_right, cond-true, cond-false, not_from_true, not_from_false}
use Rattle.std.proofs.lemmas.List.{at_drop_more}
use Rattle.std.specs.List.{list_any}
use Rattle.http_front.specs.Host.{split_port, split_or}

-- a colon here, after which nothing splits
pub split-here : (xs : List ℕ) (i : ℕ) → i < length xs → get_or xs i 0 ≡ 58 → split_port (drop (i + 1) xs) ≡ None → list_any (λ c. c == 93) (drop (i + 1) xs) ≡ false → split_port (drop i xs) ≡ Some ([], drop (i + 1) xs)
split-here xs i within is none open_end =
    at_drop_more split_port xs i 0 within
    ∙ ap (split_or (get_or xs i 0) (drop (i + 1) xs)) none
    ∙ cond-true _ _ _ (and_from _ _ (eq-eqb _ _ is) (not_from_false _ open_end))

-- what splits a later part splits the whole
pub split-front : (xs : List ℕ) (i : ℕ) (name port : List ℕ) → split_port (drop i xs) ≡ Some (name, port) → split_port xs ≡ Some (take i xs ++ name, port)
split-front xs zero name port e = e
split-front [] (suc i) name port e = cc
split-front (x ∷ xs) (suc i) name port e = ap (split_or x xs) (split-front xs i name port e)

-- a bracket further on, and nothing that splits after it
pub none-front : (xs : List ℕ) (i : ℕ) → split_port (drop i xs) ≡ None → list_any (λ c. c == 93) (drop i xs) ≡ true → (split_port xs ≡ None) × (list_any (λ c. c == 93) xs ≡ true)
none-front xs zero none bracket = (none, bracket)
none-front [] (suc i) none bracket = (none, bracket)
none-front (x ∷ xs) (suc i) none bracket =
    let behind = none-front xs i none bracket in
    (ap (split_or x xs) behind.0 ∙ cond-false _ _ _ (and_right _ _ (not_from_true _ behind.1)), or_right _ _ behind.1)

-- a bracket here
pub none-here : (xs : List ℕ) (i : ℕ) → i < length xs → get_or xs i 0 ≡ 93 → split_port (drop (i + 1) xs) ≡ None → split_port xs ≡ None
none-here xs i within is none =
    let here : split_port (drop i xs) ≡ None = at_drop_more split_port xs i 0 within ∙ ap (split_or (get_or xs i 0) (drop (i + 1) xs)) none ∙ cond-false _ _ _ (and_left _ _ (ne_eqb (get_or xs i 0) 58 (λ other. absurd (omega (arith, is, other))))) in
    let bracket : list_any (λ c. c == 93) (drop i xs) ≡ true = at_drop_more (list_any (λ c. c == 93)) xs i 0 within ∙ or_left _ _ (eq-eqb _ _ is) in
    (none-front xs i here bracket).0
