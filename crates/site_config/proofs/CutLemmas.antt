-- Where a text is cut: at the first byte that passes.
use Rattle.std.proofs.Common.{◌≡◌, ℕ, ◌+◌, ◌-◌, ◌<◌, Bool, true, false, List, [], ◌∷◌, length, get_or, take, drop, Option, Some, None, suc, zero, arith, refl, add-one, cond, subst}
use Rattle.std.proofs.lemmas.List.{take_rest}
use Rattle.std.specs.Option.{option_map}
use Rattle.site_config.specs.Cut.{cut, onto_name}

-- no byte before this one passes, and it does
pub cut_found : (p : ℕ → Bool) (text : List ℕ) (i : ℕ) → i < length text → ((k : ℕ) → k < i → p (get_or text k 0) ≡ false) → p (get_or text i 0) ≡ true → cut p text ≡ Some (take i text, drop (suc i) text)
cut_found p [] i h none found = absurd (omega arith)
cut_found p (b ∷ bs) zero h none found = rw found refl
cut_found p (b ∷ bs) (suc i) h none found =
    let first : p b ≡ false = none 0 (omega arith) in
    let rest : cut p bs ≡ Some (take i bs, drop (suc i) bs) = cut_found p bs i (omega arith) (λ k l. none (suc k) (omega arith)) found in
    rw (first, rest) refl

-- no byte passes
pub cut_none : (p : ℕ → Bool) (text : List ℕ) → ((k : ℕ) → k < length text → p (get_or text k 0) ≡ false) → cut p text ≡ None
cut_none p [] none = refl
cut_none p (b ∷ bs) none =
    let first : p b ≡ false = none 0 (omega arith) in
    let rest : cut p bs ≡ None = cut_none p bs (λ k l. none (suc k) (omega arith)) in
    rw (first, rest) refl

-- the same, with the parts as slices give them
pub cut_found_so : (p : ℕ → Bool) (text : List ℕ) (i : ℕ) → i < length text → ((k : ℕ) → k < i → p (get_or text k 0) ≡ false) → p (get_or text i 0) ≡ true → Some (take i text, take (length text - (i + 1)) (drop (i + 1) text)) ≡ cut p text
cut_found_so p text i h none found = rw (take_rest text (i + 1), add-one, cut_found p text i h none found) refl

abbrev pub IsShorter : List ℕ → Option (List ℕ × List ℕ) → Type 0
IsShorter text None = Unit {0}
IsShorter text (Some parts) = length parts.1 < length text

shorter_behind : (b : ℕ) (bs : List ℕ) (o : Option (List ℕ × List ℕ)) → IsShorter bs o → IsShorter (b ∷ bs) (option_map (onto_name b) o)
shorter_behind b bs None h = tt
shorter_behind b bs (Some parts) h = omega arith

shorter : (p : ℕ → Bool) (text : List ℕ) → IsShorter text (cut p text)
shorter p [] = tt
shorter p (b ∷ bs) = by_test (p b) (shorter p bs)
  where
    by_test : (t : Bool) → IsShorter bs (cut p bs) → IsShorter (b ∷ bs) (cond t (Some ([], bs)) (option_map (onto_name b) (cut p bs)))
    by_test true h = omega arith
    by_test false h = shorter_behind b bs (cut p bs) h

-- what stands after a cut is shorter than the text
pub cut_shorter : (p : ℕ → Bool) (text front back : List ℕ) → cut p text ≡ Some (front, back) → length back < length text
cut_shorter p text front back e = subst (IsShorter text) e (shorter p text)
