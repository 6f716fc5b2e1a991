-- A name more in a table.
use Rattle.std.proofs.Common.{◌≡◌, ℕ, ◌+◌, ◌<◌, Bool, true, false, ◌||◌, List, [], ◌∷◌, ◌++◌, length, take, get_or, Option, Some, None, refl, cond, suc, sym, ◌∙◌, ap}
use Rattle.std.proofs.Math.Bool.{or-false}
use Rattle.std.proofs.lemmas.List.{take_more}
use Rattle.std.proofs.lemmas.List.Folds.{list_any-append}
use Rattle.site_config.specs.declared.property.Property.{Property}
use Rattle.site_config.specs.Directives.{worker_part}
use Rattle.site_workers.specs.Given.{names_worker}
use Rattle.site_workers.specs.Table.{with_name, names_with, IsNameOfGiven}
use Rattle.std.specs.Option.{option_map, is_some}
use Rattle.std.specs.Str.{bytes_eq}
use Rattle.std.specs.Map.{update}
use Rattle.std.proofs.lemmas.Slice.Eq.{bytes_eq-Decides}
use Rattle.site_workers.specs.Numbers.{number_of}

abbrev pub else_last : Option ℕ → Bool → ℕ → Option ℕ
else_last None same n = cond same (Some n) None
else_last (Some i) same n = Some i

deeper : (o : Option ℕ) (same : Bool) (n : ℕ) → option_map suc (else_last o same n) ≡ else_last (option_map suc o) same (suc n)
deeper None true n = refl
deeper None false n = refl
deeper (Some i) same n = refl

-- the place of a name after one name more: its place before, or the last
pub number_of-snoc : (name : List ℕ) (names : List (List ℕ)) (x : List ℕ) → number_of name (names ++ x ∷ []) ≡ else_last (number_of name names) (bytes_eq x name) (length names)
number_of-snoc name [] x = refl
number_of-snoc name (n ∷ ns) x =
    by_test (bytes_eq n name) (number_of-snoc name ns x)
  where
    by_test : (t : Bool) → number_of name (ns ++ x ∷ []) ≡ else_last (number_of name ns) (bytes_eq x name) (length ns) → cond t (Some 0) (option_map suc (number_of name (ns ++ x ∷ []))) ≡ else_last (cond t (Some 0) (option_map suc (number_of name ns))) (bytes_eq x name) (suc (length ns))
    by_test true rest = refl
    by_test false rest = rw rest (deeper (number_of name ns) (bytes_eq x name) (length ns))

else_none : (o : Option ℕ) (n : ℕ) → o ≡ else_last o false n
else_none None n = refl
else_none (Some i) n = refl

-- what a map finds after a new name, where it found nothing before
pub found_after : (key name : List ℕ) (names : List (List ℕ)) → number_of key names ≡ None → update bytes_eq (λ q. number_of q names) key (Some (length names)) name ≡ number_of name (names ++ key ∷ [])
found_after key name names fresh = rw number_of-snoc (by_test (bytes_eq key name) refl)
  where
    by_test : (t : Bool) → bytes_eq key name ≡ t → cond t (Some (length names)) (number_of name names) ≡ else_last (number_of name names) t (length names)
    by_test true same =
        let one : key ≡ name = (bytes_eq-Decides key name).0 same in
        let none : number_of name names ≡ None = rw (← one) fresh in
        rw none refl
    by_test false other = else_none (number_of name names) (length names)

some_last : (o : Option ℕ) (same : Bool) (n : ℕ) → is_some (else_last o same n) ≡ (is_some o || same)
some_last None true n = refl
some_last None false n = refl
some_last (Some i) same n = refl

-- the names after one more at the end
pub known_snoc : (n : List ℕ) (names : List (List ℕ)) (x : List ℕ) → is_some (number_of n (names ++ x ∷ [])) ≡ (is_some (number_of n names) || bytes_eq x n)
known_snoc n names x = rw (number_of-snoc n names x) (some_last (number_of n names) (bytes_eq x n) (length names))

-- the names after a name more: the same, and that one
pub known_more : (name n : List ℕ) (names : List (List ℕ)) → is_some (number_of n (with_name name names)) ≡ (is_some (number_of n names) || bytes_eq name n)
known_more name n names = by_test (is_some (number_of name names)) refl
  where
    by_test : (t : Bool) → is_some (number_of name names) ≡ t → is_some (number_of n (cond t names (names ++ name ∷ []))) ≡ (is_some (number_of n names) || bytes_eq name n)
    by_test false fresh = rw number_of-snoc (some_last (number_of n names) (bytes_eq name n) (length names))
    by_test true there = by_name (bytes_eq name n) refl
      where
        by_name : (t : Bool) → bytes_eq name n ≡ t → is_some (number_of n names) ≡ (is_some (number_of n names) || t)
        by_name false other = sym (or-false (is_some (number_of n names)))
        by_name true same =
            let one : name ≡ n = (bytes_eq-Decides name n).0 same in
            let there' : is_some (number_of n names) ≡ true = rw (← one) there in
            rw there' refl

known_with : (o : Option (List ℕ × List ℕ)) (n : List ℕ) (names : List (List ℕ)) → is_some (number_of n (names_with o names)) ≡ (is_some (number_of n names) || names_worker n o)
known_with None n names = sym (or-false (is_some (number_of n names)))
known_with (Some parts) n names = known_more parts.0 n names

-- one line more
pub known_step : (ps : List Property) (k : ℕ) (p : Property) (names : List (List ℕ)) → k < length ps → p ≡ get_or ps k p → IsNameOfGiven (take k ps) names → IsNameOfGiven (take (k + 1) ps) (names_with (worker_part p.key) names)
known_step ps k p names within is h = λ n.
    let more : take (k + 1) ps ≡ take k ps ++ p ∷ [] = take_more ps k p within ∙ ap (λ (x : Property). take k ps ++ x ∷ []) (sym is) in
    rw (known_with (worker_part p.key) n names, h n, more, list_any-append, or-false (names_worker n (worker_part p.key))) refl
