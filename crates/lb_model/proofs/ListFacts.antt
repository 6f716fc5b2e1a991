-- Facts on lists that the lemmas on histories share.
use Rattle.std.proofs.Common.{◌≡◌, ℕ, suc, zero, ◌+◌, ◌<◌, ◌≤◌, Bool, true, false, ◌&&◌, cond, List, [], ◌∷◌, ◌++◌, length, map, take, reverse, get_or, Option, Some, refl, sym, ap, ◌∙◌, arith, add-one, inl, inr}
use Rattle.std.specs.List.{list_any, filter, count_by, slice_get}
use Rattle.std.proofs.lemmas.List.{reverse-append, take_more, length-map, get_or-map}
use Rattle.std.proofs.lemmas.List.Sums.{sum_by-cons}
use Rattle.std.proofs.lemmas.List.Sorted.{list_any-IsPermutation, IsPermutation-reverse, sum_by-IsPermutation}
use Rattle.std.proofs.lemmas.Option.{slice_get_cases}
use Rattle.std.proofs.lemmas.Bool.{cases_Bool}
use Rattle.lb_model.specs.Journal.{each}

pub reverse_snoc : {A : Type 0} (xs : List A) (y : A) → reverse (xs ++ y ∷ []) ≡ y ∷ reverse xs
reverse_snoc xs y = reverse-append xs (y ∷ [])

pub list_any-reverse : {A : Type 0} (p : A → Bool) (xs : List A) → list_any p (reverse xs) ≡ list_any p xs
list_any-reverse p xs = sym (list_any-IsPermutation p xs (reverse xs) (IsPermutation-reverse xs))

pub count_by-cons : {A : Type 0} (p : A → Bool) (x : A) (xs : List A) → count_by p (x ∷ xs) ≡ cond (p x) 1 0 + count_by p xs
count_by-cons p x xs = sum_by-cons (λ y. cond (p y) 1 0) x xs

pub count_by-reverse : {A : Type 0} (p : A → Bool) (xs : List A) → count_by p (reverse xs) ≡ count_by p xs
count_by-reverse p xs = sum_by-IsPermutation (λ x. cond (p x) 1 0) xs (reverse xs) (IsPermutation-reverse xs)

pub filter-filter : {A : Type 0} (p q : A → Bool) (xs : List A) → filter p (filter q xs) ≡ filter (λ x. q x && p x) xs
filter-filter p q [] = refl
filter-filter p q (x ∷ xs) =
    elim (q x) as (λ b. filter p (cond b (x ∷ filter q xs) (filter q xs)) ≡ cond (b && p x) (x ∷ filter (λ y. q y && p y) xs) (filter (λ y. q y && p y) xs)) [
      | true ↦ ap (λ (ys : List _). cond (p x) (x ∷ ys) ys) (filter-filter p q xs)
      | false ↦ filter-filter p q xs
    ]

-- The values at the places of a list are those of its items.
pub each-slice_get : {X Y : Type 0} (g : X → Y) (h : Option X → Y) → ((x : X) → h (Some x) ≡ g x)
    → (xs : List X) (n : ℕ) → n ≤ length xs → each n (λ i. h (slice_get xs i)) ≡ take n (map g xs)
each-slice_get g h at xs zero le = refl
each-slice_get {X} {Y} g h at xs (suc n) le =
    let lt : n < length xs = omega arith in
    let lt' : n < length (map g xs) = omega (arith, length-map xs g) in
    let front : each n (λ i. h (slice_get xs i)) ≡ take n (map g xs) = each-slice_get g h at xs n (omega arith) in
    elim (slice_get_cases xs n).1 [
      | inl found ↦
          let here : h (slice_get xs n) ≡ g found.0 = ap h found.2 ∙ at found.0 in
          let there : get_or (map g xs) n (g found.0) ≡ g found.0 =
          get_or-map g xs n found.0 (g found.0) lt ∙ ap g found.3 in
          ap (λ (ys : List Y). ys ++ h (slice_get xs n) ∷ []) front
          ∙ ap (λ (y : Y). take n (map g xs) ++ y ∷ []) (here ∙ sym there)
          ∙ sym (take_more (map g xs) n (g found.0) lt') ∙ ap (λ (k : ℕ). take k (map g xs)) (add-one n)
      | inr past ↦ absurd (omega arith)
    ]

pub filter_all : {A : Type 0} (xs : List A) → filter (λ _. true) xs ≡ xs
filter_all [] = refl
filter_all (x ∷ xs) = ap (λ ys. x ∷ ys) (filter_all xs)

-- A stricter test keeps no more.
pub filter_fewer : {A : Type 0} (p q : A → Bool) (xs : List A) → ((x : A) → p x ≡ true → q x ≡ true)
    → length (filter p xs) ≤ length (filter q xs)
filter_fewer p q [] stricter = omega arith
filter_fewer {A} p q (x ∷ xs) stricter =
    let rest : length (filter p xs) ≤ length (filter q xs) = filter_fewer p q xs stricter in
    elim (cases_Bool (p x)) [
      | inl passes ↦ rw (passes, stricter x passes) (omega arith)
      | inr fails ↦
          rw fails (elim (q x) as (λ b. length (filter p xs) ≤ length (cond b (x ∷ filter q xs) (filter q xs))) [ true ↦ omega arith | false ↦ rest ])
    ]

-- An item found among those that a test keeps is found among all.
pub list_any-filtered : {A : Type 0} (p q : A → Bool) (xs : List A) → list_any p (filter q xs) ≡ true → list_any p xs ≡ true
list_any-filtered p q [] found = found
list_any-filtered {A} p q (x ∷ xs) found =
    elim (cases_Bool (p x)) [
      | inl this ↦ rw this refl
      | inr other ↦
          let rest : list_any p (filter q xs) ≡ true =
          elim (q x) as (λ b. list_any p (cond b (x ∷ filter q xs) (filter q xs)) ≡ true → list_any p (filter q xs) ≡ true) [
            | true ↦ λ h. rw other at h
            | false ↦ λ h. h
          ] found in
          rw other (list_any-filtered p q xs rest)
    ]
