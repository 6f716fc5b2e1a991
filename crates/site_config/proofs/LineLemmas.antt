-- The first line of a text, and the lines after it.
use Rattle.std.proofs.Common.{◌≡◌, ◌≢◌, ℕ, ◌<◌, Bool, true, false, List, [], ◌∷◌, ◌++◌, length, Option, Some, None, arith, refl, inl, inr, ◌⊎◌, ⊎_elim, cond, eqb, ◌&&◌, ap, sym, subst, ◌∙◌, eq-eqb, eqb-true}
use Rattle.std.proofs.Math.Bool.{and-false}
use Rattle.std.proofs.lemmas.Option.{some_pair_parts}
use Rattle.std.proofs.lemmas.Bool.{and_cases, and_parts, false≢true}
use Rattle.std.specs.Option.{option_map}
use Rattle.std.specs.List.{onto_first}
use Rattle.site_config.specs.Cut.{cut_at, onto_name}
use Rattle.site_config.specs.Lines.{lines, begins_with, without_return}

-- a cut after the first byte
abbrev pub cut_behind : ℕ → List ℕ → (o : Option (List ℕ × List ℕ)) → List ℕ → List ℕ → Type 0
cut_behind b bs None front back = ⊥
cut_behind b bs (Some parts) front back = (front ≡ b ∷ parts.0) × (back ≡ parts.1)

some_parts : (b : ℕ) (bs : List ℕ) (o : Option (List ℕ × List ℕ)) (front back : List ℕ) → option_map (onto_name b) o ≡ Some (front, back) → cut_behind b bs o front back
some_parts b bs None front back e = cc
some_parts b bs (Some parts) front back e =
    let parted = some_pair_parts (b ∷ parts.0) front parts.1 back e in
    (sym parted.0, sym parted.1)

-- what stands before the first LF is empty where the text begins with LF
begins : (bs front back : List ℕ) → begins_with 10 bs ≡ true → cut_at 10 bs ≡ Some (front, back) → front ≡ []
begins [] front back b e = cc
begins (c ∷ bs) front back b e = sym (some_pair_parts [] front bs back (rw b at e)).0

begins_not : (bs back : List ℕ) → begins_with 10 bs ≡ false → cut_at 10 bs ≡ Some ([], back) → ⊥
begins_not [] back b e = cc
begins_not (c ∷ bs) back b e =
    let e' : option_map (onto_name c) (cut_at 10 bs) ≡ Some ([], back) = rw b at e in
    let parts = some_parts c bs (cut_at 10 bs) [] back e' in
    nothing c bs (cut_at 10 bs) back parts
  where
    nothing : (c : ℕ) (bs : List ℕ) (o : Option (List ℕ × List ℕ)) (back : List ℕ) → cut_behind c bs o [] back → ⊥
    nothing c bs None back h = h
    nothing c bs (Some parts) back h = let e : [] ≡ c ∷ parts.0 = h.0 in cc

longer : (b : ℕ) (front : List ℕ) → (b ≢ 13) ⊎ (front ≢ []) → without_return (b ∷ front) ≡ b ∷ without_return front
longer b [] (inl n) = let no : eqb b 13 ≡ false = grind (arith) in rw no refl
longer b [] (inr n) = absurd (n refl)
longer b (c ∷ cs) n = refl

onto : (b : ℕ) (bs f k : List ℕ) → lines bs ≡ without_return f ∷ lines k → ((b ≢ 13) ⊎ (f ≢ [])) → onto_first b (lines bs) ≡ without_return (b ∷ f) ∷ lines k
onto b bs f k rec why = rw (rec, longer b f why) refl

-- the line before the first LF, and the lines after it
pub lines_cut : (text front back : List ℕ) → cut_at 10 text ≡ Some (front, back) → lines text ≡ without_return front ∷ lines back
lines_cut [] front back e = cc
lines_cut (b ∷ bs) front back e = by_end (λ f k h. lines_cut bs f k h) (eqb b 10) refl
  where
    Goal : Type 0
    Goal = lines (b ∷ bs) ≡ without_return front ∷ lines back

    by_return : (f k : List ℕ) (t : Bool) → cut_at 10 bs ≡ Some (f, k) → eqb b 10 ≡ false → (eqb b 13 && begins_with 10 bs) ≡ t → lines bs ≡ without_return f ∷ lines k → lines (b ∷ bs) ≡ without_return (b ∷ f) ∷ lines k
    by_return f k true e n r rec =
        let both = and_parts (eqb b 13) (begins_with 10 bs) r in
        let empty : f ≡ [] = begins bs f k both.1 e in
        let one : without_return (b ∷ f) ≡ [] = rw (empty, both.0) refl in
        let none : without_return f ≡ [] = rw empty refl in
        rw (n, r, rec, one, none) refl
    by_return f k false e n r rec =
        let why : (b ≢ 13) ⊎ (f ≢ []) = ⊎_elim (λ (h : eqb b 13 ≡ false). inl (λ (same : b ≡ 13). false≢true (sym h ∙ eq-eqb b 13 same))) (λ (h : begins_with 10 bs ≡ false). inr (λ (same : f ≡ []). begins_not bs k h (subst (λ (x : List ℕ). cut_at 10 bs ≡ Some (x, k)) same e))) (and_cases (eqb b 13) (begins_with 10 bs) r) in
        rw (n, r) (onto b bs f k rec why)

    Rest : Type 0
    Rest = (f k : List ℕ) → cut_at 10 bs ≡ Some (f, k) → lines bs ≡ without_return f ∷ lines k

    by_cut : Rest → (o : Option (List ℕ × List ℕ)) → cut_at 10 bs ≡ o → cut_behind b bs o front back → eqb b 10 ≡ false → Goal
    by_cut rest None e h n = absurd h
    by_cut rest (Some parts) e h n =
        rw (h.0, h.1) (by_return parts.0 parts.1 (eqb b 13 && begins_with 10 bs) e n refl (rest parts.0 parts.1 e))

    by_end : Rest → (t : Bool) → eqb b 10 ≡ t → Goal
    by_end rest true yea =
        let parted = some_pair_parts [] front bs back (rw yea at e) in
        rw (yea, ← parted.0, ← parted.1) refl
    by_end rest false nay =
        by_cut rest (cut_at 10 bs) refl (some_parts b bs (cut_at 10 bs) front back (rw nay at e)) nay

none_begins : (bs : List ℕ) → cut_at 10 bs ≡ None → begins_with 10 bs ≡ false
none_begins [] e = refl
none_begins (c ∷ cs) e = by_test (eqb c 10) refl
  where
    by_test : (t : Bool) → eqb c 10 ≡ t → eqb c 10 ≡ false
    by_test true yea = let e' : Some ([], cs) ≡ None = rw yea at e in cc
    by_test false nay = nay

none_behind : (b : ℕ) (bs : List ℕ) → cut_at 10 (b ∷ bs) ≡ None → (eqb b 10 ≡ false) × (cut_at 10 bs ≡ None)
none_behind b bs e = by_test (eqb b 10) refl
  where
    by_rest : (o : Option (List ℕ × List ℕ)) → option_map (onto_name b) o ≡ None → o ≡ None
    by_rest None h = refl
    by_rest (Some parts) h = cc

    by_test : (t : Bool) → eqb b 10 ≡ t → (eqb b 10 ≡ false) × (cut_at 10 bs ≡ None)
    by_test true yea = let e' : Some ([], bs) ≡ None = rw yea at e in cc
    by_test false nay = let e' : option_map (onto_name b) (cut_at 10 bs) ≡ None = rw nay at e in (nay, by_rest (cut_at 10 bs) e')

-- a text without LF is one line
pub lines_one : (text : List ℕ) → 0 < length text → cut_at 10 text ≡ None → lines text ≡ text ∷ []
lines_one [] h e = absurd (omega arith)
lines_one (b ∷ []) h e =
    let n = none_behind b [] e in
    by_return (eqb b 13) (n.0)
  where
    by_return : (t : Bool) → eqb b 10 ≡ false → cond (eqb b 10) ([] ∷ []) (cond (t && false) [] ((b ∷ []) ∷ [])) ≡ (b ∷ []) ∷ []
    by_return true n = rw n refl
    by_return false n = rw n refl
lines_one (b ∷ c ∷ cs) h e =
    let n = none_behind b (c ∷ cs) e in
    let no : begins_with 10 (c ∷ cs) ≡ false = none_begins (c ∷ cs) n.1 in
    let rec = lines_one (c ∷ cs) (omega arith) n.1 in
    by_return (eqb b 13 && begins_with 10 (c ∷ cs)) (rw no (and-false (eqb b 13))) n.0 rec
  where
    by_return : (t : Bool) → t ≡ false → eqb b 10 ≡ false → lines (c ∷ cs) ≡ (c ∷ cs) ∷ [] → cond (eqb b 10) ([] ∷ lines (c ∷ cs)) (cond t (lines (c ∷ cs)) (onto_first b (lines (c ∷ cs)))) ≡ (b ∷ c ∷ cs) ∷ []
    by_return t nay n rec = rw (n, nay, rec) refl

-- a CR at the end goes
pub without_return-snoc : (front : List ℕ) → without_return (front ++ 13 ∷ []) ≡ front
without_return-snoc [] = refl
without_return-snoc (b ∷ []) = refl
without_return-snoc (b ∷ c ∷ bs) = ap (λ (x : List ℕ). b ∷ x) (without_return-snoc (c ∷ bs))

pub without_return-none : (line : List ℕ) → ((front : List ℕ) → line ≢ front ++ 13 ∷ []) → without_return line ≡ line
without_return-none [] none = refl
without_return-none (b ∷ []) none = by_test (eqb b 13) refl
  where
    by_test : (t : Bool) → eqb b 13 ≡ t → cond t [] (b ∷ []) ≡ b ∷ []
    by_test true yea = absurd (none [] (rw (eqb-true b 13 yea) refl))
    by_test false nay = refl
without_return-none (b ∷ c ∷ bs) none =
    ap (λ (x : List ℕ). b ∷ x) (without_return-none (c ∷ bs) (λ front e. none (b ∷ front) (ap (λ (x : List ℕ). b ∷ x) e)))
