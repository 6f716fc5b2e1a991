-- The first line of a list of paths, and the lines after it.
use Rattle.std.proofs.Common.{◌≡◌, ℕ, ◌<◌, Bool, true, false, List, [], ◌∷◌, length, Option, Some, None, refl, eqb, sym, arith}
use Rattle.std.proofs.lemmas.Option.{some_pair_parts}
use Rattle.std.specs.Option.{option_map}
use Rattle.site_config.specs.Cut.{cut_at, onto_name}
use Rattle.site_reports.specs.PathLines.{path_lines}

-- the line before the first LF, and the lines after it
pub lines_cut : (text front back : List ℕ) → cut_at 10 text ≡ Some (front, back) → path_lines text ≡ front ∷ path_lines back
lines_cut [] front back e = cc
lines_cut (b ∷ bs) front back e = by_end (λ f k h. lines_cut bs f k h) (eqb b 10) refl
  where
    Goal : Type 0
    Goal = path_lines (b ∷ bs) ≡ front ∷ path_lines back

    Behind : Type 0
    Behind = (f k : List ℕ) → cut_at 10 bs ≡ Some (f, k) → path_lines bs ≡ f ∷ path_lines k

    by_rest : Behind → (o : Option (List ℕ × List ℕ)) → cut_at 10 bs ≡ o → option_map (onto_name b) o ≡ Some (front, back) → eqb b 10 ≡ false → Goal
    by_rest behind None c e n = cc
    by_rest behind (Some parts) c e n =
        let parted = some_pair_parts (b ∷ parts.0) front parts.1 back e in
        rw (n, behind parts.0 parts.1 c, sym parted.0, sym parted.1) refl

    by_end : Behind → (t : Bool) → eqb b 10 ≡ t → Goal
    by_end behind true n =
        let parted = some_pair_parts [] front bs back (rw n at e) in
        rw (n, sym parted.0, sym parted.1) refl
    by_end behind false n = by_rest behind (cut_at 10 bs) refl (rw n at e) n

-- no LF stands after the first byte, and that one is none
none_behind : (b : ℕ) (bs : List ℕ) → cut_at 10 (b ∷ bs) ≡ None → (eqb b 10 ≡ false) × (cut_at 10 bs ≡ None)
none_behind b bs e = by_end (eqb b 10) refl
  where
    by_rest : (o : Option (List ℕ × List ℕ)) → option_map (onto_name b) o ≡ None → o ≡ None
    by_rest None n = refl
    by_rest (Some parts) n = cc

    by_end : (t : Bool) → eqb b 10 ≡ t → (eqb b 10 ≡ false) × (cut_at 10 bs ≡ None)
    by_end true n = absurd (cc (rw n at e))
    by_end false n = (n, by_rest (cut_at 10 bs) (rw n at e))

-- a text without LF is one line
pub lines_one : (text : List ℕ) → 0 < length text → cut_at 10 text ≡ None → path_lines text ≡ text ∷ []
lines_one [] some e = absurd (omega arith)
lines_one (b ∷ []) some e =
    let n = none_behind b [] e in
    rw n.0 refl
lines_one (b ∷ c ∷ cs) some e =
    let n = none_behind b (c ∷ cs) e in
    let rec = lines_one (c ∷ cs) (omega arith) n.1 in
    rw (n.0, rec) refl
