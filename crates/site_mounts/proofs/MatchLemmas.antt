-- A pattern's pieces, found one after another, decide as the pattern does.
use Rattle.std.proofs.Common.{◌≡◌, ◌≢◌, ℕ, ◌-◌, ◌<◌, ◌≤◌, Bool, true, false, ◌||◌, ◌&&◌, List, [], ◌∷◌, length, drop, Option, Some, None, suc, zero, arith, refl, sym, ◌∙◌, ap, cond, subst, eqb, nat_lt, Bor}
use borrow.Author.Tests.{ltb-true, ltb-false}
use Rattle.std.proofs.Math.Bool.{and-false, or-false}
use Rattle.std.proofs.Math.Seq.{drop-nil}
use Rattle.std.proofs.lemmas.List.{drop-drop}
use Rattle.std.proofs.lemmas.Option.{some_pair_parts, same_Some}
use Rattle.std.specs.Option.{option_map, option_map_or, option_or, is_some}
use Rattle.std.specs.Str.{bytes_eq}
use Rattle.site_config.specs.Cut.{cut_at, onto_name}
use Rattle.site_mounts.specs.Patterns.{has_wildcard, stands_for, some_end, matches}
use Rattle.site_mounts.specs.Pieces.{behind, first_behind}

-- a part of the path is found where its bytes are
pub found_so : (o : Option (Bor (List ℕ))) → is_some o ≡ is_some (option_map (λ rest. rest.now) o)
found_so None = refl
found_so (Some rest) = refl

-- no star in the text: none in its first byte, and none after that
star_none : (c : ℕ) (cs : List ℕ) → cut_at 42 (c ∷ cs) ≡ None → (eqb c 42 ≡ false) × (cut_at 42 cs ≡ None)
star_none c cs e = by_test (eqb c 42) refl
  where
    by_rest : (o : Option (List ℕ × List ℕ)) → option_map (onto_name c) o ≡ None → o ≡ None
    by_rest None h = refl
    by_rest (Some parts) h = cc

    by_test : (t : Bool) → eqb c 42 ≡ t → (eqb c 42 ≡ false) × (cut_at 42 cs ≡ None)
    by_test true yea = let e' : ◌≡◌ {A = Option (List ℕ × List ℕ)} (Some ([], cs)) None = rw yea at e in cc
    by_test false nay = let e' : option_map (onto_name c) (cut_at 42 cs) ≡ None = rw nay at e in (nay, by_rest (cut_at 42 cs) e')

-- the first star is after the first byte
star_later : (c : ℕ) (cs front more : List ℕ) → eqb c 42 ≡ false → cut_at 42 (c ∷ cs) ≡ Some (front, more) → (f : List ℕ) × ((front ≡ c ∷ f) × (cut_at 42 cs ≡ Some (f, more)))
star_later c cs front more nay e =
    let e' : option_map (onto_name c) (cut_at 42 cs) ≡ Some (front, more) = rw nay at e in
    by_rest (cut_at 42 cs) refl e'
  where
    by_rest : (o : Option (List ℕ × List ℕ)) → cut_at 42 cs ≡ o → option_map (onto_name c) o ≡ Some (front, more) → (f : List ℕ) × ((front ≡ c ∷ f) × (cut_at 42 cs ≡ Some (f, more)))
    by_rest None is h = cc
    by_rest (Some parts) is h =
        let parted = some_pair_parts (c ∷ parts.0) front parts.1 more h in
        (parts.0, (sym parted.0, is ∙ ap (λ (m : List ℕ). Some (parts.0, m)) parted.1))

-- where the path has ended, no byte of a piece stands any more
pub behind_ended : (piece : List ℕ) (i : ℕ) (path : List ℕ) → i < length piece → length path < 1 → behind (drop i piece) path ≡ None
behind_ended [] i path h short = absurd (omega arith)
behind_ended (c ∷ cs) zero [] h short = refl
behind_ended (c ∷ cs) zero (b ∷ bs) h short = absurd (omega arith)
behind_ended (c ∷ cs) (suc i) path h short = behind_ended cs i path (omega arith) short

-- the piece stands right here: this is its first place
pub first_here : (piece path rest : List ℕ) → behind piece path ≡ Some rest → first_behind piece path ≡ Some rest
first_here piece [] rest e = e
first_here piece (b ∷ bs) rest e = rw e refl

-- a pattern with a star: its first piece stands at the path's start, and some end of what is after it matches the rest
pub matches_front : (cs front more path : List ℕ) → cut_at 42 cs ≡ Some (front, more) → matches cs path ≡ option_map_or (some_end (matches more)) (behind front path) false
matches_front [] front more path e = cc
matches_front (c ∷ cs) front more path e = by_star (eqb c 42) refl (λ f p h. matches_front cs f more p h)
  where
    Rest : Type 0
    Rest = (f p : List ℕ) → cut_at 42 cs ≡ Some (f, more) → matches cs p ≡ option_map_or (some_end (matches more)) (behind f p) false

    by_path : Rest → eqb c 42 ≡ false → (f p : List ℕ) → cut_at 42 cs ≡ Some (f, more) → matches (c ∷ cs) p ≡ option_map_or (some_end (matches more)) (behind (c ∷ f) p) false
    by_path rest nay f [] h = rw nay refl
    by_path rest nay f (b ∷ bs) h = rw nay (by_test (stands_for c b) (rest f bs h))
      where
        by_test : (t : Bool) → matches cs bs ≡ option_map_or (some_end (matches more)) (behind f bs) false → (t && matches cs bs) ≡ option_map_or (some_end (matches more)) (cond t (behind f bs) None) false
        by_test true h = h
        by_test false h = refl

    by_star : (t : Bool) → eqb c 42 ≡ t → Rest → matches (c ∷ cs) path ≡ option_map_or (some_end (matches more)) (behind front path) false
    by_star true yea rest =
        let parted = some_pair_parts [] front cs more (rw yea at e) in
        rw (yea, ← parted.0, ← parted.1) refl
    by_star false nay rest =
        let later = star_later c cs front more nay e in
        rw later.1.0 (by_path rest nay later.0 path later.1.1)

-- what is after a piece is the path without as many bytes
behind-drop : (front path rest : List ℕ) → behind front path ≡ Some rest → rest ≡ drop (length front) path
behind-drop [] path rest e = sym (same_Some path rest e)
behind-drop (c ∷ cs) [] rest e = cc
behind-drop (c ∷ cs) (b ∷ bs) rest e = by_test (stands_for c b) (behind-drop cs bs rest) e
  where
    by_test : (t : Bool) → (behind cs bs ≡ Some rest → rest ≡ drop (length cs) bs) → cond t (behind cs bs) None ≡ Some rest → rest ≡ drop (length cs) bs
    by_test true h e = h e
    by_test false h e = cc

-- an end of an end is an end
some_end-drop : (p : List ℕ → Bool) (k : ℕ) (path : List ℕ) → some_end p (drop k path) ≡ true → some_end p path ≡ true
some_end-drop p zero path e = e
some_end-drop p (suc k) [] e = e
some_end-drop p (suc k) (b ∷ bs) e = rw (some_end-drop p k bs e) (by_test (p (b ∷ bs)))
  where
    by_test : (t : Bool) → (t || true) ≡ true
    by_test true = refl
    by_test false = refl

-- a place at which an end passes
some_end_at : (p : List ℕ → Bool) (path : List ℕ) → some_end p path ≡ true → (k : ℕ) × (p (drop k path) ≡ true)
some_end_at p [] e = (0, e)
some_end_at p (b ∷ bs) e = by_test (p (b ∷ bs)) refl (some_end_at p bs) e
  where
    by_test : (t : Bool) → p (b ∷ bs) ≡ t → (some_end p bs ≡ true → (k : ℕ) × (p (drop k bs) ≡ true)) → (t || some_end p bs) ≡ true → (k : ℕ) × (p (drop k (b ∷ bs)) ≡ true)
    by_test true yea rest e = (0, yea)
    by_test false nay rest e = let there = rest e in (suc there.0, there.1)

-- what is after a later place of the piece is an end of what is after this one
later : (p : List ℕ → Bool) (front bs rest : List ℕ) (b : ℕ) → behind front (b ∷ bs) ≡ Some rest → some_end (λ t. option_map_or (some_end p) (behind front t) false) bs ≡ true → some_end p rest ≡ true
later p front bs rest b e h =
    let there = some_end_at (λ t. option_map_or (some_end p) (behind front t) false) bs h in
    by_found there.0 (behind front (drop there.0 bs)) refl there.1
  where
    by_found : (k : ℕ) (o : Option (List ℕ)) → behind front (drop k bs) ≡ o → option_map_or (some_end p) o false ≡ true → some_end p rest ≡ true
    by_found k None is h = cc
    by_found k (Some found) is h =
        let found_is : found ≡ drop (length front) (drop k bs) = behind-drop front (drop k bs) found is in
        let rest_is : rest ≡ drop (length front) (b ∷ bs) = behind-drop front (b ∷ bs) rest e in
        let so : found ≡ drop (suc k) rest = found_is ∙ drop-drop (length front) (suc k) (b ∷ bs) ∙ ap (λ (n : ℕ). drop n (b ∷ bs)) (omega arith) ∙ sym (drop-drop (suc k) (length front) (b ∷ bs)) ∙ ap (λ (x : List ℕ). drop (suc k) x) (sym rest_is) in
        some_end-drop p (suc k) rest (subst (λ (x : List ℕ). some_end p x ≡ true) so h)

-- the first place of a piece decides
first_decides : (p : List ℕ → Bool) (front path : List ℕ) → some_end (λ t. option_map_or (some_end p) (behind front t) false) path ≡ option_map_or (some_end p) (first_behind front path) false
first_decides p front [] = refl
first_decides p front (b ∷ bs) = by_first (behind front (b ∷ bs)) refl (first_decides p front bs)
  where
    Ends : List ℕ → Bool
    Ends = some_end (λ t. option_map_or (some_end p) (behind front t) false)

    absorbs : (a more : Bool) → (more ≡ true → a ≡ true) → (a || more) ≡ a
    absorbs true more h = refl
    absorbs false true h = sym (h refl)
    absorbs false false h = refl

    by_first : (o : Option (List ℕ)) → behind front (b ∷ bs) ≡ o → Ends bs ≡ option_map_or (some_end p) (first_behind front bs) false → (option_map_or (some_end p) o false || Ends bs) ≡ option_map_or (some_end p) (option_or o (first_behind front bs)) false
    by_first None is h = h
    by_first (Some rest) is h = absorbs (some_end p rest) (Ends bs) (later p front bs rest b is)

-- two tests that agree have the same ends
some_end-same : (p q : List ℕ → Bool) (path : List ℕ) → ((t : List ℕ) → p t ≡ q t) → some_end p path ≡ some_end q path
some_end-same p q [] h = h []
some_end-same p q (b ∷ bs) h = rw (h (b ∷ bs), some_end-same p q bs h) refl

-- of a pattern's piece after a star the first place decides
pub some_end_front : (cs front more path : List ℕ) → cut_at 42 cs ≡ Some (front, more) → some_end (matches cs) path ≡ option_map_or (some_end (matches more)) (first_behind front path) false
some_end_front cs front more path e =
    some_end-same (matches cs) (λ t. option_map_or (some_end (matches more)) (behind front t) false) path (λ t. matches_front cs front more t e) ∙ first_decides (matches more) front path

-- a pattern without a star is as long as what it matches
pub matches_other_length : (cs path : List ℕ) → cut_at 42 cs ≡ None → length cs ≢ length path → matches cs path ≡ false
matches_other_length [] [] e h = absurd (h refl)
matches_other_length [] (b ∷ bs) e h = refl
matches_other_length (c ∷ cs) [] e h = rw (star_none c cs e).0 refl
matches_other_length (c ∷ cs) (b ∷ bs) e h =
    let none = star_none c cs e in
    let rest : matches cs bs ≡ false = matches_other_length cs bs none.1 (omega arith) in
    rw (none.0, rest) (and-false (stands_for c b))

-- such a pattern is one piece
pub matches_same_length : (cs path : List ℕ) → cut_at 42 cs ≡ None → length cs ≡ length path → matches cs path ≡ is_some (behind cs path)
matches_same_length [] [] e h = refl
matches_same_length [] (b ∷ bs) e h = absurd (omega arith)
matches_same_length (c ∷ cs) [] e h = absurd (omega arith)
matches_same_length (c ∷ cs) (b ∷ bs) e h =
    let none = star_none c cs e in
    rw none.0 (by_test (stands_for c b) (matches_same_length cs bs none.1 (omega arith)))
  where
    by_test : (t : Bool) → matches cs bs ≡ is_some (behind cs bs) → (t && matches cs bs) ≡ is_some (cond t (behind cs bs) None)
    by_test true h = h
    by_test false h = refl

-- no end of the path is long enough
pub some_end_short : (cs path : List ℕ) → cut_at 42 cs ≡ None → length path < length cs → some_end (matches cs) path ≡ false
some_end_short cs [] e h = matches_other_length cs [] e (omega arith)
some_end_short cs (b ∷ bs) e h = rw (matches_other_length cs (b ∷ bs) e (omega arith), some_end_short cs bs e (omega arith)) refl

-- of the last piece the path's end decides
pub some_end_last : (cs path : List ℕ) → cut_at 42 cs ≡ None → length cs ≤ length path → some_end (matches cs) path ≡ is_some (behind cs (drop (length path - length cs) path))
some_end_last cs [] e h = rw drop-nil (matches_same_length cs [] e (omega arith))
some_end_last cs (b ∷ bs) e h = by_length (nat_lt (length bs) (length cs)) refl (λ l. some_end_last cs bs e l)
  where
    Goal : Type 0
    Goal = some_end (matches cs) (b ∷ bs) ≡ is_some (behind cs (drop (length (b ∷ bs) - length cs) (b ∷ bs)))

    by_length : (t : Bool) → nat_lt (length bs) (length cs) ≡ t → (length cs ≤ length bs → some_end (matches cs) bs ≡ is_some (behind cs (drop (length bs - length cs) bs))) → Goal
    by_length true yea rest =
        let long : length bs < length cs = ltb-true (length bs) (length cs) yea in
        let none : some_end (matches cs) bs ≡ false = some_end_short cs bs e long in
        let whole : length (b ∷ bs) - length cs ≡ 0 = omega arith in
        rw (none, whole, matches_same_length cs (b ∷ bs) e (omega arith)) (or-false (is_some (behind cs (b ∷ bs))))
    by_length false nay rest =
        let short : length cs ≤ length bs = ltb-false (length bs) (length cs) nay in
        let step : length (b ∷ bs) - length cs ≡ suc (length bs - length cs) = omega arith in
        rw (step, matches_other_length cs (b ∷ bs) e (omega arith)) (rest short)

plain_first : (c : ℕ) (cs : List ℕ) → has_wildcard (c ∷ cs) ≡ false → (eqb c 42 ≡ false) × (eqb c 63 ≡ false) × (has_wildcard cs ≡ false)
plain_first c cs e = by_star (eqb c 42) refl e
  where
    by_mark : (t : Bool) → eqb c 63 ≡ t → eqb c 42 ≡ false → (t || has_wildcard cs) ≡ false → (eqb c 42 ≡ false) × (eqb c 63 ≡ false) × (has_wildcard cs ≡ false)
    by_mark true is star e = cc
    by_mark false is star e = (star, is, e)

    by_star : (t : Bool) → eqb c 42 ≡ t → ((t || eqb c 63) || has_wildcard cs) ≡ false → (eqb c 42 ≡ false) × (eqb c 63 ≡ false) × (has_wildcard cs ≡ false)
    by_star true is e = cc
    by_star false is e = by_mark (eqb c 63) refl is e

-- a pattern without wildcards matches itself alone
pub matches_plain : (cs path : List ℕ) → has_wildcard cs ≡ false → matches cs path ≡ bytes_eq cs path
matches_plain [] [] e = refl
matches_plain [] (b ∷ bs) e = refl
matches_plain (c ∷ cs) [] e = rw (plain_first c cs e).0 refl
matches_plain (c ∷ cs) (b ∷ bs) e =
    let first = plain_first c cs e in
    rw (first.0, first.1, matches_plain cs bs first.2) refl
