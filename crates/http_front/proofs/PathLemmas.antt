-- A path, segment by segment.
use Rattle.std.proofs.Common.{◌≡◌, ℕ, ◌+◌, ◌<◌, ◌==◌, ◌||◌, Bool, true, false, not, List, [], ◌∷◌, ◌++◌, length, take, drop, get_or, map, refl, sym, ap, ◌∙◌, arith, inl, inr, append_assoc, option_map, Some, None, ◌-◌}
use Rattle.std.proofs.lemmas.Bool.{cases_Bool, cond-true, cond-false, not_from_true, not_from_false, or_from, lt-ltb, le-ltb}
use Rattle.std.proofs.lemmas.List.Splits.{slice_split_first, slice_split-cons_no, length-slice_split}
use Rattle.std.proofs.lemmas.List.{at_drop_more, take_rest}
use Rattle.std.specs.List.{list_any, position_or_len, slice_split, onto_first, join_with_byte}
use Rattle.std.specs.Prelude.{slice_index, codes, bytes_eq}
use Rattle.http_front.specs.Path.{segments, clean_segment, is_dots, kept, slashed, joined, has_good_bytes, is_clean, clean_of, query_of}

-- where no byte passes, the list is its one part
pub slice_split_whole : (p : ℕ → Bool) (xs : List ℕ) → position_or_len p xs ≡ length xs → slice_split p xs ≡ xs ∷ []
slice_split_whole p [] e = refl
slice_split_whole p (x ∷ xs) e =
    elim (cases_Bool (p x)) [
      | inl passes ↦ absurd (omega (arith, e, cond-false (not (p x)) (1 + position_or_len p xs) 0 (not_from_true _ passes)))
      | inr fails ↦
          let rest : position_or_len p xs ≡ length xs = omega (arith, e, cond-true (not (p x)) (1 + position_or_len p xs) 0 (not_from_false _ fails)) in
          slice_split-cons_no p x xs fails ∙ ap (onto_first x) (slice_split_whole p xs rest)
    ]

-- there is always a part
parts : (p : ℕ → Bool) (xs : List ℕ) → (part : List ℕ) × (others : List (List ℕ)) × (slice_split p xs ≡ part ∷ others)
parts p xs = first (slice_split p xs) (omega (arith, length-slice_split p xs))
  where
    first : (xss : List (List ℕ)) → 0 < length xss → (part : List ℕ) × (others : List (List ℕ)) × (xss ≡ part ∷ others)
    first [] h = absurd (omega arith)
    first (x ∷ xss) h = (x, xss, refl)

-- the first segment and the others
pub segments-cut : (xs : List ℕ) (at : ℕ) → at ≡ position_or_len (λ b. b == 47) xs → at < length xs → segments xs ≡ take at xs ∷ segments (drop (at + 1) xs)
segments-cut xs at e within =
    let whole : segments xs ≡ take (position_or_len (λ b. b == 47) xs) xs ∷ segments (drop (position_or_len (λ b. b == 47) xs + 1) xs) = slice_split_first (λ b. b == 47) xs 0 (omega arith) in
    whole ∙ ap (λ (n : ℕ). take n xs ∷ segments (drop (n + 1) xs)) (sym e)

-- where a segment stands one stays
kept-some : (x : List ℕ) (others : List (List ℕ)) → (first : List ℕ) × (more : List (List ℕ)) × (kept (x ∷ others) ≡ first ∷ more)
kept-some x [] = (x, [], refl)
kept-some [] (y ∷ others) = kept-some y others
kept-some (b ∷ x) (y ∷ others) = (b ∷ x, kept (y ∷ others), refl)

join-cons : (x : List ℕ) (all more : List (List ℕ)) (first : List ℕ) → all ≡ first ∷ more → join_with_byte 47 (x ∷ all) ≡ x ++ 47 ∷ join_with_byte 47 all
join-cons x all more first e = rw e refl

-- a segment in front of others brings its slash, unless it is empty
kept-cons : (x y : List ℕ) (others : List (List ℕ)) → join_with_byte 47 (kept (x ∷ y ∷ others)) ≡ slashed x ++ join_with_byte 47 (kept (y ∷ others))
kept-cons [] y others = refl
kept-cons (b ∷ x) y others =
    let some = kept-some y others in
    join-cons (b ∷ x) (kept (y ∷ others)) some.1 some.0 some.2 ∙ sym (append_assoc (b ∷ x) (47 ∷ []) (join_with_byte 47 (kept (y ∷ others))))

kept-next : (x : List ℕ) (all others : List (List ℕ)) (y : List ℕ) → all ≡ y ∷ others → join_with_byte 47 (kept (x ∷ all)) ≡ slashed x ++ join_with_byte 47 (kept all)
kept-next x all others y e = rw e (kept-cons x y others)

-- the first clean segment with its slash, and the others
pub joined-cut : (xs : List ℕ) (at : ℕ) → at ≡ position_or_len (λ b. b == 47) xs → at < length xs → joined xs ≡ slashed (clean_segment (take at xs)) ++ joined (drop (at + 1) xs)
joined-cut xs at e within =
    let more = parts (λ b. b == 47) (drop (at + 1) xs) in
    ap (λ (all : List (List ℕ)). join_with_byte 47 (kept (map clean_segment all))) (segments-cut xs at e within)
    ∙ kept-next (clean_segment (take at xs)) (map clean_segment (segments (drop (at + 1) xs))) (map clean_segment more.1) (clean_segment more.0) (ap (λ (all : List (List ℕ)). map clean_segment all) more.2)

-- the last segment
pub joined-whole : (xs : List ℕ) → position_or_len (λ b. b == 47) xs ≡ length xs → joined xs ≡ clean_segment xs
joined-whole xs e = ap (λ (all : List (List ℕ)). join_with_byte 47 (kept (map clean_segment all))) (slice_split_whole (λ b. b == 47) xs e)

-- whether one of the segments is a dot segment
pub dots-cut : (xs : List ℕ) (at : ℕ) → at ≡ position_or_len (λ b. b == 47) xs → at < length xs → list_any is_dots (map clean_segment (segments xs)) ≡ (is_dots (clean_segment (take at xs)) || list_any is_dots (map clean_segment (segments (drop (at + 1) xs))))
dots-cut xs at e within = ap (λ (all : List (List ℕ)). list_any is_dots (map clean_segment all)) (segments-cut xs at e within)

pub dots-whole : (xs : List ℕ) → position_or_len (λ b. b == 47) xs ≡ length xs → list_any is_dots (map clean_segment (segments xs)) ≡ (is_dots (clean_segment xs) || false)
dots-whole xs e = ap (λ (all : List (List ℕ)). list_any is_dots (map clean_segment all)) (slice_split_whole (λ b. b == 47) xs e)

-- the first byte that passes stands here
pub position-here : (p : ℕ → Bool) (xs : List ℕ) (i : ℕ) → i < length xs → p (get_or xs i 0) ≡ true → position_or_len p (drop i xs) ≡ 0
position-here p xs i within passes =
    at_drop_more (position_or_len p) xs i 0 within ∙ cond-false _ _ _ (not_from_true _ passes)

-- it stands later
pub position-later : (p : ℕ → Bool) (xs : List ℕ) (i : ℕ) → i < length xs → p (get_or xs i 0) ≡ false → position_or_len p (drop i xs) ≡ 1 + position_or_len p (drop (i + 1) xs)
position-later p xs i within fails =
    at_drop_more (position_or_len p) xs i 0 within ∙ cond-true _ _ _ (not_from_false _ fails)

-- one more segment is clean
pub joined-next : (start now last path rest : List ℕ) (at : ℕ) → at ≡ position_or_len (λ b. b == 47) rest → at < length rest
    → now ++ joined rest ≡ start ++ joined path → last ≡ now ++ slashed (clean_segment (take at rest)) → last ++ joined (drop (at + 1) rest) ≡ start ++ joined path
joined-next start now last path rest at e within before segment =
    ap (λ (l : List ℕ). l ++ joined (drop (at + 1) rest)) segment
    ∙ append_assoc now (slashed (clean_segment (take at rest))) _
    ∙ ap (λ (l : List ℕ). now ++ l) (sym (joined-cut rest at e within))
    ∙ before

-- the last segment is clean
pub last-joined : (start now new path rest : List ℕ) → position_or_len (λ b. b == 47) rest ≡ length rest
    → now ++ joined rest ≡ start ++ joined path → new ≡ now ++ clean_segment rest → new ≡ start ++ joined path
last-joined start now new path rest last before clean = clean ∙ ap (λ (l : List ℕ). now ++ l) (sym (joined-whole rest last)) ∙ before

pub last-dots : (path rest : List ℕ) → position_or_len (λ b. b == 47) rest ≡ length rest
    → list_any is_dots (map clean_segment (segments rest)) ≡ list_any is_dots (map clean_segment (segments path))
    → is_dots (clean_segment rest) ≡ false → list_any is_dots (map clean_segment (segments path)) ≡ false
last-dots path rest last dots clean = sym dots ∙ dots-whole rest last ∙ or_from _ _ clean refl

-- the path is clean where its bytes are good and no dot segment stands after the slash
pub clean-made : (raw rest clean : List ℕ) → bytes_eq raw (codes "*") ≡ false → (slice_index raw 0 == 47) ≡ true → has_good_bytes raw ≡ true → rest ≡ drop 1 raw
    → list_any is_dots (map clean_segment (segments rest)) ≡ false → clean ≡ 47 ∷ joined rest → clean_of raw ≡ Some clean
clean-made raw rest clean star slash good left dots whole =
    let none : list_any is_dots (map clean_segment (segments (drop 1 raw))) ≡ false = rw (← left) dots in
    let is : is_clean raw ≡ true = rw (slash, good, none) refl in
    rw (star, is) (ap Some (sym (whole ∙ ap (λ (l : List ℕ). 47 ∷ joined l) left)))

-- the query after the first `?`
pub query-some : (target : List ℕ) (at : ℕ) → at ≡ position_or_len (λ b. b == 63) target → at < length target → query_of target ≡ Some (take (length target - (at + 1)) (drop (at + 1) target))
query-some target at e within =
    let first : position_or_len (λ b. b == 63) target < length target = omega (arith, e, within) in
    ap (option_map (λ n. drop (n + 1) target)) (cond-true _ _ _ (lt-ltb (position_or_len (λ b. b == 63) target) (length target) first))
    ∙ ap (λ (n : ℕ). Some (drop (n + 1) target)) (sym e)
    ∙ ap Some (sym (take_rest target (at + 1)))

pub query-none : (target : List ℕ) → position_or_len (λ b. b == 63) target ≡ length target → query_of target ≡ None
query-none target e = ap (option_map (λ n. drop (n + 1) target)) (cond-false _ _ _ (le-ltb (position_or_len (λ b. b == 63) target) (length target) (omega (arith, e))))
