-- Steps of the search for a head's end.
use Rattle.std.proofs.Common.{◌≡◌, ℕ, suc, ◌+◌, ◌<◌, ◌≤◌, ◌==◌, Bool, true, false, cond, ◌&&◌, List, [], ◌∷◌, ◌++◌, length, take, drop, get_or, Option, Some, None, option_map, refl, sym, ap, subst, ◌∙◌, arith, inl, inr, add_assoc, zero-add, one-add, append-nil, eq-eqb, take_all}
use Rattle.std.proofs.lemmas.Bool.{false≢true, both_ways, false_from_ne_true, cases_Bool, or_cases, and_parts, and_cases, or_left, or_right, cond-true, cond-false, and_from, and_left, and_right}
use Rattle.std.proofs.lemmas.List.{drop_more, drop_at, take-append-drop, length-take-le, length-drop, length-append, get_or-take, drop-append-le, append_assoc}
use Rattle.http_front.specs.Cut.{begins_empty, blank_len, head_len, empty_line_len, Cuts}
use Rattle.http_front.specs.Request.{NoHead, IsOverlong}
use Rattle.http_front.specs.Search.{Skipped, Searched, IsSearched, IsWholeHead, IsPartOfHead}

-- an empty line stays one whatever follows
pub begins_empty-append : (xs more : List ℕ) → begins_empty xs ≡ true → begins_empty (xs ++ more) ≡ true
begins_empty-append [] more e = absurd (false≢true e)
begins_empty-append (b ∷ []) more e =
    elim (or_cases (b == 10) (b == 13 && false) e) [ inl is ↦ or_left (b == 10) _ is | inr is ↦ absurd (false≢true (and_parts (b == 13) false is).1) ]
begins_empty-append (b ∷ c ∷ xs) more e = e

blank_len-cons : (b : ℕ) (xs : List ℕ) → begins_empty (b ∷ xs) ≡ true → blank_len (b ∷ xs) ≡ 1 + blank_len xs
blank_len-cons b xs e = cond-true _ _ _ e

-- one more byte of an empty line
pub Skipped-more : (xs : List ℕ) (i : ℕ) → i < length xs → begins_empty (drop i xs) ≡ true → Skipped xs i → Skipped xs (i + 1)
Skipped-more xs i within empty skipped more =
    let split = drop_more xs i 0 within in
    let step : blank_len (drop i xs ++ more) ≡ 1 + blank_len (drop (i + 1) xs ++ more) =
    ap (λ (l : List ℕ). blank_len (l ++ more)) split ∙ blank_len-cons (get_or xs i 0) (drop (i + 1) xs ++ more) (ap (λ (l : List ℕ). begins_empty (l ++ more)) (sym split) ∙ begins_empty-append (drop i xs) more empty) in
    omega (arith, skipped more, step)

-- where no empty line stands, none is counted
pub blank_len-none : (xs : List ℕ) → begins_empty xs ≡ false → blank_len xs ≡ 0
blank_len-none [] e = refl
blank_len-none (b ∷ xs) e = cond-false _ _ _ e

option_map-zero : (o : Option ℕ) → option_map (λ n. 0 + n) o ≡ o
option_map-zero None = refl
option_map-zero (Some n) = ap Some (zero-add n)

option_map-twice : (k : ℕ) (o : Option ℕ) → option_map (λ n. k + n) (option_map (λ n. 1 + n) o) ≡ option_map (λ n. (k + 1) + n) o
option_map-twice k None = refl
option_map-twice k (Some n) = ap Some (sym (add_assoc k 1 n))

-- one more byte, after which no empty line stands
pub Searched-more : (xs : List ℕ) (i : ℕ) → i < length xs → ((more : List ℕ) → (get_or xs i 0 == 10 && begins_empty (drop (i + 1) xs ++ more)) ≡ false) → Searched xs i → Searched xs (i + 1)
Searched-more xs i within none searched more =
    let split = drop_more xs i 0 within in
    let step : head_len (drop i xs ++ more) ≡ option_map (λ n. 1 + n) (head_len (drop (i + 1) xs ++ more)) =
    ap (λ (l : List ℕ). head_len (l ++ more)) split ∙ cond-false _ _ _ (none more) in
    searched more ∙ ap (option_map (λ n. i + n)) step ∙ option_map-twice i (head_len (drop (i + 1) xs ++ more))

pub empty_line_len-append : (xs more : List ℕ) → begins_empty xs ≡ true → empty_line_len (xs ++ more) ≡ empty_line_len xs
empty_line_len-append [] more e = absurd (false≢true e)
empty_line_len-append (b ∷ xs) more e = refl

-- an empty line after the line that ends here
pub head_len-ends : (xs : List ℕ) (i : ℕ) → i < length xs → get_or xs i 0 ≡ 10 → begins_empty (drop (i + 1) xs) ≡ true → Searched xs i → (more : List ℕ) → head_len (xs ++ more) ≡ Some (i + 1 + empty_line_len (drop (i + 1) xs))
head_len-ends xs i within is empty searched more =
    let split = drop_more xs i 0 within in
    let test : (get_or xs i 0 == 10 && begins_empty (drop (i + 1) xs ++ more)) ≡ true = and_from _ _ (eq-eqb _ _ is) (begins_empty-append (drop (i + 1) xs) more empty) in
    let step : head_len (drop i xs ++ more) ≡ Some (1 + empty_line_len (drop (i + 1) xs ++ more)) =
    ap (λ (l : List ℕ). head_len (l ++ more)) split ∙ cond-true _ _ _ test in
    let len = empty_line_len-append (drop (i + 1) xs) more empty in
    searched more ∙ ap (option_map (λ n. i + n)) step ∙ ap Some (sym (add_assoc i 1 _) ∙ ap (λ n. i + 1 + n) len)

-- the search came to its end
pub head_len-open : (xs : List ℕ) (i : ℕ) → Searched xs i → head_len (drop i xs) ≡ None → head_len xs ≡ None
head_len-open xs i searched none =
    let whole : head_len (xs ++ []) ≡ option_map (λ n. i + n) (head_len (drop i xs ++ [])) = searched [] in
    let front : head_len xs ≡ option_map (λ n. i + n) (head_len (drop i xs)) = rw (append-nil, append-nil) at whole in
    front ∙ ap (option_map (λ n. i + n)) none

-- a line's end, after which nothing ends
pub head_len-none : (xs : List ℕ) (i : ℕ) → i < length xs → begins_empty (drop (i + 1) xs) ≡ false → head_len (drop (i + 1) xs) ≡ None → head_len (drop i xs) ≡ None
head_len-none xs i within text none =
    let test : (get_or xs i 0 == 10 && begins_empty (drop (i + 1) xs)) ≡ false = and_right _ _ text in
    ap head_len (drop_more xs i 0 within) ∙ cond-false _ _ _ test ∙ ap (option_map (λ n. 1 + n)) none

-- nothing is searched yet
pub Searched-zero : (xs : List ℕ) → Searched xs 0
Searched-zero xs more = sym (option_map-zero (head_len (xs ++ more)))

-- an empty line at the front of a part is one of the whole
begins_empty-front : (n : ℕ) (xs : List ℕ) → begins_empty (take n xs) ≡ true → begins_empty xs ≡ true
begins_empty-front n xs e =
    let P : List ℕ → Type 0 = λ l. begins_empty l ≡ true in
    subst P (take-append-drop n xs) (begins_empty-append (take n xs) (drop n xs) e)

begins_empty-take : (n : ℕ) (xs : List ℕ) → begins_empty xs ≡ false → begins_empty (take n xs) ≡ false
begins_empty-take n xs e = false_from_ne_true _ (λ part. both_ways _ e (begins_empty-front n xs part))

blank_len-positive : (xs : List ℕ) → begins_empty xs ≡ true → 0 < blank_len xs
blank_len-positive [] e = absurd (false≢true e)
blank_len-positive (b ∷ xs) e = omega (arith, blank_len-cons b xs e)

begins-blank : (b : ℕ) (xs : List ℕ) → begins_empty (b ∷ xs) ≡ true → begins_empty (b ∷ take (blank_len xs) xs) ≡ true
begins-blank b xs e =
    elim (or_cases (b == 10) (b == 13 && get_or xs 0 0 == 10) e) [
      | inl is ↦ or_left _ _ is
      | inr both ↦
          let parts = and_parts (b == 13) (get_or xs 0 0 == 10) both in
          let first : get_or (take (blank_len xs) xs) 0 0 ≡ get_or xs 0 0 = get_or-take (blank_len xs) xs 0 0 (blank_len-positive xs (or_left _ _ parts.1)) in
          or_right _ _ (and_from _ _ parts.0 (ap (λ (n : ℕ). n == 10) first ∙ parts.1))
    ]

-- the empty lines at the front are empty lines by themselves
blank_len-take : (xs : List ℕ) → blank_len (take (blank_len xs) xs) ≡ blank_len xs
blank_len-take [] = refl
blank_len-take (b ∷ xs) =
    let P : ℕ → Type 0 = λ n. blank_len (take n (b ∷ xs)) ≡ n in
    elim (cases_Bool (begins_empty (b ∷ xs))) [
      | inl is ↦
          let step : suc (blank_len xs) ≡ blank_len (b ∷ xs) = omega (arith, blank_len-cons b xs is) in
          let here : blank_len (b ∷ take (blank_len xs) xs) ≡ 1 + blank_len (take (blank_len xs) xs) = blank_len-cons b (take (blank_len xs) xs) (begins-blank b xs is) in
          let whole : blank_len (b ∷ take (blank_len xs) xs) ≡ suc (blank_len xs) = omega (arith, here, blank_len-take xs) in
          subst P step whole
      | inr text ↦ subst P (sym (blank_len-none (b ∷ xs) text)) refl
    ]

-- where none is counted, none stands
blank_len-zero : (xs : List ℕ) → blank_len xs ≡ 0 → begins_empty xs ≡ false
blank_len-zero xs e = false_from_ne_true _ (λ is. absurd (omega (arith, e, blank_len-positive xs is)))

empty-take : (xs : List ℕ) → begins_empty xs ≡ true → (begins_empty (take (empty_line_len xs) xs) ≡ true) × (empty_line_len (take (empty_line_len xs) xs) ≡ empty_line_len xs)
empty-take [] e = absurd (false≢true e)
empty-take (b ∷ []) e =
    let one : 1 ≤ empty_line_len (b ∷ []) = cond-positive (b == 10) in
    let P : List ℕ → Type 0 = λ l. (begins_empty l ≡ true) × (empty_line_len l ≡ empty_line_len (b ∷ [])) in
    subst P (sym (take_all (empty_line_len (b ∷ [])) (b ∷ []) one)) (e, refl)
  where
    cond-positive : (t : Bool) → 1 ≤ cond t 1 2
    cond-positive true = omega arith
    cond-positive false = omega arith
empty-take (b ∷ c ∷ xs) e =
    let P : ℕ → Type 0 = λ n. (begins_empty (take n (b ∷ c ∷ xs)) ≡ true) × (empty_line_len (take n (b ∷ c ∷ xs)) ≡ n) in
    elim (cases_Bool (b == 10)) [
      | inl is ↦ subst P (sym (cond-true (b == 10) 1 2 is)) (or_left _ _ is, cond-true (b == 10) 1 2 is)
      | inr text ↦ subst P (sym (cond-false (b == 10) 1 2 text)) (e, cond-false (b == 10) 1 2 text)
    ]

option_map-some : (o : Option ℕ) (n : ℕ) → option_map (λ m. 1 + m) o ≡ Some n → (m : ℕ) × (o ≡ Some m) × (n ≡ suc m)
option_map-some None n e = cc
option_map-some (Some m) n e = (m, refl, let same : 1 + m ≡ n = cc in omega (arith, same))

-- a head's bytes are a head by themselves
head_len-take : (xs : List ℕ) (n : ℕ) → head_len xs ≡ Some n → head_len (take n xs) ≡ Some n
head_len-take [] n e = cc
head_len-take (b ∷ xs) n e =
    let P : ℕ → Type 0 = λ m. head_len (take m (b ∷ xs)) ≡ Some m in
    elim (cases_Bool (b == 10 && begins_empty xs)) [
      | inl is ↦
          let parts = and_parts (b == 10) (begins_empty xs) is in
          let front = empty-take xs parts.1 in
          let found : Some (1 + empty_line_len xs) ≡ Some n = sym (cond-true _ _ _ is) ∙ e in
          let len : 1 + empty_line_len xs ≡ n = cc in
          let here : head_len (b ∷ take (empty_line_len xs) xs) ≡ Some (1 + empty_line_len (take (empty_line_len xs) xs)) = cond-true _ _ _ (and_from _ _ parts.0 front.0) in
          subst P (sym (one-add (empty_line_len xs)) ∙ len) (here ∙ ap (λ (m : ℕ). Some (1 + m)) front.1 ∙ ap Some (one-add (empty_line_len xs)))
      | inr later ↦
          let behind = option_map-some (head_len xs) n (sym (cond-false _ _ _ later) ∙ e) in
          let text : (b == 10 && begins_empty (take behind.0 xs)) ≡ false = elim (and_cases (b == 10) (begins_empty xs) later) [ inl other ↦ and_left _ _ other | inr full ↦ and_right _ _ (begins_empty-take behind.0 xs full) ] in
          let here : head_len (b ∷ take behind.0 xs) ≡ option_map (λ m. 1 + m) (head_len (take behind.0 xs)) = cond-false _ _ _ text in
          subst P (sym behind.2) (here ∙ ap (option_map (λ m. 1 + m)) (head_len-take xs behind.0 behind.1) ∙ ap Some (one-add behind.0))
    ]

pub head_len-two : (xs : List ℕ) (n : ℕ) → head_len xs ≡ Some n → 2 ≤ length xs
head_len-two [] n e = cc
head_len-two (b ∷ []) n e =
    let none : head_len (b ∷ []) ≡ None = cond-false _ _ _ (and_right (b == 10) false refl) in
    cc
head_len-two (b ∷ c ∷ xs) n e = omega arith

pub begins_empty-same : (xs ys : List ℕ) → 2 ≤ length xs → begins_empty (xs ++ ys) ≡ begins_empty xs
begins_empty-same [] ys two = absurd (omega arith)
begins_empty-same (b ∷ []) ys two = absurd (omega arith)
begins_empty-same (b ∷ c ∷ xs) ys two = refl

-- a head stays one whatever follows
pub head_len-append : (xs ys : List ℕ) (n : ℕ) → head_len xs ≡ Some n → head_len (xs ++ ys) ≡ Some n
head_len-append [] ys n e = cc
head_len-append (b ∷ xs) ys n e =
    elim (cases_Bool (b == 10 && begins_empty xs)) [
      | inl is ↦
          let parts = and_parts (b == 10) (begins_empty xs) is in
          let found : Some (1 + empty_line_len xs) ≡ Some n = sym (cond-true _ _ _ is) ∙ e in
          let here : head_len (b ∷ (xs ++ ys)) ≡ Some (1 + empty_line_len (xs ++ ys)) = cond-true _ _ _ (and_from _ _ parts.0 (begins_empty-append xs ys parts.1)) in
          here ∙ ap (λ (m : ℕ). Some (1 + m)) (empty_line_len-append xs ys parts.1) ∙ found
      | inr later ↦
          let behind = option_map-some (head_len xs) n (sym (cond-false _ _ _ later) ∙ e) in
          let same = begins_empty-same xs ys (head_len-two xs behind.0 behind.1) in
          let text : (b == 10 && begins_empty (xs ++ ys)) ≡ false = ap (λ (t : Bool). b == 10 && t) same ∙ later in
          let here : head_len (b ∷ (xs ++ ys)) ≡ option_map (λ m. 1 + m) (head_len (xs ++ ys)) = cond-false _ _ _ text in
          here ∙ ap (option_map (λ m. 1 + m)) (head_len-append xs ys behind.0 behind.1) ∙ ap Some (one-add behind.0 ∙ sym behind.2)
    ]

-- empty lines, and then what follows them
pub blank_len-append : (xs ys : List ℕ) → blank_len xs ≡ length xs → blank_len (xs ++ ys) ≡ length xs + blank_len ys
blank_len-append [] ys e = sym (zero-add _)
blank_len-append (b ∷ xs) ys e =
    elim (cases_Bool (begins_empty (b ∷ xs))) [
      | inl is ↦
          let rest : blank_len xs ≡ length xs = omega (arith, e, blank_len-cons b xs is) in
          let here : blank_len (b ∷ (xs ++ ys)) ≡ 1 + blank_len (xs ++ ys) = blank_len-cons b (xs ++ ys) (begins_empty-append (b ∷ xs) ys is) in
          omega (arith, here, blank_len-append xs ys rest)
      | inr text ↦ absurd (omega (arith, e, blank_len-none (b ∷ xs) text))
    ]

-- a cut is the only one: its empty lines are all at the front, and its head ends at the first end
pub cut-blank : (bytes blank front rest : List ℕ) → Cuts bytes blank front rest → blank_len bytes ≡ length blank
cut-blank bytes blank front rest cut =
    let text : begins_empty (front ++ rest) ≡ false = begins_empty-same front rest (head_len-two front _ cut.ends) ∙ blank_len-zero front cut.begins in
    ap blank_len cut.whole ∙ (let both = blank_len-append blank (front ++ rest) cut.empty in let none = blank_len-none (front ++ rest) text in omega (arith, both, none))

pub cut-head : (bytes blank front rest : List ℕ) → Cuts bytes blank front rest → head_len (drop (length blank) bytes) ≡ Some (length front)
cut-head bytes blank front rest cut =
    ap (λ (l : List ℕ). head_len (drop (length blank) l)) cut.whole
    ∙ ap head_len (drop_at blank (front ++ rest) (length blank) refl)
    ∙ head_len-append front rest (length front) cut.ends

pub part-none : (bytes : List ℕ) (blank searched : ℕ) → IsPartOfHead bytes blank searched → NoHead bytes
part-none bytes blank searched part b f r cut =
    let same : length b ≡ blank = sym (cut-blank bytes b f r cut) ∙ part.empty in
    let found : head_len (drop blank bytes) ≡ Some (length f) = ap (λ (n : ℕ). head_len (drop n bytes)) (sym same) ∙ cut-head bytes b f r cut in
    let none = part.open_end in
    cc

-- all bytes that were skipped are counted
skipped-all : (bytes : List ℕ) (blank : ℕ) → Skipped bytes blank → blank_len (drop blank bytes) ≡ 0 → blank_len bytes ≡ blank
skipped-all bytes blank skipped stops =
    let whole : blank_len (bytes ++ []) ≡ blank + blank_len (drop blank bytes ++ []) = skipped [] in
    let left : blank_len (drop blank bytes ++ []) ≡ 0 = ap blank_len (append-nil (drop blank bytes)) ∙ stops in
    let all : blank_len (bytes ++ []) ≡ blank_len bytes = ap blank_len (append-nil bytes) in
    omega (arith, whole, left, all)

-- a head has its end in the bytes
pub whole-made : (bytes front : List ℕ) (blank len : ℕ) → front ≡ drop blank bytes → blank ≤ length bytes → Skipped bytes blank → blank_len (drop blank bytes) ≡ 0
    → (len ≤ length front) × ((more : List ℕ) → head_len (front ++ more) ≡ Some len) → IsWholeHead bytes blank len
whole-made bytes front blank len is fits skipped stops ends =
    let d = drop blank bytes in
    let room : len ≤ length d = omega (arith, ends.0, ap (λ (l : List ℕ). length l) is) in
    let all = skipped-all bytes blank skipped stops in
    let found : head_len d ≡ Some len = ap head_len (sym is ∙ sym (append-nil front)) ∙ ends.1 [] in
    let blanks : blank_len (take blank bytes) ≡ blank = (let P : ℕ → Type 0 = λ n. blank_len (take n bytes) ≡ n in subst P all (blank_len-take bytes)) in
    record {
      within = omega (arith, room, fits, length-drop blank bytes);
      cut = record {
        whole = sym (take-append-drop blank bytes) ∙ ap (λ (l : List ℕ). take blank bytes ++ l) (sym (take-append-drop len d));
        empty = blanks ∙ sym (length-take-le blank bytes fits);
        begins = blank_len-none (take len d) (begins_empty-take len d (blank_len-zero d stops));
        ends = head_len-take d len found ∙ ap Some (sym (length-take-le len d room));
      };
    }

-- no head has its end in the bytes yet
pub part-made : (bytes front : List ℕ) (blank at : ℕ) → front ≡ drop blank bytes → blank ≤ length bytes → Skipped bytes blank → blank_len (drop blank bytes) ≡ 0
    → (at ≤ length front) × (head_len front ≡ None) × Searched front at → IsPartOfHead bytes blank at
part-made bytes front blank at is fits skipped stops search =
    let P : List ℕ → Type 0 = λ l. Searched l at in
    record {
      seen = record {
        within = omega (arith, search.0, fits, length-drop blank bytes, ap (λ (l : List ℕ). length l) is);
        skipped = skipped;
        none = subst P is search.2;
      };
      empty = skipped-all bytes blank skipped stops;
      open_end = ap head_len (sym is) ∙ search.1;
    }

-- nothing is seen yet
pub seen-none : (bytes : List ℕ) → IsSearched bytes 0 0
seen-none bytes = record { within = omega arith; skipped = λ more. sym (zero-add _); none = Searched-zero bytes }

-- what was seen holds with more bytes after them
pub seen-more : (bytes came : List ℕ) (blank searched : ℕ) → IsSearched bytes blank searched → IsSearched (bytes ++ came) blank searched
seen-more bytes came blank searched seen =
    let left : drop blank (bytes ++ came) ≡ drop blank bytes ++ came = drop-append-le blank bytes came (omega (arith, seen.within)) in
    let behind : drop searched (drop blank bytes ++ came) ≡ drop searched (drop blank bytes) ++ came = drop-append-le searched (drop blank bytes) came (omega (arith, seen.within, length-drop blank bytes)) in
    let P : List ℕ → Type 0 = λ l. Searched l searched in
    record {
      within = omega (arith, seen.within, length-append bytes came);
      skipped = λ more.
          ap blank_len (append_assoc bytes came more) ∙ seen.skipped (came ++ more)
          ∙ ap (λ (l : List ℕ). blank + blank_len l) (sym (append_assoc (drop blank bytes) came more) ∙ ap (λ (l : List ℕ). l ++ more) (sym left));
      none = subst P (sym left) (λ more.
          ap head_len (append_assoc (drop blank bytes) came more) ∙ seen.none (came ++ more)
          ∙ ap (λ (l : List ℕ). option_map (λ n. searched + n) (head_len l)) (sym (append_assoc (drop searched (drop blank bytes)) came more) ∙ ap (λ (l : List ℕ). l ++ more) (sym behind)));
    }

-- the limit is reached
pub over-made : (bytes : List ℕ) (blank searched : ℕ) → IsPartOfHead bytes blank searched → length bytes ≡ 16384 → IsOverlong bytes
over-made bytes blank searched part full =
    let P : List ℕ → Type 0 = λ l. NoHead l in
    record {
      long = omega (arith, full);
      none = subst P (sym (take_all 16384 bytes (omega (arith, full)))) (part-none bytes blank searched part);
    }
