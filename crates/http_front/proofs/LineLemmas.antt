-- A head is lines that aren't empty, and an empty line.
use Rattle.std.proofs.Common.{◌≡◌, ◌<◌, ◌+◌, ◌==◌, ◌&&◌, ℕ, suc, true, false, cond, List, [], ◌∷◌, ◌++◌, Some, option_map, length, inl, inr, refl, sym, ap, subst, ◌∙◌, arith, append_assoc, length-append, zero-add, count_by}
use Rattle.std.proofs.lemmas.Bool.{or_parts, and_left, and_parts, or_cases, cond-true, cond-false, eqb-true, false_from_ne_true, false≢true}
use Rattle.std.proofs.lemmas.List.Sums.{sum_by-append}
use Rattle.std.specs.List.{list_any}
use Rattle.http_front.specs.Cut.{begins_empty, head_len, empty_line_len, header_lines}
use Rattle.http_front.specs.Lines.{IsEmptyLine, IsFullLine, AreFullLines, ended}

-- an empty line begins one, and is as long as it
empty-begins : (last rest : List ℕ) → IsEmptyLine last → (begins_empty (last ++ rest) ≡ true) × (empty_line_len (last ++ rest) ≡ length last)
empty-begins last rest (inl e) =
    let P : List ℕ → Type 0 = λ l. (begins_empty (l ++ rest) ≡ true) × (empty_line_len (l ++ rest) ≡ length l) in
    subst P (sym e) (refl, refl)
empty-begins last rest (inr e) =
    let P : List ℕ → Type 0 = λ l. (begins_empty (l ++ rest) ≡ true) × (empty_line_len (l ++ rest) ≡ length l) in
    subst P (sym e) (refl, refl)

-- a line that isn't empty begins none
full-begins : (text more : List ℕ) → IsFullLine text → begins_empty (text ++ 10 ∷ more) ≡ false
full-begins [] more full = absurd (full.some refl)
full-begins (b ∷ []) more full =
    let parts = or_parts (b == 10) false full.within in
    false_from_ne_true _ (λ is. elim (or_cases (b == 10) (b == 13 && true) is) [
      | inl lf ↦ false≢true (sym parts.0 ∙ lf)
      | inr both ↦ full.more (ap (λ (n : ℕ). n ∷ []) (eqb-true b 13 (and_parts (b == 13) true both).0))
    ])
full-begins (b ∷ c ∷ text) more full =
    let parts = or_parts (b == 10) (list_any (λ x. x == 10) (c ∷ text)) full.within in
    let next = or_parts (c == 10) (list_any (λ x. x == 10) text) parts.1 in
    false_from_ne_true _ (λ is. elim (or_cases (b == 10) (b == 13 && c == 10) is) [
      | inl lf ↦ false≢true (sym parts.0 ∙ lf)
      | inr both ↦ false≢true (sym next.0 ∙ (and_parts (b == 13) (c == 10) both).1)
    ])

-- a text without LF before a line's end moves the head's end
text-step : (text more : List ℕ) (n : ℕ) → list_any (λ x. x == 10) text ≡ false → head_len (10 ∷ more) ≡ Some n → head_len (text ++ 10 ∷ more) ≡ Some (length text + n)
text-step [] more n within e = e ∙ ap Some (sym (zero-add n))
text-step (b ∷ text) more n within e =
    let parts = or_parts (b == 10) (list_any (λ x. x == 10) text) within in
    let here : head_len (b ∷ (text ++ 10 ∷ more)) ≡ option_map (λ m. 1 + m) (head_len (text ++ 10 ∷ more)) = cond-false _ _ _ (and_left _ _ parts.0) in
    let sum : 1 + (length text + n) ≡ suc (length text) + n = omega arith in
    here ∙ ap (option_map (λ m. 1 + m)) (text-step text more n parts.1 e) ∙ ap Some sum

-- the last line before the empty one
line-last : (text last rest : List ℕ) → IsFullLine text → IsEmptyLine last → head_len (text ++ 10 ∷ (last ++ rest)) ≡ Some (length text + (1 + length last))
line-last text last rest full empty =
    let begins = empty-begins last rest empty in
    let here : head_len (10 ∷ (last ++ rest)) ≡ Some (1 + empty_line_len (last ++ rest)) = cond-true _ _ _ begins.0 in
    text-step text (last ++ rest) (1 + length last) full.within (here ∙ ap (λ (n : ℕ). Some (1 + n)) begins.1)

-- a line before others
line-next : (text more : List ℕ) (n : ℕ) → IsFullLine text → begins_empty more ≡ false → head_len more ≡ Some n → head_len (text ++ 10 ∷ more) ≡ Some (length text + (1 + n))
line-next text more n full others e =
    let here : head_len (10 ∷ more) ≡ option_map (λ m. 1 + m) (head_len more) = cond-false _ _ _ others in
    text-step text more (1 + n) full.within (here ∙ ap (option_map (λ m. 1 + m)) e)

ended-cons : (text : List ℕ) (lines : List (List ℕ)) (more : List ℕ) → ended (text ∷ lines) ++ more ≡ text ++ 10 ∷ (ended lines ++ more)
ended-cons text lines more = append_assoc (text ++ 10 ∷ []) (ended lines) more ∙ append_assoc text (10 ∷ []) (ended lines ++ more)

-- lines that aren't empty, and an empty one
pub lines-head : (lines : List (List ℕ)) (last rest : List ℕ) → 0 < length lines → AreFullLines lines → IsEmptyLine last → head_len (ended lines ++ (last ++ rest)) ≡ Some (length (ended lines ++ last))
lines-head [] last rest some full empty = absurd (omega arith)
lines-head (text ∷ []) last rest some full empty =
    let len : length text + (1 + length last) ≡ length (ended (text ∷ []) ++ last) = omega (arith, ap (λ (l : List ℕ). length l) (ended-cons text [] last), length-append text (10 ∷ last)) in
    ap head_len (ended-cons text [] (last ++ rest)) ∙ line-last text last rest full.0 empty ∙ ap Some len
lines-head (text ∷ next ∷ lines) last rest some full empty =
    let more = ended (next ∷ lines) ++ (last ++ rest) in
    let others : begins_empty more ≡ false = ap begins_empty (ended-cons next lines (last ++ rest)) ∙ full-begins next (ended lines ++ (last ++ rest)) full.1.0 in
    let behind = lines-head (next ∷ lines) last rest (omega arith) full.1 empty in
    let len : length text + (1 + length (ended (next ∷ lines) ++ last)) ≡ length (ended (text ∷ next ∷ lines) ++ last) = omega (arith, ap (λ (l : List ℕ). length l) (ended-cons text (next ∷ lines) last), length-append text (10 ∷ (ended (next ∷ lines) ++ last))) in
    ap head_len (ended-cons text (next ∷ lines) (last ++ rest)) ∙ line-next text more _ full.0 others behind ∙ ap Some len

count-append : (xs ys : List ℕ) → count_by (λ x. x == 10) (xs ++ ys) ≡ count_by (λ x. x == 10) xs + count_by (λ x. x == 10) ys
count-append xs ys = sum_by-append (λ x. cond (x == 10) 1 0) xs ys

count-cons : (b : ℕ) (xs : List ℕ) → count_by (λ x. x == 10) (b ∷ xs) ≡ cond (b == 10) 1 0 + count_by (λ x. x == 10) xs
count-cons b xs = count-append (b ∷ []) xs ∙ ap (λ (n : ℕ). n + count_by (λ x. x == 10) xs) (zero-add (cond (b == 10) 1 0))

count-none : (text : List ℕ) → list_any (λ x. x == 10) text ≡ false → count_by (λ x. x == 10) text ≡ 0
count-none [] e = refl
count-none (b ∷ text) e =
    let parts = or_parts (b == 10) (list_any (λ x. x == 10) text) e in
    let here : ◌≡◌ {A = ℕ} (cond (b == 10) 1 0) 0 = cond-false _ _ _ parts.0 in
    count-cons b text ∙ ap (λ (n : ℕ). n + count_by (λ x. x == 10) text) here ∙ zero-add _ ∙ count-none text parts.1

count-last : (last : List ℕ) → IsEmptyLine last → count_by (λ x. x == 10) last ≡ 1
count-last last (inl e) = ap (count_by (λ x. x == 10)) e
count-last last (inr e) = ap (count_by (λ x. x == 10)) e

count-lines : (lines : List (List ℕ)) (last : List ℕ) → AreFullLines lines → IsEmptyLine last → count_by (λ x. x == 10) (ended lines ++ last) ≡ length lines + 1
count-lines [] last full empty = count-last last empty
count-lines (text ∷ lines) last full empty =
    let whole = ap (count_by (λ x. x == 10)) (ended-cons text lines last) in
    let parts = count-append text (10 ∷ (ended lines ++ last)) in
    let next : count_by (λ x. x == 10) (10 ∷ (ended lines ++ last)) ≡ 1 + count_by (λ x. x == 10) (ended lines ++ last) = count-cons 10 (ended lines ++ last) in
    omega (arith, whole, parts, next, count-none text full.0.within, count-lines lines last full.1 empty)

pub lines-counted : (lines : List (List ℕ)) (last : List ℕ) → 0 < length lines → AreFullLines lines → IsEmptyLine last → header_lines (ended lines ++ last) + 1 ≡ length lines
lines-counted lines last some full empty = omega (arith, count-lines lines last full empty)
