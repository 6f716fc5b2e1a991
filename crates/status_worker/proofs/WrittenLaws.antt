-- Fields that were written are read as these fields.
use Rattle.std.proofs.Common.{ℕ, ◌+◌, ◌/◌, ◌%◌, ◌<◌, ◌≡◌, Bool, true, false, not, ◌==◌, ltb, List, [], ◌∷◌, ◌++◌, length, take, drop, Some, All, refl, sym, ap, ◌∙◌, arith, append_assoc, append-nil, length-append, ⊎_elim}
use Rattle.std.specs.List.{position, position_or_len}
use Rattle.std.specs.Option.{option_map}
use Rattle.std.specs.Char.{is_digit}
use Rattle.std.specs.Fmt.{digit_glyph}
use Rattle.std.proofs.Math.Seq.{take-append_seam, drop-append-add}
use Rattle.std.proofs.lemmas.Bool.{cases_Bool, lt-ltb, cond-true, cond-false, ne_eqb, not_from_true, not_from_false, both_ways}
use Rattle.std.proofs.lemmas.Bool.Decides.{nat_tests}
use Rattle.std.proofs.lemmas.List.Elements.{All-cons, All-head, All-tail, All-append}
use Rattle.std.proofs.lemmas.List.Splits.{slice_split_none, slice_split_at}
use Rattle.percent_encoding.specs.declared.ascii_set.AsciiSet.{AsciiSet}
use Rattle.percent_encoding.specs.AsciiSet.{contains, should_percent_encode}
use Rattle.percent_encoding.specs.Percent.{percent_encode_byte, percent_encode}
use Rattle.percent_encoding.proofs.AsciiSetLemmas.{escaped_from_inside}
use Rattle.percent_encoding.proofs.PercentLemmas.{IsEscapeByte, All-percent_encode, percent_encode-nil, percent_encode_escaped, percent_encode_kept, round_trip}
use Rattle.status_worker.specs.declared.field.Field.{Field}
use Rattle.status_worker.specs.Escapes.{has_good_escapes}
use Rattle.status_worker.specs.Fields.{around, decoded_field, field_of, in_front, fields_in, fields_of, parts_of}
use Rattle.status_worker.specs.Written.{written_field, written, EscapesMarks, HasBytes}
use Rattle.status_worker.proofs.FieldLemmas.{fields_in-part}

-- a byte of the set that is no byte of an escape isn't written
All-written : (set : AsciiSet) (mark : ℕ) (bs : List ℕ) → contains set mark ≡ true → (IsEscapeByte mark → ⊥) → All (λ b. (b == mark) ≡ false) (percent_encode set bs)
All-written set mark bs inside other =
    All-percent_encode (λ b. (b == mark) ≡ false) set bs
    (λ b kept. ne_eqb b mark (λ same. both_ways _ kept (rw same (escaped_from_inside set mark inside))))
    (λ b escape. ne_eqb b mark (λ same. other (rw (← same) escape)))

digit_glyph-value : (d : ℕ) → d < 16 → is_digit (digit_glyph true d) 16 ≡ true
digit_glyph-value d small = grind (arith, nat_tests)

digit_glyph-percent : (d : ℕ) → d < 16 → (digit_glyph true d == 37) ≡ false
digit_glyph-percent d small = grind (arith, nat_tests)

-- after an escape it goes on
behind_escape : (b : ℕ) (rest : List ℕ) → has_good_escapes (percent_encode_byte b ++ rest) ≡ has_good_escapes rest
unfolding percent_encode_byte
behind_escape b rest =
    let high = b / 16 % 16 in
    let low = b % 16 in
    rw (digit_glyph-value high (omega arith), digit_glyph-value low (omega arith), digit_glyph-percent high (omega arith), digit_glyph-percent low (omega arith)) refl

-- what is written has good escapes alone
good_escapes : (set : AsciiSet) (bs rest : List ℕ) → contains set 37 ≡ true → has_good_escapes (percent_encode set bs ++ rest) ≡ has_good_escapes rest
good_escapes set [] rest inside = rw percent_encode-nil refl
good_escapes set (b ∷ bs) rest inside =
    ⊎_elim
    (λ escaped. rw (percent_encode_escaped set b bs escaped) (ap has_good_escapes (append_assoc (percent_encode_byte b) (percent_encode set bs) rest) ∙ behind_escape b (percent_encode set bs ++ rest) ∙ good_escapes set bs rest inside))
    (λ kept. rw (percent_encode_kept set b bs kept)
    (let other : (b == 37) ≡ false = ne_eqb b 37 (λ same. both_ways _ kept (rw same (escaped_from_inside set 37 inside))) in
    rw other (good_escapes set bs rest inside)))
    (cases_Bool (should_percent_encode set b))

-- the first element that passes stands after those that don't
position_behind : (p : ℕ → Bool) (xs : List ℕ) (y : ℕ) (ys : List ℕ) → All (λ x. p x ≡ false) xs → p y ≡ true → position p (xs ++ y ∷ ys) ≡ Some (length xs)
position_behind p xs y ys fail passes =
    let at : position_or_len p (xs ++ y ∷ ys) ≡ length xs = first xs fail in
    let within : ltb (position_or_len p (xs ++ y ∷ ys)) (length (xs ++ y ∷ ys)) ≡ true = lt-ltb _ _ (omega (arith, at, length-append xs (y ∷ ys))) in
    cond-true _ _ _ within ∙ ap Some at
  where
    first : (xs : List ℕ) → All (λ x. p x ≡ false) xs → position_or_len p (xs ++ y ∷ ys) ≡ length xs
    first [] fail = cond-false (not (p y)) (1 + position_or_len p ys) 0 (not_from_true _ passes)
    first (x ∷ xs) fail =
        let later = first xs (All-tail (λ x. p x ≡ false) x xs fail) in
        cond-true (not (p x)) (1 + position_or_len p (xs ++ y ∷ ys)) 0 (not_from_false _ (All-head (λ x. p x ≡ false) x xs fail)) ∙ omega (arith, later)

module _ (set : AsciiSet) (marks : EscapesMarks set) where
  -- what is written for a field is read as it
  written_field_read : (field : Field) → HasBytes field → field_of (written_field set field) ≡ Some field
  written_field_read field bytes =
      let name = percent_encode set field.name in
      let value = percent_encode set field.value in
      let ends : has_good_escapes value ≡ true = ap has_good_escapes (sym (append-nil value)) ∙ good_escapes set field.value [] marks.percent in
      let good : has_good_escapes (name ++ 61 ∷ value) ≡ true = good_escapes set field.name (61 ∷ value) marks.percent ∙ ends in
      let at : position (λ b. b == 61) (name ++ 61 ∷ value) ≡ Some (length name) = position_behind (λ b. b == 61) name 61 value (All-written set 61 field.name marks.equals (λ e. omega arith)) refl in
      let front : take (length name) (name ++ 61 ∷ value) ≡ name = take-append_seam name (61 ∷ value) in
      let back : drop (length name + 1) (name ++ 61 ∷ value) ≡ value = drop-append-add name (61 ∷ value) 1 in
      cond-true _ _ _ good
      ∙ ap (λ o. option_map decoded_field (option_map (around (name ++ 61 ∷ value)) o)) at
      ∙ ap (λ (p : List ℕ × List ℕ). Some (decoded_field p)) (pair front back)
      ∙ ap (λ (p : List ℕ × List ℕ). Some (record { name = p.0; value = p.1 })) (pair (round_trip set field.name marks.percent bytes.name) (round_trip set field.value marks.percent bytes.value))
    where
      pair : {a b x y : List ℕ} → a ≡ x → b ≡ y → ◌≡◌ {A = List ℕ × List ℕ} (a, b) (x, y)
      pair h k = cc

  -- it is one part of the query
  written_field_whole : (field : Field) → All (λ b. (b == 38) ≡ false) (written_field set field)
  written_field_whole field =
      All-append (λ b. (b == 38) ≡ false) (percent_encode set field.name) (61 ∷ percent_encode set field.value)
      (All-written set 38 field.name marks.ampersand (λ e. omega arith))
      (All-cons (λ b. (b == 38) ≡ false) 61 (percent_encode set field.value) refl (All-written set 38 field.value marks.ampersand (λ e. omega arith)))

  written_field_some : (field : Field) → 0 < length (written_field set field)
  written_field_some field = omega (arith, length-append (percent_encode set field.name) (61 ∷ percent_encode set field.value))

  pub written_read : (fields : List Field) → All HasBytes fields → fields_of (written set fields) ≡ Some fields
  written_read [] bytes = refl
  written_read (f ∷ []) bytes =
      ap fields_in (slice_split_none (λ b. b == 38) (written_field set f) (written_field_whole f))
      ∙ fields_in-part (written_field set f) [] (written_field_some f)
      ∙ ap (λ o. in_front o (Some [])) (written_field_read f (All-head HasBytes f [] bytes))
  written_read (f ∷ g ∷ fields) bytes =
      let others = written_read (g ∷ fields) (All-tail HasBytes f (g ∷ fields) bytes) in
      ap fields_in (slice_split_at (λ b. b == 38) (written_field set f) 38 (written set (g ∷ fields)) (written_field_whole f) refl)
      ∙ fields_in-part (written_field set f) (parts_of (written set (g ∷ fields))) (written_field_some f)
      ∙ ap (λ o. in_front o (fields_of (written set (g ∷ fields)))) (written_field_read f (All-head HasBytes f (g ∷ fields) bytes))
      ∙ ap (in_front (Some f)) others
