-- A name's word is read as the name.
use Rattle.std.proofs.Common.{◌≡◌, ℕ, ◌+◌, ◌*◌, ◌/◌, ◌%◌, ◌<◌, true, false, nat_le, List, [], ◌∷◌, ◌++◌, refl, ap, ◌∙◌, codes, arith, ⊎_elim}
use Rattle.std.specs.Char.{digit_value}
use Rattle.std.specs.Fmt.{digit_glyph}
use Rattle.std.specs.Str.{bytes_eq}
use Rattle.std.proofs.lemmas.Bool.{cond-true, cond-false, cases_Bool, cond_both}
use Rattle.std.proofs.lemmas.Bool.Decides.{nat_tests}
use Rattle.std.proofs.lemmas.List.Elements.{All-head, All-tail}
use Rattle.percent_encoding.specs.Percent.{percent_decode, percent_encode_byte}
use Rattle.percent_encoding.proofs.PercentLemmas.{percent_decode-nil, percent_decode_escape, percent_decode_not_percent}
use Rattle.journal_text.specs.Names.{escaped, escaped_byte, is_plain, name_of, name_word}
use Rattle.journal_text.specs.Ranges.{AreBytes}
use Rattle.journal_text.proofs.SplitFacts.{IsGraphic, graphic_append}

plain_is_graphic : (b : ℕ) → is_plain b ≡ true → (nat_le 33 b ≡ true) × (b ≡ 37 → ⊥)
plain_is_graphic b h = (grind (arith, nat_tests), λ e. grind (arith, nat_tests))

glyph_back : (d : ℕ) → d < 16 → digit_value (digit_glyph true d) ≡ d
glyph_back d small = grind (arith, nat_tests)

glyph_graphic : (d : ℕ) → d < 16 → nat_le 33 (digit_glyph true d) ≡ true
glyph_graphic d small = grind (arith, nat_tests)

escape_back : (b : ℕ) (rest : List ℕ) → b < 256 → percent_decode (percent_encode_byte b ++ rest) ≡ b ∷ percent_decode rest
unfolding percent_encode_byte
escape_back b rest small =
    let high = glyph_back (b / 16 % 16) (omega arith) in
    let low = glyph_back (b % 16) (omega arith) in
    let whole : 16 * digit_value (digit_glyph true (b / 16 % 16)) + digit_value (digit_glyph true (b % 16)) ≡ b = omega (arith, high, low) in
    percent_decode_escape 37 (digit_glyph true (b / 16 % 16)) (digit_glyph true (b % 16)) rest refl (omega (arith, high)) (omega (arith, low))
    ∙ ap (λ x. x ∷ percent_decode rest) whole

byte_back : (b : ℕ) (rest : List ℕ) → b < 256 → percent_decode (escaped_byte b ++ rest) ≡ b ∷ percent_decode rest
byte_back b rest small =
    ⊎_elim
    (λ plain. ap (λ w. percent_decode (w ++ rest)) (cond-true (is_plain b) (b ∷ []) (percent_encode_byte b) plain) ∙ percent_decode_not_percent b rest (plain_is_graphic b plain).1)
    (λ other. ap (λ w. percent_decode (w ++ rest)) (cond-false (is_plain b) (b ∷ []) (percent_encode_byte b) other) ∙ escape_back b rest small)
    (cases_Bool (is_plain b))

escaped_back : (name : List ℕ) → AreBytes name → percent_decode (escaped name) ≡ name
escaped_back [] h = percent_decode-nil
escaped_back (b ∷ name) h =
    byte_back b (escaped name) (All-head (λ x. x < 256) b name h) ∙ ap (λ n. b ∷ n) (escaped_back name (All-tail (λ x. x < 256) b name h))

-- a name that isn't empty isn't written as `%`
not_percent : (b : ℕ) (rest : List ℕ) → bytes_eq (escaped_byte b ++ rest) (codes "%") ≡ false
unfolding percent_encode_byte
not_percent b rest =
    ⊎_elim
    (λ plain. ap (λ w. bytes_eq (w ++ rest) (codes "%")) (cond-true (is_plain b) (b ∷ []) (percent_encode_byte b) plain) ∙ (let other = (plain_is_graphic b plain).1 in grind (arith, nat_tests, other)))
    (λ other. ap (λ w. bytes_eq (w ++ rest) (codes "%")) (cond-false (is_plain b) (b ∷ []) (percent_encode_byte b) other))
    (cases_Bool (is_plain b))

pub name_back : (name : List ℕ) → AreBytes name → name_of (name_word name) ≡ name
name_back [] h = refl
name_back (b ∷ name) h =
    cond-false _ [] (percent_decode (escaped (b ∷ name))) (not_percent b (escaped name)) ∙ escaped_back (b ∷ name) h

escape_graphic : (b : ℕ) → IsGraphic (percent_encode_byte b)
unfolding percent_encode_byte
escape_graphic b = rw (glyph_graphic (b / 16 % 16) (omega arith), glyph_graphic (b % 16) (omega arith)) refl

byte_graphic : (b : ℕ) → IsGraphic (escaped_byte b)
byte_graphic b =
    cond_both (is_plain b) (b ∷ []) (percent_encode_byte b) IsGraphic
    (λ plain. rw (plain_is_graphic b plain).0 refl)
    (λ _. escape_graphic b)

escaped_graphic : (name : List ℕ) → IsGraphic (escaped name)
escaped_graphic [] = refl
escaped_graphic (b ∷ name) = graphic_append (escaped_byte b) (escaped name) (byte_graphic b) (escaped_graphic name)

pub name_graphic : (name : List ℕ) → IsGraphic (name_word name)
name_graphic [] = refl
name_graphic (b ∷ name) = escaped_graphic (b ∷ name)
