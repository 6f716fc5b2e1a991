-- The two ways to say which number a text writes.
use Rattle.std.proofs.Common.{◌≡◌, ℕ, true, nat_lt, nat_le, ◌&&◌, List, [], ◌∷◌, length, Option, Some, None, refl, sym, ap, ◌∙◌}
use Rattle.std.specs.Prelude.{SomeIff}
use Rattle.std.proofs.lemmas.Bool.{and_parts, and_from, ltb-true, leb-true, lt-ltb, le-leb, cond-true, cond-false, false_from_ne_true}
use Rattle.std.specs.Char.{digit_value}
use Rattle.std.specs.Str.Parse.{AllDigits, digits_value}
use Rattle.jk_io.specs.Decimals.{IsDecimal, all_digits, is_decimal, decimal_of}

pub AllDigits-all_digits : (text : List ℕ) → all_digits text ≡ true → AllDigits 10 text
AllDigits-all_digits [] e = tt
AllDigits-all_digits (byte ∷ text) e =
    let parts = and_parts (nat_lt (digit_value byte) 10) (all_digits text) e in
    (ltb-true (digit_value byte) 10 parts.0, AllDigits-all_digits text parts.1)

pub all_digits-AllDigits : (text : List ℕ) → AllDigits 10 text → all_digits text ≡ true
all_digits-AllDigits [] h = refl
all_digits-AllDigits (byte ∷ text) h =
    and_from (nat_lt (digit_value byte) 10) (all_digits text) (lt-ltb (digit_value byte) 10 h.0) (all_digits-AllDigits text h.1)

pub IsDecimal-is_decimal : (text : List ℕ) → is_decimal text ≡ true → IsDecimal text
IsDecimal-is_decimal text e =
    let some = and_parts (nat_lt 0 (length text)) (nat_le (length text) 20 && (all_digits text && nat_lt (digits_value 10 text) 18446744073709551616)) e in
    let short = and_parts (nat_le (length text) 20) (all_digits text && nat_lt (digits_value 10 text) 18446744073709551616) some.1 in
    let last = and_parts (all_digits text) (nat_lt (digits_value 10 text) 18446744073709551616) short.1 in
    record {
      some = ltb-true 0 (length text) some.0;
      short = leb-true (length text) 20 short.0;
      digits = AllDigits-all_digits text last.0;
      small = ltb-true (digits_value 10 text) 18446744073709551616 last.1;
    }

pub is_decimal-IsDecimal : (text : List ℕ) → IsDecimal text → is_decimal text ≡ true
is_decimal-IsDecimal text h =
    and_from (nat_lt 0 (length text)) (nat_le (length text) 20 && (all_digits text && nat_lt (digits_value 10 text) 18446744073709551616))
    (lt-ltb 0 (length text) h.some)
    (and_from (nat_le (length text) 20) (all_digits text && nat_lt (digits_value 10 text) 18446744073709551616)
    (le-leb (length text) 20 h.short)
    (and_from (all_digits text) (nat_lt (digits_value 10 text) 18446744073709551616)
    (all_digits-AllDigits text h.digits)
    (lt-ltb (digits_value 10 text) 18446744073709551616 h.small)))

-- where the digits are told both ways, the answer is the number
pub SomeIff-decimal_of : (r : Option ℕ) (text : List ℕ) → SomeIff r (IsDecimal text) (digits_value 10 text) → r ≡ decimal_of text
SomeIff-decimal_of None text h =
    sym (cond-false (is_decimal text) (Some (digits_value 10 text)) None
    (false_from_ne_true (is_decimal text) (λ e. h (IsDecimal-is_decimal text e))))
SomeIff-decimal_of (Some n) text h =
    ap Some h.1 ∙ sym (cond-true (is_decimal text) (Some (digits_value 10 text)) None (is_decimal-IsDecimal text h.0))
