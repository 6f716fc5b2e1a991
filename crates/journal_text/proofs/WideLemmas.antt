-- The two ways to say which number of 128 bits a text writes.
use Rattle.std.proofs.Common.{◌≡◌, ℕ, ◌+◌, ◌*◌, ◌^◌, ◌≤◌, ◌<◌, true, nat_lt, ◌&&◌, List, [], ◌∷◌, length, get_or, drop, Option, Some, None, sym, ap, ◌∙◌, arith}
use Rattle.std.specs.Prelude.{SomeIff}
use Rattle.std.proofs.lemmas.Bool.{and_parts, and_from, ltb-true, lt-ltb, cond-true, cond-false, false_from_ne_true}
use Rattle.std.proofs.lemmas.List.{drop_more}
use Rattle.std.specs.Char.{digit_value}
use Rattle.std.specs.Str.Parse.{digits_value, digits_value_after}
use Rattle.jk_io.specs.Decimals.{all_digits}
use Rattle.jk_io.proofs.DecimalLaws.{AllDigits-all_digits, all_digits-AllDigits}
use Rattle.journal_text.specs.Wide.{IsWide, is_wide, wide_number}

pub IsWide-is_wide : (text : List ℕ) → is_wide text ≡ true → IsWide text
IsWide-is_wide text e =
    let some = and_parts (nat_lt 0 (length text)) (all_digits text && nat_lt (digits_value 10 text) 340282366920938463463374607431768211456) e in
    let last = and_parts (all_digits text) (nat_lt (digits_value 10 text) 340282366920938463463374607431768211456) some.1 in
    record {
      some = ltb-true 0 (length text) some.0;
      digits = AllDigits-all_digits text last.0;
      small = ltb-true (digits_value 10 text) 340282366920938463463374607431768211456 last.1;
    }

pub is_wide-IsWide : (text : List ℕ) → IsWide text → is_wide text ≡ true
is_wide-IsWide text h =
    and_from (nat_lt 0 (length text)) (all_digits text && nat_lt (digits_value 10 text) 340282366920938463463374607431768211456)
    (lt-ltb 0 (length text) h.some)
    (and_from (all_digits text) (nat_lt (digits_value 10 text) 340282366920938463463374607431768211456)
    (all_digits-AllDigits text h.digits)
    (lt-ltb (digits_value 10 text) 340282366920938463463374607431768211456 h.small))

pub SomeIff-wide_number : (r : Option ℕ) (text : List ℕ) → SomeIff r (IsWide text) (digits_value 10 text) → r ≡ wide_number text
SomeIff-wide_number None text h =
    sym (cond-false (is_wide text) (Some (digits_value 10 text)) None
    (false_from_ne_true (is_wide text) (λ e. h (IsWide-is_wide text e))))
SomeIff-wide_number (Some n) text h =
    ap Some h.1 ∙ sym (cond-true (is_wide text) (Some (digits_value 10 text)) None (is_wide-IsWide text h.0))

-- further digits make no number smaller
after-le : (v : ℕ) (text : List ℕ) → v ≤ digits_value_after 10 v text
after-le v [] = omega arith
after-le v (byte ∷ text) = omega (arith, after-le (v * 10 + digit_value byte) text)

-- where the number so far is too wide with the next digit, the whole is
pub too_wide : (v : ℕ) (text : List ℕ) (i : ℕ) → i < length text → 2 ^ 128 ≤ v * 10 + digit_value (get_or text i 0)
    → digits_value_after 10 v (drop i text) ≡ digits_value 10 text → ¬ IsWide text
too_wide v text i inside wide same h =
    let goes_on = ap (digits_value_after 10 v) (drop_more text i 0 inside) in
    omega (arith, h.small, same, goes_on, after-le (v * 10 + digit_value (get_or text i 0)) (drop (i + 1) text))
