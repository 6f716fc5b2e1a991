-- A number's digits are read as the number.
use Rattle.std.proofs.Common.{◌≡◌, ℕ, ◌^◌, ◌≤◌, ◌<◌, true, nat_le, Some, None, ap, ◌∙◌, decimal, arith}
use Rattle.std.proofs.lemmas.Bool.{cond-true, le-leb}
use Rattle.std.proofs.lemmas.Fmt.{decimal_is_IsNumeral_wide, length-decimal-le}
use Rattle.std.specs.Str.Parse.{digits_value, IsNumeral}
use Rattle.jk_io.specs.Decimals.{decimal_of, is_decimal}
use Rattle.jk_io.proofs.DecimalLaws.{is_decimal-IsDecimal}
use Rattle.play_script.specs.Values.{byte_count, number_up_to, short_number}
use Rattle.journal_text.specs.Wide.{is_wide, wide_number}
use Rattle.journal_text.proofs.WideLemmas.{is_wide-IsWide}

-- digits, at least one, whose number is the number
pub numeral : (n : ℕ) → n < 10 ^ 64 → IsNumeral 10 (decimal n) × (digits_value 10 (decimal n) ≡ n)
numeral n small = decimal_is_IsNumeral_wide n small

pub long_back : (n : ℕ) → n < 2 ^ 64 → decimal_of (decimal n) ≡ Some n
long_back n small =
    let told = decimal_is_IsNumeral_wide n (omega arith) in
    let is : is_decimal (decimal n) ≡ true = is_decimal-IsDecimal (decimal n) (record {
      some = told.0.0;
      short = length-decimal-le 20 n (omega arith) (omega arith) small;
      digits = told.0.1;
      small = rw told.1 small;
    }) in
    cond-true (is_decimal (decimal n)) (Some (digits_value 10 (decimal n))) None is ∙ ap Some told.1

pub up_to_back : (most n : ℕ) → n ≤ most → most < 2 ^ 64 → number_up_to most (decimal n) ≡ Some n
up_to_back most n small wide = rw (long_back n (omega arith)) (cond-true (nat_le n most) (Some n) None (le-leb n most small))

pub short_back : (n : ℕ) → n < 2 ^ 32 → short_number (decimal n) ≡ Some n
short_back n small = up_to_back 4294967295 n (omega arith) (omega arith)

pub bytes_back : (n : ℕ) → n ≤ 2 ^ 44 → byte_count (decimal n) ≡ Some n
bytes_back n small = up_to_back 17592186044416 n (omega arith) (omega arith)

pub wide_back : (n : ℕ) → n < 2 ^ 128 → wide_number (decimal n) ≡ Some n
wide_back n small =
    let told = decimal_is_IsNumeral_wide n (omega arith) in
    let is : is_wide (decimal n) ≡ true = is_wide-IsWide (decimal n) (record { some = told.0.0; digits = told.0.1; small = rw told.1 small }) in
    cond-true (is_wide (decimal n)) (Some (digits_value 10 (decimal n))) None is ∙ ap Some told.1
