-- Numbers of 128 bits in decimal digits.
use Rattle.std.specs.Prelude.{ℕ, ◌^◌, ◌<◌, Bool, ◌&&◌, nat_lt, List, length, Option, Some, None, if◌then◌else◌}
use Rattle.std.specs.Str.Parse.{AllDigits, digits_value}
use Rattle.jk_io.specs.Decimals.{all_digits}

-- one digit or more, whose number is below 2^128
pub record IsWide (text : List ℕ) : Type 0 where
  pub some : 0 < length text
  pub digits : AllDigits 10 text
  pub small : digits_value 10 text < 2 ^ 128

abbrev pub is_wide : List ℕ → Bool
is_wide text = nat_lt 0 (length text) && (all_digits text && nat_lt (digits_value 10 text) 340282366920938463463374607431768211456)

-- the number that a text writes, where it is one of 128 bits
abbrev pub wide_number : List ℕ → Option ℕ
wide_number text = if is_wide text then Some (digits_value 10 text) else None
