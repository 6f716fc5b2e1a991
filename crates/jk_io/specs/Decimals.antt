-- Numbers in digits, and text without outer blanks.
use Rattle.std.specs.Prelude.{ℕ, ◌^◌, ◌<◌, ◌≤◌, Bool, true, ◌==◌, ◌||◌, ◌&&◌, nat_lt, nat_le, Option, Some, None, List, [], ◌∷◌, length, reverse, if◌then◌else◌}
use Rattle.std.specs.Char.{digit_value}
use Rattle.std.specs.Str.Parse.{AllDigits, digits_value}

-- 1 to 20 digits, whose number is that of a u64; leading zeros may stand
pub record IsDecimal (text : List ℕ) : Type 0 where
  pub some : 0 < length text
  pub short : length text ≤ 20
  pub digits : AllDigits 10 text
  pub small : digits_value 10 text < 2 ^ 64

-- each byte is a digit from 0 to 9
abbrev pub all_digits : List ℕ → Bool
all_digits [] = true
all_digits (byte ∷ text) = nat_lt (digit_value byte) 10 && all_digits text

-- the test that a text is decimal
abbrev pub is_decimal : List ℕ → Bool
is_decimal text =
    nat_lt 0 (length text) && (nat_le (length text) 20 && (all_digits text && nat_lt (digits_value 10 text) 18446744073709551616))

-- the number that a text writes, where it is decimal
abbrev pub decimal_of : List ℕ → Option ℕ
decimal_of text = if is_decimal text then Some (digits_value 10 text) else None

-- a space or a tab
abbrev pub is_blank : ℕ → Bool
is_blank byte = byte == 32 || byte == 9

-- without the blanks in front
abbrev pub drop_blanks : List ℕ → List ℕ
drop_blanks [] = []
drop_blanks (byte ∷ text) = if is_blank byte then drop_blanks text else byte ∷ text

-- without the blanks at both ends
abbrev pub trimmed : List ℕ → List ℕ
trimmed text = reverse (drop_blanks (reverse (drop_blanks text)))
