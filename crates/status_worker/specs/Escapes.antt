-- Escapes in a query (RFC 3986, section 2.1): `%` and two hexadecimal digits stand for a byte.
use Rattle.std.specs.Prelude.{ℕ, Bool, true, not, ◌&&◌, ◌||◌, ◌==◌, List, [], ◌∷◌, slice_index}
use Rattle.std.specs.Char.{is_digit}

-- two hexadecimal digits at the front
abbrev pub begins_with_digits : List ℕ → Bool
begins_with_digits bytes = is_digit (slice_index bytes 0) 16 && is_digit (slice_index bytes 1) 16

-- two hexadecimal digits follow each `%`
abbrev pub has_good_escapes : List ℕ → Bool
has_good_escapes [] = true
has_good_escapes (b ∷ bytes) = (not (b == 37) || begins_with_digits bytes) && has_good_escapes bytes
