-- Names as words: each byte but letters, digits, `-`, `_` and `.` as an escape, and `%` alone for the empty name.
use Rattle.std.specs.Prelude.{ℕ, Bool, ◌==◌, ◌||◌, List, [], ◌∷◌, codes, if◌then◌else◌}
use Rattle.std.specs.Char.{is_ascii_alphanumeric}
use Rattle.std.specs.List.{flat_map}
use Rattle.std.specs.Str.{bytes_eq}
use Rattle.percent_encoding.specs.Percent.{percent_decode, percent_encode_byte}

-- a byte that stands for itself
abbrev pub is_plain : ℕ → Bool
is_plain byte = is_ascii_alphanumeric byte || (byte == 45 || (byte == 95 || byte == 46))

-- any other is `%` and its two upper-case hexadecimal digits
abbrev pub escaped_byte : ℕ → List ℕ
escaped_byte byte = if is_plain byte then byte ∷ [] else percent_encode_byte byte

abbrev pub escaped : List ℕ → List ℕ
escaped name = flat_map escaped_byte name

abbrev pub name_word : List ℕ → List ℕ
name_word [] = codes "%"
name_word (byte ∷ name) = escaped (byte ∷ name)

-- the name that a word stands for, if it is one
abbrev pub name_of : List ℕ → List ℕ
name_of word = if bytes_eq word (codes "%") then [] else percent_decode word
