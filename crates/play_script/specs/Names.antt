-- Names of members: their bytes, and the member that has one.
use Rattle.std.specs.Prelude.{ℕ, Bool, not, ◌&&◌, ◌||◌, ◌==◌, List, Option, length, position}
use Rattle.std.specs.List.{list_all}
use Rattle.std.specs.Char.{is_ascii_alphanumeric}
use Rattle.std.specs.Str.{bytes_eq}

-- a letter, a digit, `-` or `_`
abbrev pub is_name_byte : ℕ → Bool
is_name_byte byte = is_ascii_alphanumeric byte || (byte == 45 || byte == 95)

-- a name has one such byte or more, and no other
abbrev pub is_name : List ℕ → Bool
is_name text = not (length text == 0) && list_all is_name_byte text

-- the first member that has the name
abbrev pub index_of : List (List ℕ) → List ℕ → Option ℕ
index_of names name = position (λ n. bytes_eq n name) names
