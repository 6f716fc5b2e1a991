-- Names of workers, and lists of names.
use Rattle.std.specs.Prelude.{ℕ, Bool, List, ◌∷◌, ◌==◌, ◌||◌, ◌&&◌, nat_le, nat_lt, length, filter, if◌then◌else◌}
use Rattle.std.specs.List.{slice_split, list_all}
use Rattle.site_config.specs.Cut.{is_separator}

abbrev pub is_letter_or_digit : ℕ → Bool
is_letter_or_digit b = (nat_le 48 b && nat_le b 57) || ((nat_le 65 b && nat_le b 90) || (nat_le 97 b && nat_le b 122))

-- a letter, a digit, '-' or '_'
abbrev pub is_name_byte : ℕ → Bool
is_name_byte b = is_letter_or_digit b || ((b == 45) || (b == 95))

-- at least one byte, and each one a name's
abbrev pub is_name : List ℕ → Bool
is_name text = nat_lt 0 (length text) && list_all is_name_byte text

-- a word in front of others, unless it is empty
abbrev pub word_first : List ℕ → List (List ℕ) → List (List ℕ)
word_first word more = if nat_lt 0 (length word) then word ∷ more else more

-- the words of a list: what stands between commas, spaces and tabs, where anything does
abbrev pub words : List ℕ → List (List ℕ)
words text = filter (λ word. nat_lt 0 (length word)) (slice_split is_separator text)
