-- Which byte lists spell an integer, a string, and the headers of a message, in either direction.
use Rattle.std.specs.Prelude.{◌≡◌, ℕ, ◌+◌, ◌/◌, ◌%◌, ◌<◌, ◌⊎◌, Bool, true, IsTrue, List, [], ◌∷◌, ◌++◌, length, Option, Some, None, slice_get}

-- An integer below 65,536: two bytes, the high one first.
abbrev pub int : ℕ → List ℕ
int n = n / 256 ∷ n % 256 ∷ []

-- A string of at most 65,534 bytes: its length, its bytes, and a zero byte that the length does not count.
abbrev pub string : List ℕ → List ℕ
string text = int (length text) ++ (text ++ 0 ∷ [])

-- More bytes than a string has.
abbrev pub IsLongString : List ℕ → Type 0
IsLongString text = 65534 < length text

-- No string at all: the length 65,535, and nothing after it.
abbrev pub absent : List ℕ
absent = 255 ∷ 255 ∷ []

abbrev pub SpellsString : Option (List ℕ) → List ℕ → Type 0
SpellsString None bytes = bytes ≡ absent
SpellsString (Some text) bytes = (length text < 65535) × (bytes ≡ string text)

-- Where a string may be absent, an absent one reads as the empty one.
abbrev pub SpellsText : Bool → List ℕ → List ℕ → Type 0
SpellsText may_be_absent text bytes =
    SpellsString (Some text) bytes ⊎ (IsTrue may_be_absent × (text ≡ []) × (bytes ≡ absent))

-- A header's name: a code that its table has, or a string that is too short to be taken for a code.
-- The codes of a table are A001, A002 and so on, in its order.
abbrev pub SpellsName : List (List ℕ) → Bool → List ℕ → List ℕ → Type 0
SpellsName table may_be_absent name bytes =
    ((place : ℕ) × (slice_get table place ≡ Some name) × (bytes ≡ int (40961 + place)))
    ⊎ ((length name < 40960) × SpellsText may_be_absent name bytes)

-- A header: a name and a value, which may be absent.
abbrev pub SpellsHeader : List (List ℕ) → Bool → List ℕ × List ℕ → List ℕ → Type 0
SpellsHeader table absent_names header bytes =
    (name : List ℕ) × (value : List ℕ) × SpellsName table absent_names header.0 name
    × SpellsText true header.1 value × (bytes ≡ name ++ value)

-- Headers, one after another.
abbrev pub SpellsHeaders : List (List ℕ) → Bool → List (List ℕ × List ℕ) → List ℕ → Type 0
SpellsHeaders table absent_names [] bytes = bytes ≡ []
SpellsHeaders table absent_names (header ∷ headers) bytes =
    (first : List ℕ) × (rest : List ℕ) × SpellsHeader table absent_names header first
    × SpellsHeaders table absent_names headers rest × (bytes ≡ first ++ rest)
