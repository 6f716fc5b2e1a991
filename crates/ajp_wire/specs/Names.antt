-- The codes that stand for the names of headers, and how a header is written.
use Rattle.std.specs.Prelude.{ℕ, ◌+◌, ◌<◌, List, [], ◌∷◌, ◌++◌, length, Option, Some, None, if◌then◌else◌}
use Rattle.std.specs.Str.{str_eq_ignore_ascii_case}
use Rattle.std.specs.List.{AllByRecursion}
use Rattle.ajp_wire.specs.Spelling.{int, string}

-- The code of the first name of the table that is this one in either case, where the table's codes begin with `code`.
abbrev pub code_from : ℕ → List (List ℕ) → List ℕ → Option ℕ
code_from code [] name = None
code_from code (known ∷ table) name =
    if str_eq_ignore_ascii_case known name then Some code else code_from (code + 1) table name

abbrev pub code_of : List (List ℕ) → List ℕ → Option ℕ
code_of table name = code_from 40961 table name

-- The name as its table spells it, and a name without a code as it is.
abbrev pub table_spelling : List (List ℕ) → List ℕ → List ℕ
table_spelling [] name = name
table_spelling (known ∷ table) name =
    if str_eq_ignore_ascii_case known name then known else table_spelling table name

abbrev pub coded_or_text : Option ℕ → List ℕ → List ℕ
coded_or_text (Some code) name = int code
coded_or_text None name = string name

-- A name is written as its code wherever it has one.
abbrev pub name_bytes : List (List ℕ) → List ℕ → List ℕ
name_bytes table name = coded_or_text (code_of table name) name

abbrev pub header_bytes : List (List ℕ) → List ℕ × List ℕ → List ℕ
header_bytes table header = name_bytes table header.0 ++ string header.1

abbrev pub headers_bytes : List (List ℕ) → List (List ℕ × List ℕ) → List ℕ
headers_bytes table [] = []
headers_bytes table (header ∷ headers) = header_bytes table header ++ headers_bytes table headers

-- A header that can be written: its name is no longer than 40,959 bytes, and its value than 65,534.
pub record FitsHeader (header : List ℕ × List ℕ) : Type 0 where
  pub name : length header.0 < 40960
  pub value : length header.1 < 65535

abbrev pub FitsHeaders : List (List ℕ × List ℕ) → Type 0
FitsHeaders headers = AllByRecursion FitsHeader headers

-- The headers as they are read again: each coded name in its table's spelling.
abbrev pub header_as_read : List (List ℕ) → List ℕ × List ℕ → List ℕ × List ℕ
header_as_read table header = (table_spelling table header.0, header.1)

abbrev pub headers_as_read : List (List ℕ) → List (List ℕ × List ℕ) → List (List ℕ × List ℕ)
headers_as_read table [] = []
headers_as_read table (header ∷ headers) = header_as_read table header ∷ headers_as_read table headers
