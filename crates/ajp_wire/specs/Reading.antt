-- Reading the fields of a payload from left to right, with the first place that can't be read. What is read is a
-- value and the bytes after it; a refusal counts its place from the end, so that it doesn't depend on what came before.
use Rattle.std.specs.Prelude.{◌≡◌, ℕ, zero, suc, ◌+◌, ◌-◌, ◌*◌, List, [], ◌∷◌, length, take, drop, Option, Some, None, Result, Ok, Err, Bool, true, false, nat_lt, ◌==◌, if◌then◌else◌}
use Rattle.ajp_wire.specs.declared.refusal.RefusalKind.{RefusalKind}
use Rattle.ajp_wire.specs.declared.refusal.RefusalKind.TheVariants.{Short, BadCode, BadMark, BadBoolean, Extra, TooMany, Absent}
use Rattle.ajp_wire.specs.declared.errors.DecodeError.{DecodeError}
use Rattle.ajp_wire.specs.declared.errors.DecodeError.TheVariants as errors
use Rattle.ajp_wire.specs.declared.refusal.Refusal.{Refusal}
use Rattle.ajp_wire.specs.declared.refusal.NotRead.{NotRead}
use Rattle.ajp_wire.specs.declared.refusal.NotRead.TheVariants as why

-- a field that was read, and the bytes after it; or the refusal
abbrev pub Reading : Type 0 → Type 0
Reading A = Result (A × List ℕ) Refusal

infixl 10 ◌>>=◌
abbrev pub ◌>>=◌ : {A B : Type 0} → Result A Refusal → (A → Result B Refusal) → Result B Refusal
(Ok x) >>= f = f x
(Err e) >>= f = Err e

-- A function's answer, seen by view, is that of reading, unless memory was wanted.
abbrev pub Halts : {Y : Type 0} → NotRead → Result Y Refusal → Type 0
Halts why.NoMemory read = Unit {0}
Halts (why.Refused r) read = read ≡ Err r

abbrev pub GivesReading : {X Y : Type 0} → (X → Y) → Result X NotRead → Result Y Refusal → Type 0
GivesReading view (Ok x) read = read ≡ Ok (view x)
GivesReading view (Err s) read = Halts s read

-- the refusal of what begins with these bytes
abbrev pub refused : {A : Type 0} → RefusalKind → List ℕ → Result A Refusal
refused kind bytes = Err (record { kind = kind; left = length bytes })

-- the error of a kind at a place, counted from the front
abbrev pub error_at : RefusalKind → ℕ → DecodeError
error_at Short at = errors.Short at
error_at BadCode at = errors.BadCode at
error_at BadMark at = errors.BadMark at
error_at BadBoolean at = errors.BadBoolean at
error_at Extra at = errors.Extra at
error_at TooMany at = errors.TooMany at
error_at Absent at = errors.Absent at

abbrev pub told : ℕ → NotRead → DecodeError
told len why.NoMemory = errors.NoMemory
told len (why.Refused r) = error_at r.kind (len - r.left)

-- A decoder's answer for a payload of this length is that of reading, unless memory was wanted.
abbrev pub TellsReading : {X : Type 0} → ℕ → Result X DecodeError → Result X Refusal → Type 0
TellsReading len (Ok x) read = read ≡ Ok x
TellsReading len (Err errors.NoMemory) read = Unit {0}
TellsReading len (Err e) read = (r : Refusal) × (read ≡ Err r) × (e ≡ error_at r.kind (len - r.left))

abbrev pub byte_at : List ℕ → Reading ℕ
byte_at [] = refused Short []
byte_at (b ∷ rest) = Ok (b, rest)

abbrev pub int_at : List ℕ → Reading ℕ
int_at [] = refused Short []
int_at (high ∷ []) = refused Short []
int_at (high ∷ low ∷ rest) = Ok (256 * high + low, rest)

-- what a string ends with: its zero byte
abbrev pub mark_at : List ℕ → List ℕ → Reading (List ℕ)
mark_at text [] = refused Short []
mark_at text (zero ∷ rest) = Ok (text, rest)
mark_at text (suc b ∷ rest) = refused BadMark (suc b ∷ rest)

-- a string's bytes, after its length
unfoldable pub marked_at : ℕ → List ℕ → Reading (List ℕ)
marked_at len bytes = mark_at (take len bytes) (drop len bytes)

-- a string, or its absence
unfoldable pub string_at : List ℕ → Reading (Option (List ℕ))
string_at bytes = do
  len ← int_at bytes
  if len.0 == 65535 then Ok (None, len.1) else (marked_at len.0 len.1 >>= λ text. Ok (Some text.0, text.1))

abbrev pub present : Bool → List ℕ → Option (List ℕ) × List ℕ → Reading (List ℕ)
present may_be_absent bytes (Some text, rest) = Ok (text, rest)
present true bytes (None, rest) = Ok ([], rest)
present false bytes (None, rest) = refused Absent bytes

-- a string in a place where its absence is read as no bytes, or is refused
unfoldable pub text_at : Bool → List ℕ → Reading (List ℕ)
text_at may_be_absent bytes = string_at bytes >>= present may_be_absent bytes

-- the name that a code of a table stands for; the table's first name has the code given first
abbrev pub named_from : ℕ → List (List ℕ) → ℕ → Option (List ℕ)
named_from code [] wanted = None
named_from code (known ∷ table) wanted = if code == wanted then Some known else named_from (code + 1) table wanted

-- a name that a table has
abbrev pub known_or : Option (List ℕ) → List ℕ → List ℕ → Reading (List ℕ)
known_or (Some name) bytes rest = Ok (name, rest)
known_or None bytes rest = refused BadCode bytes

-- a header's name: a string whose length is below A000, a code from A000 on, or absence
unfoldable pub name_at : List (List ℕ) → Bool → List ℕ → Reading (List ℕ)
name_at table absent_names bytes = do
  first ← int_at bytes
  if nat_lt first.0 40960 then marked_at first.0 first.1
      else (if first.0 == 65535 then present absent_names bytes (None, first.1)
      else known_or (named_from 40961 table first.0) bytes first.1)

-- a header: its name and its value, which may be absent
unfoldable pub header_at : List (List ℕ) → Bool → List ℕ → Reading (List ℕ × List ℕ)
header_at table absent_names bytes = do
  name ← name_at table absent_names bytes
  value ← text_at true name.1
  Ok ((name.0, value.0), value.1)

unfoldable pub header_list_at : List (List ℕ) → Bool → ℕ → List ℕ → Reading (List (List ℕ × List ℕ))
header_list_at table absent_names zero bytes = Ok ([], bytes)
header_list_at table absent_names (suc n) bytes = do
  first ← header_at table absent_names bytes
  others ← header_list_at table absent_names n first.1
  Ok (first.0 ∷ others.0, others.1)

-- the number of headers, at most 100, and the headers
unfoldable pub headers_at : List (List ℕ) → Bool → List ℕ → Reading (List (List ℕ × List ℕ))
headers_at table absent_names bytes = do
  count ← int_at bytes
  if nat_lt 100 count.0 then refused TooMany bytes else header_list_at table absent_names count.0 count.1
