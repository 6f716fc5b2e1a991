-- The lines of a log: for each request the parts of the format, and LF.
use Rattle.std.specs.Prelude.{ℕ, ◌≡◌, ◌+◌, ◌-◌, ◌/◌, ◌%◌, ◌==◌, ◌||◌, nat_lt, Bool, Option, Some, None, List, [], ◌∷◌, ◌++◌, codes, decimal, drop, map, if◌then◌else◌}
use Rattle.std.specs.List.{All, before_first, flat_map, position_or_len}
use Rattle.httpdate.specs.Text.{two_digits, four_digits, month_name, time_of_day}
use Rattle.httpdate.specs.declared.date.HttpDate.{HttpDate}
use Rattle.lb_model.specs.declared.served.Asked.{Asked}
use Rattle.lb_model.specs.declared.served.Asked.TheVariants as asked
use Rattle.lb_model.specs.declared.served.Served.{Served}
use Rattle.request_log.specs.declared.format.Part.{Part}
use Rattle.request_log.specs.declared.format.Part.TheVariants as part
use Rattle.request_log.specs.declared.seen.Seen.{Seen}

-- ---- what could break a line or a field is escaped

-- a digit of base 16, of the lower case
abbrev pub hex_digit : ℕ → ℕ
hex_digit n = if nat_lt n 10 then 48 + n else 87 + n

-- a byte that doesn't stand as it is: a blank, a control byte, a byte above 126, `"` and `\`
abbrev pub is_escaped : ℕ → Bool
is_escaped byte = nat_lt byte 33 || nat_lt 126 byte || byte == 34 || byte == 92

abbrev pub escaped_byte : ℕ → List ℕ
escaped_byte byte = if is_escaped byte then codes "\\x" ++ hex_digit (byte / 16) ∷ hex_digit (byte % 16) ∷ [] else byte ∷ []

abbrev pub escaped : List ℕ → List ℕ
escaped text = flat_map escaped_byte text

-- ---- what was asked

-- the target up to its first `?`
abbrev pub path_of : List ℕ → List ℕ
path_of target = before_first (λ b. b == 63) target

-- the target from its first `?` on
abbrev pub query_of : List ℕ → List ℕ
query_of target = drop (position_or_len (λ b. b == 63) target) target

abbrev pub protocol_of : Bool → List ℕ
protocol_of old = if old then codes "HTTP/1.0" else codes "HTTP/1.1"

abbrev pub method_text : Asked → List ℕ
method_text asked.Refused = codes "-"
method_text (asked.Line method target old) = escaped method

abbrev pub path_text : Asked → List ℕ
path_text asked.Refused = codes "-"
path_text (asked.Line method target old) = escaped (path_of target)

abbrev pub query_text : Asked → List ℕ
query_text asked.Refused = []
query_text (asked.Line method target old) = escaped (query_of target)

abbrev pub first_text : Asked → List ℕ
first_text asked.Refused = codes "-"
first_text (asked.Line method target old) = escaped method ++ codes " " ++ escaped target ++ codes " " ++ protocol_of old

-- ---- what was answered, and what was seen besides

abbrev pub body_text : ℕ → List ℕ
body_text length' = if length' == 0 then codes "-" else decimal length'

abbrev pub worker_text : Option (List ℕ) → List ℕ
worker_text None = codes "-"
worker_text (Some name) = name

-- an address that isn't known is empty
abbrev pub client_text : List ℕ → List ℕ
client_text [] = codes "-"
client_text (byte ∷ addr) = escaped (byte ∷ addr)

abbrev pub date_pieces : (day month year time : List ℕ) → List ℕ
date_pieces day month year time = codes "[" ++ day ++ codes "/" ++ month ++ codes "/" ++ year ++ codes ":" ++ time ++ codes " +0000]"

-- `[29/Nov/2026:08:11:24 +0000]`
abbrev pub date_words : HttpDate → List ℕ
date_words date =
    date_pieces (two_digits date.parts.day) (month_name date.parts.mon) (four_digits date.parts.year) (time_of_day date.parts)

abbrev pub moment_text : Option HttpDate → List ℕ
moment_text None = codes "-"
moment_text (Some date) = date_words date

abbrev pub millis_text : Option ℕ → List ℕ
millis_text None = codes "-"
millis_text (Some millis) = decimal millis

-- the milliseconds from one moment to another, where both are known
abbrev pub between : Option ℕ → Option ℕ → Option ℕ
between (Some began) (Some ended) = Some (ended - began)
between _ _ = None

-- ---- a line

abbrev pub part_text : Served → Seen → Part → List ℕ
part_text row seen (part.Text byte) = byte ∷ []
part_text row seen part.Method = method_text row.asked
part_text row seen part.Path = path_text row.asked
part_text row seen part.Query = query_text row.asked
part_text row seen part.Status = decimal row.status
part_text row seen part.Body = body_text row.body
part_text row seen part.Worker = worker_text row.worker
part_text row seen part.First = first_text row.asked
part_text row seen part.Client = client_text seen.addr
part_text row seen part.Moment = moment_text seen.at
part_text row seen part.Millis = millis_text seen.took

abbrev pub line_of : List Part → Served → Seen → List ℕ
line_of format row seen = flat_map (part_text row seen) format ++ codes "\n"

-- ---- a log

-- a row, and what was seen of its request besides
pub record Logged : Type 0 where
  pub row : Served
  pub seen : Seen

abbrev pub logged_line : List Part → Logged → List ℕ
logged_line format logged = line_of format logged.row logged.seen

abbrev pub lines_of : List Part → List Logged → List ℕ
lines_of format logged = flat_map (logged_line format) logged

abbrev pub rows_of : List Logged → List Served
rows_of logged = map (λ (l : Logged). l.row) logged

-- nothing but the row is known
abbrev pub unseen : Seen
unseen = record { addr = []; at = None; took = None }

-- the lines of rows of which all the same was seen
abbrev pub lines_alike : List Part → Seen → List Served → List ℕ
lines_alike format seen rows = flat_map (λ (row : Served). line_of format row seen) rows

-- the log of rows of which nothing else is known
abbrev pub log_of : List Part → List Served → List ℕ
log_of format rows = lines_alike format unseen rows

-- A log of these rows, in order, of clients at this address: of each row the moment may have been seen.
pub record IsLogOf (format : List Part) (addr : List ℕ) (rows : List Served) (text : List ℕ) : Type 0 where
  pub logged : List Logged
  pub of_rows : rows_of logged ≡ rows
  pub of_addr : All (λ (l : Logged). l.seen.addr ≡ addr) logged
  pub lines : text ≡ lines_of format logged

-- the format has nothing that a row alone doesn't tell
abbrev pub IsOfRows : Part → Type 0
IsOfRows part.Client = ⊥
IsOfRows part.Moment = ⊥
IsOfRows part.Millis = ⊥
IsOfRows _ = Unit {0}
