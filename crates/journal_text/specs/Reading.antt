-- How a text is read, line by line: where its reader stands, and what each line makes of that.
use Rattle.std.specs.Prelude.{◌≡◌, ℕ, ◌+◌, ◌==◌, ◌&&◌, Bool, true, false, nat_le, nat_lt, List, [], ◌∷◌, ◌++◌, length, Option, Some, None, Result, Ok, Err, MatchOption, if◌then◌else◌}
use Rattle.lb_model.specs.declared.journal.Entry.{Entry}
use Rattle.lb_model.specs.declared.segment.Segment.{Segment}
use Rattle.lb_model.specs.Segments.{AreKeptEntries}
use Rattle.play_script.specs.Parts.{parts_of}
use Rattle.journal_text.specs.Readings.{line_of}
use Rattle.journal_text.specs.declared.line.Beginning.{Beginning}
use Rattle.journal_text.specs.declared.line.Line.{Line}
use Rattle.journal_text.specs.declared.line.Line.TheVariants as line
use Rattle.journal_text.specs.declared.line.MemberValues.{MemberValues}
use Rattle.journal_text.specs.Openings.{Begins, config_of, row_of}
use Rattle.journal_text.specs.declared.counted.Counted.{Counted}
use Rattle.journal_text.specs.declared.draft.OpeningDraft.{OpeningDraft}
use Rattle.journal_text.specs.declared.reader.TextPlace.{TextPlace}
use Rattle.journal_text.specs.declared.reader.TextPlace.TheVariants as place
use Rattle.journal_text.specs.declared.reader.Reader.{Reader}
use Rattle.journal_text.specs.declared.text_error.TextError.{TextError}
use Rattle.journal_text.specs.declared.text_error.TextError.TheVariants as error

-- The rules of the present segment; between segments those of the last one.
abbrev pub rules_at : TextPlace → ℕ
rules_at (place.Outside former) = former
rules_at (place.Ruled rules) = rules
rules_at (place.Heading rules d) = rules
rules_at (place.Body name s) = s.rules

-- Between segments: one of rules 1 doesn't follow one of rules 2.
abbrev pub begun : (former : ℕ) → (done : List Counted) → Line → Option Reader
begun former done (line.Rules v) = if nat_le former v then Some (record { place = place.Ruled v; done = done }) else None
begun former done other = None

-- In an opening of these rules.
abbrev pub headed : (rules : ℕ) → (done : List Counted) → OpeningDraft → Reader
headed rules done d = record { place = place.Heading rules d; done = done }

-- After the line of the rules: the balancer.
abbrev pub named : (rules : ℕ) → (done : List Counted) → Line → Option Reader
named rules done (line.Balancer name values) = Some (headed rules done (record { name = name; values = values; members = []; rows = []; out = [] }))
named rules done other = None

abbrev pub with_member : OpeningDraft → (name route : List ℕ) → MemberValues → OpeningDraft
with_member d name route v = record {
  name = d.name;
  values = d.values;
  members = d.members ++ config_of name route v ∷ [];
  rows = d.rows ++ row_of name v ∷ [];
  out = d.out;
}

abbrev pub with_ticket : OpeningDraft → (ticket member : ℕ) → OpeningDraft
with_ticket d ticket member = record {
  name = d.name;
  values = d.values;
  members = d.members;
  rows = d.rows;
  out = d.out ++ (ticket, member) ∷ [];
}

-- As many members as the balancer's line says, and then the tickets that are out.
abbrev pub is_full : OpeningDraft → Bool
is_full d = length d.members == d.values.members

-- Among the entries of a segment.
abbrev pub in_body : (done : List Counted) → (name : List ℕ) → Segment → Reader
in_body done name s = record { place = place.Body name s; done = done }

-- The opening is whole: a segment begins where one may begin so.
abbrev pub Opens : (rules : ℕ) → (done : List Counted) → OpeningDraft → Beginning → Option Reader → Type 0
Opens rules done d b found =
    MatchOption found
    (is_full d ≡ true → (s : Segment) → ¬ Begins rules d b s)
    (λ q. (is_full d ≡ true) × (s : Segment) × Begins rules d b s × (q ≡ in_body done d.name s))

-- A further member or ticket, or the opening's last line.
abbrev pub Heads : (rules : ℕ) → (done : List Counted) → OpeningDraft → Line → Option Reader → Type 0
Heads rules done d (line.Member name route v) found =
    found ≡ (if is_full d then None else Some (headed rules done (with_member d name route v)))
Heads rules done d (line.Lease ticket member) found =
    found ≡ (if is_full d then Some (headed rules done (with_ticket d ticket member)) else None)
Heads rules done d (line.From b) found = Opens rules done d b found
Heads rules done d other found = found ≡ None

-- A segment with a further entry.
abbrev pub with_entry : (s : Segment) → (e : Entry) → AreKeptEntries s.rules (s.entries ++ e ∷ []) → Segment
with_entry s e kept = record {
  rules = s.rules;
  opening = s.opening;
  entries = s.entries ++ e ∷ [];
  versions = s.versions;
  valid = s.valid;
  kept = kept;
}

-- A further entry, or the segment's end.
abbrev pub Continues : (done : List Counted) → (name : List ℕ) → Segment → Line → Option Reader → Type 0
Continues done name s (line.Entry e) found =
    (kept : AreKeptEntries s.rules (s.entries ++ e ∷ [])) × (found ≡ Some (in_body done name (with_entry s e kept)))
Continues done name s (line.End count) found =
    found ≡ Some (record { place = place.Outside s.rules; done = done ++ record { name = name; segment = s; count = count } ∷ [] })
Continues done name s other found = found ≡ None

-- The reader after a line, by where it stands; none where the line is out of its place.
abbrev pub TakesAt : (done : List Counted) → TextPlace → Line → Option Reader → Type 0
TakesAt done (place.Outside former) l found = found ≡ begun former done l
TakesAt done (place.Ruled rules) l found = found ≡ named rules done l
TakesAt done (place.Heading rules d) l found = Heads rules done d l found
TakesAt done (place.Body name s) l found = Continues done name s l found

-- The reader after a line's text; none where it isn't of the form of a line, or is out of its place.
abbrev pub TakesText : Reader → (text : List ℕ) → Option Reader → Type 0
TakesText r text found = MatchOption (line_of (rules_at r.place) text) (found ≡ None) (λ l. TakesAt r.done r.place l found)

-- Why a line with this number isn't taken. Want of memory says nothing.
abbrev pub RefusesTextLine : Reader → (number : ℕ) → (text : List ℕ) → TextError → Type 0
RefusesTextLine r number text (error.Unreadable line) = (line ≡ number) × TakesText r text None
RefusesTextLine r number text error.NoMemory = Unit {0}

-- A text is read as segments, each with the count of its last line, or can't be read at a line.
pub data TextOutcome : Type 0 where
  readable : List Counted → TextOutcome
  unreadable : (number : ℕ) → TextOutcome

abbrev pub is_outside : TextPlace → Bool
is_outside (place.Outside former) = true
is_outside other = false

abbrev pub is_body : TextPlace → Bool
is_body (place.Body name s) = true
is_body other = false

-- The segment under way was taken out, and the reader stands between segments.
pub record TakesOpening (r : Reader) (name : List ℕ) (s : Segment) (q : Reader) : Type 0 where
  pub stood : r.place ≡ place.Body name s
  pub stands : q ≡ record { place = place.Outside s.rules; done = r.done }

-- How many members and tickets the reader holds.
abbrev pub held : TextPlace → ℕ
held (place.Heading rules d) = length d.rows + length d.out
held other = 0

-- A text may end here that has a segment; `last` is what stands after its last LF.
abbrev pub is_over : Reader → (last : List ℕ) → Bool
is_over r last = (length last == 0) && is_outside r.place

-- At the end of the text `last` is what stands after the last LF.
abbrev pub is_end : Reader → (last : List ℕ) → Bool
is_end r last = (length last == 0) && (is_outside r.place && nat_lt 0 (length r.done))

abbrev pub ended : Reader → (number : ℕ) → (last : List ℕ) → TextOutcome
ended r number last = if is_end r last then readable r.done else unreadable number

-- How the lines are read from here on, the first of which has the number.
abbrev pub ReadsLines : Reader → (number : ℕ) → List (List ℕ) → TextOutcome → Type 0
ReadsLines r number [] outcome = ⊥
ReadsLines r number (last ∷ []) outcome = outcome ≡ ended r number last
ReadsLines r number (text ∷ next ∷ lines) outcome =
    (found : Option Reader) × TakesText r text found
    × MatchOption found (outcome ≡ unreadable number) (λ q. ReadsLines q (number + 1) (next ∷ lines) outcome)

-- Before the first line; the first segment may have either rules.
abbrev pub at_start : Reader
at_start = record { place = place.Outside 1; done = [] }

-- How a text is read.
abbrev pub ReadsText : (text : List ℕ) → TextOutcome → Type 0
ReadsText text outcome = ReadsLines at_start 1 (parts_of 10 text) outcome

-- An answer says what the text is read as; want of memory says nothing.
abbrev pub TellsOutcome : Result (List Counted) TextError → (TextOutcome → Type 0) → Type 0
TellsOutcome (Ok done) Says = Says (readable done)
TellsOutcome (Err (error.Unreadable line)) Says = Says (unreadable line)
TellsOutcome (Err error.NoMemory) Says = Unit {0}
