-- The check of segments, one after the other, and how many lines of a further one are read.
use Rattle.std.specs.Prelude.{◌≡◌, ℕ, ◌+◌, ◌^◌, ◌<◌, ◌≤◌, ◌⊎◌, List, ◌++◌, length, reverse, Option, Some, None, Result, Ok, Err}
use Rattle.lb_book.specs.Journal.{Journal, past_of}
use Rattle.lb_model.specs.Legal.{IsLegal}
use Rattle.lb_model.specs.Present.{IsEnding}
use Rattle.lb_model.specs.Validity.{IsOpening}
use Rattle.lb_model.specs.declared.journal.Entry.{Entry}
use Rattle.lb_model.specs.declared.opening.Opening.{Opening}
use Rattle.journal_text.specs.SegmentText.{opening_lines}
use Rattle.journal_text.specs.Written.{lines_of}
use Rattle.journal_text.specs.declared.counted.Counted.{Counted}
use Rattle.journal_text.specs.declared.reader.TextPlace.{TextPlace}
use Rattle.journal_text.specs.declared.reader.TextPlace.TheVariants as place
use Rattle.journal_text.specs.declared.reader.Reader.{Reader}
use Rattle.journal_verdict.specs.Rulings.{IsFirstWrong}
use Rattle.journal_verdict.specs.Verdicts.{AreRight, Former, IsFirstBadLine, IsRight, IsWrongAt, Joins, entries_in, lines_before, lines_in}
use Rattle.journal_verdict.specs.declared.ruling.Ruling.{Ruling}
use Rattle.journal_verdict.specs.declared.ruling.Ruling.TheVariants as ruling
use Rattle.journal_verdict.specs.declared.ruling.Verdict.{Verdict}
use Rattle.journal_verdict.specs.declared.ruling.Verdict.TheVariants as verdict
use Rattle.journal_verdict.specs.declared.ruling.Wrong.{Wrong}
use Rattle.journal_verdict.specs.declared.reached.Check.{Check}
use Rattle.journal_verdict.specs.declared.reached.Check.TheVariants as check
use Rattle.journal_verdict.specs.declared.reached.Reached.{Reached}

abbrev pub at_first : Reached
at_first = record { former = None; lines = 0; entries = 0 }

-- The place that is reached after a further segment that ends so.
abbrev pub past : Reached → Counted → Opening → Reached
past r c ending = record {
  former = Some (c.name, ending);
  lines = r.lines + length (lines_of c);
  entries = r.entries + length c.segment.entries;
}

-- The former segment's end is an opening.
abbrev pub IsFormer : Former → Type 0
IsFormer None = Unit {0}
IsFormer (Some (name, ending)) = IsOpening ending

-- The last line of a segment, at this place after its first entry, says another count than the place.
abbrev pub IsOtherCount : (place count : ℕ) → Wrong → Type 0
IsOtherCount place count w = (w.at ≡ place) × (w.kept ≡ ruling.Count count) × (w.ruled ≡ ruling.Count place) × ¬ (count ≡ place)

-- Where a Book's journal ends.
abbrev pub EndsAt : Journal → Opening → Type 0
EndsAt b ending = IsEnding b.rules b.opening (past_of b) ending × IsOpening ending

-- Where entries and their count lead from an opening: to its end, or to the first that is wrong.
abbrev pub Leaves : (v : ℕ) → Opening → List Entry → (count : ℕ) → Result Opening Wrong → Type 0
Leaves v o es count (Ok ending) = IsLegal v o es × (count ≡ length es) × IsEnding v o (reverse es) ending × IsOpening ending
Leaves v o es count (Err w) =
    (w.at ≤ length es) × (IsFirstWrong v o es w.at w.kept w.ruled ⊎ (IsLegal v o es × IsOtherCount (length es) count w))

-- The judgement on a segment's opening after the former segment's end.
abbrev pub JudgesOpening : Former → Counted → Option Wrong → Type 0
JudgesOpening former c None = Joins former c
JudgesOpening former c (Some w) = IsWrongAt former c (1 + w.at) w.kept w.ruled × (1 + w.at < lines_before c)

-- Where a segment's entries and their count lead, under its name.
abbrev pub LeavesAs : Counted → Result (List ℕ × Opening) Wrong → Type 0
LeavesAs c (Ok (name, ending)) = (name ≡ c.name) × Leaves c.segment.rules c.segment.opening c.segment.entries c.count (Ok ending)
LeavesAs c (Err w) = Leaves c.segment.rules c.segment.opening c.segment.entries c.count (Err w)

-- The end of a segment whose opening is right, after this many lines and entries.
abbrev pub EndsSegment : (lines entries : ℕ) → Counted → Check → Type 0
EndsSegment lines entries c (check.Good q) =
    (ending : Opening) × Leaves c.segment.rules c.segment.opening c.segment.entries c.count (Ok ending)
    × (q ≡ past (record { former = None; lines = lines; entries = entries }) c ending)
EndsSegment lines entries c (check.Bad v) =
    (w : Wrong) × Leaves c.segment.rules c.segment.opening c.segment.entries c.count (Err w)
    × (v ≡ verdict.Bad (lines + (lines_before c + w.at) + 1) w.kept w.ruled)

-- The check after a further segment.
abbrev pub After : Reached → Counted → Check → Type 0
After r c (check.Good q) =
    IsRight r.former c × IsFormer q.former × (ending : Opening)
    × IsEnding c.segment.rules c.segment.opening (reverse c.segment.entries) ending × (q ≡ past r c ending)
After r c (check.Bad v) =
    (i : ℕ) × (kept ruled : Ruling) × IsWrongAt r.former c i kept ruled × (v ≡ verdict.Bad (r.lines + i + 1) kept ruled)

-- There is room for the numbers of a further segment's lines and entries.
abbrev pub HasCountRoom : Check → Counted → Type 0
HasCountRoom (check.Good q) c =
    IsFormer q.former × (q.lines + length (lines_of c) < 2 ^ 32) × (q.entries + length c.segment.entries < 2 ^ 64)
HasCountRoom (check.Bad v) c = Unit {0}

-- The check after a further segment, unless one before it was wrong.
abbrev pub Leads : Check → Counted → Check → Type 0
Leads (check.Good q) c after = After q c after
Leads (check.Bad v) c after = after ≡ check.Bad v

-- How many lines of a segment were read.
abbrev pub lines_taken : TextPlace → ℕ
lines_taken (place.Outside former) = 0
lines_taken (place.Ruled rules) = 1
lines_taken (place.Heading rules d) = 2 + length d.rows + length d.out
lines_taken (place.Body name s) = 1 + length (opening_lines name s.opening) + length s.entries

abbrev pub verdict_of : Check → Verdict
verdict_of (check.Good q) = verdict.Good q.entries
verdict_of (check.Bad v) = v

-- These segments come to the verdict that a line is bad.
abbrev pub AreBadSegments : List Counted → Verdict → Type 0
AreBadSegments cs (verdict.Good entries) = ⊥
AreBadSegments cs (verdict.Bad line kept ruled) = IsFirstBadLine cs line kept ruled

-- The check of these segments.
abbrev pub Comes : List Counted → Check → Type 0
Comes cs (check.Good q) = AreRight None cs q.former × IsFormer q.former × (q.lines ≡ lines_in cs) × (q.entries ≡ entries_in cs)
Comes cs (check.Bad v) = AreBadSegments cs v

-- The reader, with further segments before its own.
abbrev pub front : List Counted → Reader → Reader
front before r = record { place = r.place; done = before ++ r.done }
