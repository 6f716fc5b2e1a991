-- The stand of a journal's text, known after some lines, and the next line: taken, or refused.
use Rattle.std.specs.Prelude.{◌≡◌, ◌≢◌, ℕ, ◌-◌, Bool, true, false, List, [], ◌∷◌, ◌++◌, length, reverse, Option, Some, None, slice_index_or}
use Rattle.lb_model.specs.Legal.{IsNext}
use Rattle.lb_model.specs.Present.{IsEnding}
use Rattle.lb_model.specs.declared.journal.Entry.{Entry}
use Rattle.lb_model.specs.declared.opening.Opening.{Opening}
use Rattle.journal_text.specs.Readings.{line_of}
use Rattle.journal_text.specs.declared.line.Line.{Line}
use Rattle.journal_text.specs.declared.line.Line.TheVariants as line
use Rattle.journal_text.specs.Reading.{TakesText, at_start, is_outside}
use Rattle.journal_text.specs.declared.reader.Reader.{Reader}
use Rattle.journal_text.specs.declared.reader.TextPlace.{TextPlace}
use Rattle.journal_text.specs.declared.reader.TextPlace.TheVariants as place
use Rattle.journal_verdict.specs.Checks.{lines_taken}
use Rattle.journal_verdict.specs.Rulings.{Differs}
use Rattle.journal_verdict.specs.Verdicts.{opening_texts}
use Rattle.journal_verdict.specs.declared.ruling.Ruling.{Ruling}
use Rattle.journal_verdict.specs.declared.ruling.Ruling.TheVariants as ruling
use Rattle.journal_verdict.specs.declared.error.FollowError.{FollowError}
use Rattle.journal_verdict.specs.declared.error.FollowError.TheVariants as wrong

-- The last opening that is whole, under its balancer's name, and the entries after it.
pub record RunState : Type 0 where
  pub name : List ℕ
  pub rules : ℕ
  pub opening : Opening
  pub entries : List Entry

-- The stand after some lines: where the text is read, whether that is among the entries of the run, and the run.
pub record Stand : Type 0 where
  pub reader : Reader
  pub run : Option RunState
  pub among : Bool

abbrev pub at_first : Stand
at_first = record { reader = at_start; run = None; among = false }

-- The line at this place, from 0, of an opening that goes on where the run ended; empty past its end.
pub record IsExpected (run : RunState) (at : ℕ) (text : List ℕ) : Type 0 where
  pub ending : Opening
  pub ends : IsEnding run.rules run.opening (reverse run.entries) ending
  pub line : text ≡ slice_index_or (opening_texts run.rules run.name ending) at []

-- A line of an opening has what it ought to have: anything in the first opening, and else what the run ended with.
abbrev pub Agrees : Option RunState → TextPlace → (text : List ℕ) → Type 0
Agrees None p text = Unit {0}
Agrees (Some run) (place.Outside former) text = Unit {0}
Agrees (Some run) p text = IsExpected run (lines_taken p - 1) text

-- after a line of an opening, or one between segments
abbrev pub headed : Stand → TextPlace → Reader → Stand
headed s (place.Body name segment) q = record {
  reader = record { place = place.Outside segment.rules; done = q.done };
  run = Some (record { name = name; rules = segment.rules; opening = segment.opening; entries = [] });
  among = true;
}
headed s other q = record { reader = q; run = s.run; among = false }

-- A line of an opening, or between segments, is taken.
pub record TakesHead (s : Stand) (text : List ℕ) (t : Stand) : Type 0 where
  pub read : Reader
  pub takes : TakesText s.reader text (Some read)
  pub agrees : Agrees s.run s.reader.place text
  pub stands : t ≡ headed s read.place read

-- A line among the entries of a run is taken: a further entry, or the segment's end.
abbrev pub TakesEntry : Stand → RunState → Option Line → Stand → Type 0
TakesEntry s run (Some (line.Entry e)) t =
    IsNext run.rules run.opening (reverse run.entries) e
    × (t ≡ record s { run = Some (record run { entries = run.entries ++ e ∷ [] }) })
TakesEntry s run (Some (line.End count)) t = (count ≡ length run.entries) × (t ≡ record s { among = false })
TakesEntry s run other t = ⊥

-- The line is taken.
abbrev pub TakesLine : (among : Bool) → Option RunState → Stand → (text : List ℕ) → Stand → Type 0
TakesLine true (Some run) s text t = TakesEntry s run (line_of run.rules text) t
TakesLine true None s text t = ⊥
TakesLine false run s text t = TakesHead s text t

abbrev pub StandTakes : Stand → (text : List ℕ) → Stand → Type 0
StandTakes s text t = TakesLine s.among s.run s text t

-- A line of a later opening differs from what the run ended with.
pub record DiffersHead (s : Stand) (text : List ℕ) (kept ruled : Ruling) : Type 0 where
  pub read : Reader
  pub takes : TakesText s.reader text (Some read)
  pub run : RunState
  pub known : s.run ≡ Some run
  pub inside : is_outside s.reader.place ≡ false
  pub expected : List ℕ
  pub ends : IsExpected run (lines_taken s.reader.place - 1) expected
  pub other : text ≢ expected
  pub here : kept ≡ ruling.Line text
  pub there : ruled ≡ ruling.Line expected

-- An entry doesn't follow from those before it, or the count is another.
abbrev pub DiffersEntry : RunState → Option Line → (kept ruled : Ruling) → Type 0
DiffersEntry run (Some (line.Entry e)) kept ruled = Differs run.rules run.opening (reverse run.entries) e kept ruled
DiffersEntry run (Some (line.End count)) kept ruled =
    (count ≢ length run.entries) × (kept ≡ ruling.Count count) × (ruled ≡ ruling.Count (length run.entries))
DiffersEntry run other kept ruled = ⊥

-- a line that may stand among entries
abbrev pub is_among : Option Line → Bool
is_among (Some (line.Entry e)) = true
is_among (Some (line.End count)) = true
is_among other = false

-- The line can't be read where it stands.
abbrev pub IsUnreadLine : (among : Bool) → Option RunState → Stand → (text : List ℕ) → Type 0
IsUnreadLine true (Some run) s text = is_among (line_of run.rules text) ≡ false
IsUnreadLine true None s text = ⊥
IsUnreadLine false run s text = TakesText s.reader text None

-- The line has something else than it ought to have.
abbrev pub IsBadLine : (among : Bool) → Option RunState → Stand → (text : List ℕ) → (kept ruled : Ruling) → Type 0
IsBadLine true (Some run) s text kept ruled = DiffersEntry run (line_of run.rules text) kept ruled
IsBadLine true None s text kept ruled = ⊥
IsBadLine false run s text kept ruled = DiffersHead s text kept ruled

-- The line with this number is refused. Want of memory says nothing.
abbrev pub RefusesLineAt : Stand → (number : ℕ) → (text : List ℕ) → FollowError → Type 0
RefusesLineAt s number text (wrong.Unreadable line) = (line ≡ number) × IsUnreadLine s.among s.run s text
RefusesLineAt s number text (wrong.Bad line kept ruled) = (line ≡ number) × IsBadLine s.among s.run s text kept ruled
RefusesLineAt s number text wrong.NoMemory = Unit {0}
