-- The machine that follows a text, and how its run's Book has what is known.
use Rattle.std.specs.Prelude.{◌≡◌, ◌≢◌, ℕ, ◌+◌, ◌-◌, ◌<◌, ◌⊎◌, slice_index_or, Bool, true, false, List, [], ◌∷◌, ◌++◌, length, reverse, Option, Some, None, Result, Ok, Err}
use Rattle.lb_book.specs.Journal.{past_of}
use Rattle.lb_model.specs.Journal.{moment_of}
use Rattle.lb_model.specs.Legal.{IsNext}
use Rattle.lb_model.specs.Present.{IsEnding, IsPresent}
use Rattle.lb_model.specs.Validity.{IsOpening}
use Rattle.lb_model.specs.declared.journal.Entry.{Entry}
use Rattle.lb_model.specs.declared.view.View.{View}
use Rattle.journal_verdict.specs.Rulings.{Differs}
use Rattle.journal_verdict.specs.Verdicts.{opening_texts}
use Rattle.journal_verdict.specs.declared.view.FollowView.{FollowView}
use Rattle.journal_verdict.specs.declared.ruling.Ruling.TheVariants as ruling
use Rattle.journal_verdict.specs.declared.error.FollowError.{FollowError}
use Rattle.journal_verdict.specs.declared.error.FollowError.TheVariants as wrong
use Rattle.jk_io.specs.declared.failures.NoMemory.{NoMemory}
use Rattle.journal_text.specs.Reading.{is_body, rules_at}
use Rattle.journal_text.specs.declared.reader.Reader.{Reader}
use Rattle.journal_verdict.specs.Checks.{lines_taken}
use Rattle.journal_verdict.specs.Followed.{IsStoppedText, IsCutIntoLines, FollowsTo}
use Rattle.journal_verdict.specs.Lines.{RunState, Stand, at_first, headed}
use Rattle.journal_verdict.specs.declared.known.Known.{Known}
use Rattle.journal_verdict.specs.declared.known.Known.TheVariants as known
use Rattle.journal_verdict.specs.declared.machine.Machine.{Machine}
use Rattle.journal_verdict.specs.declared.run.Run.{Run}

-- Among its entries a run's Book has its opening and its entries.
pub record IsAmongEntries (r : Run) (run : RunState) : Type 0 where
  pub rules : r.book.rules ≡ run.rules
  pub opening : r.book.opening ≡ run.opening
  pub entries : r.book.entries ≡ run.entries
  pub past : past_of r.book ≡ reverse run.entries
  pub at : r.at ≡ moment_of run.opening (reverse run.entries)

-- Between segments it goes on from where the entries end.
pub record IsBetweenSegments (r : Run) (run : RunState) : Type 0 where
  pub ending : IsEnding run.rules run.opening (reverse run.entries) r.book.opening
  pub valid : IsOpening r.book.opening
  pub view : (v : View) → IsPresent r.book.rules r.book.opening (past_of r.book) v → IsPresent run.rules run.opening (reverse run.entries) v

abbrev pub IsStanding : (among : Bool) → Run → RunState → Type 0
IsStanding true r run = IsAmongEntries r run
IsStanding false r run = IsBetweenSegments r run

pub record IsRunSoFar (among : Bool) (r : Run) (run : RunState) : Type 0 where
  pub name : r.name ≡ run.name
  pub direct : r.direct ≡ run.opening.config.direct
  pub method : r.method ≡ run.opening.config.method
  pub stands : IsStanding among r run

-- A further entry was taken.
abbrev pub TakesOn : RunState → Entry → Run → Type 0
TakesOn run e r = IsNext run.rules run.opening (reverse run.entries) e × IsRunSoFar true r (record run { entries = run.entries ++ e ∷ [] })

-- An entry isn't taken.
abbrev pub DiffersBy : RunState → Entry → (number : ℕ) → FollowError → Type 0
DiffersBy run e number (wrong.Unreadable line) = ⊥
DiffersBy run e number (wrong.Bad line kept ruled) = (line ≡ number) × Differs run.rules run.opening (reverse run.entries) e kept ruled
DiffersBy run e number wrong.NoMemory = Unit {0}

-- The answer to a count at the end of a segment, and the run after it.
abbrev pub EndsRun : RunState → (count number : ℕ) → Run → Result (Unit {0}) FollowError → Type 0
EndsRun run count number r (Ok done) = (count ≡ length run.entries) × IsRunSoFar false r run
EndsRun run count number r (Err (wrong.Unreadable line)) = ⊥
EndsRun run count number r (Err (wrong.Bad line kept ruled)) =
    (line ≡ number) × (count ≢ length run.entries) × (kept ≡ ruling.Count count) × (ruled ≡ ruling.Count (length run.entries))
EndsRun run count number r (Err wrong.NoMemory) = Unit {0}

abbrev pub HasRunState : (among : Bool) → Option Run → Option RunState → Type 0
HasRunState among None None = among ≡ false
HasRunState among (Some r) (Some run) = IsRunSoFar among r run
HasRunState among r run = ⊥

-- The machine has what is known.
pub record KnowsAs (m : Machine) (s : Stand) : Type 0 where
  pub reader : m.reader ≡ s.reader
  pub empty : s.reader.done ≡ []
  pub among : m.among ≡ s.among
  pub outside : is_body s.reader.place ≡ false
  pub taken : m.taken ≡ lines_taken s.reader.place
  pub run : HasRunState s.among m.run s.run
  pub rules : (run : RunState) → s.among ≡ true → s.run ≡ Some run → rules_at s.reader.place ≡ run.rules

-- The line that ought to stand at this place where a run's Book is; an opening's lines don't depend on the rules.
abbrev pub expected_at : (v : ℕ) → Run → (at : ℕ) → List ℕ
expected_at v r at = slice_index_or (opening_texts v r.name r.book.opening) at []

-- after so many lines of an opening, the rules' line among them, a line has what it ought to have
abbrev pub FitsOpening : Option Run → (taken : ℕ) → (text : List ℕ) → Type 0
FitsOpening None taken text = Unit {0}
FitsOpening (Some r) taken text = (taken ≡ 0) ⊎ ((v : ℕ) → text ≡ expected_at v r (taken - 1))

-- it hasn't, and this line ought to stand there
abbrev pub Misfits : Option Run → (taken : ℕ) → (text line : List ℕ) → Type 0
Misfits None taken text line = ⊥
Misfits (Some r) taken text line = (0 < taken) × ((v : ℕ) → (line ≡ expected_at v r (taken - 1)) × (text ≢ line))

abbrev pub Compares : Option Run → (taken : ℕ) → (text : List ℕ) → Option (List ℕ) → Type 0
Compares run taken text None = FitsOpening run taken text
Compares run taken text (Some line) = Misfits run taken text line

-- a view of where a run's Book is
pub record ShowsRun (r : Run) (v : FollowView) : Type 0 where
  pub name : v.name ≡ r.name
  pub direct : v.direct ≡ r.direct
  pub method : v.method ≡ r.method
  pub view : IsPresent r.book.rules r.book.opening (past_of r.book) v.view

-- The machine after a line of an opening, or between segments, by which the reader came to `read`.
abbrev pub AddsHead : Stand → (read : Reader) → (taken : ℕ) → Option Run → Machine → Type 0
AddsHead s read taken run m =
    read.done ≡ [] → (is_body read.place ≡ false → taken ≡ lines_taken read.place) → HasRunState false run s.run
    → KnowsAs m (headed s read.place read)

-- The knowledge of these bytes, of which `part` is no line yet.
abbrev pub Knows : Known → (part bytes : List ℕ) → Type 0
Knows (known.Going m number) part bytes =
    (lines : List (List ℕ)) × IsCutIntoLines bytes lines part × (s : Stand) × FollowsTo at_first lines s × KnowsAs m s × (number ≡ length lines + 1)
Knows (known.Stopped e) part bytes = IsStoppedText bytes e

-- no line was refused yet
abbrev pub is_going : Known → Bool
is_going (known.Going m number) = true
is_going (known.Stopped e) = false

-- The answer by what is known, and what is known then: a refusal, again or for want of memory, is what was answered.
abbrev pub AnswersByKnown : (known later : Known) → Result (Unit {0}) FollowError → Type 0
AnswersByKnown (known.Going m number) later answer = (later ≡ known.Going m number) × (answer ≡ Ok tt)
AnswersByKnown (known.Stopped e) later answer =
    (f : FollowError) × (later ≡ known.Stopped f) × (answer ≡ Err f) × ((f ≡ e) ⊎ (f ≡ wrong.NoMemory))

-- After want of memory that is answered, and after another refusal nothing is shown.
abbrev pub ShowsNone : FollowError → Result (Option FollowView) NoMemory → Type 0
ShowsNone wrong.NoMemory result = (w : NoMemory) × (result ≡ Err w)
ShowsNone e result = result ≡ Ok None

-- A follower as contracts see it: what it knows, and the bytes that are no line yet.
pub record FollowerState : Type 0 where
  pub known : Known
  pub part : List ℕ

abbrev pub HasFed : FollowerState → (bytes : List ℕ) → Type 0
HasFed f bytes = Knows f.known f.part bytes
