-- A drill that was handed out, as its summary or its journal, and why there is none.
use Rattle.std.specs.Prelude.{◌≡◌, ◌≤◌, ℕ, Bool, true, false, List, [], ◌∷◌, length, map, if◌then◌else◌}
use Rattle.std.specs.List.{flat_map}
use Rattle.std.specs.List.Sorted.{IsPermutation}
use mathlib.Core.Option.{some}
use lib.ListN.{get_elem?}
use Rattle.lb_model.specs.Journal.{members}
use Rattle.lb_model.specs.Limits.{modern_rules}
use Rattle.lb_model.specs.declared.journal.Entry.{Entry}
use Rattle.lb_book.specs.Journal.{IsSound, Journal, next_number}
use Rattle.lb_book.specs.declared.receipt.Receipt.{Receipt}
use Rattle.lb_closing.specs.Closings.{Differs, DiscordNote, kept_from, noted}
use Rattle.lb_passes.specs.Closing.{CloseInOne}
use Rattle.lb_passes.specs.Placed.{AreFrom}
use Rattle.lb_passes.specs.declared.pass.Pass.{Pass}
use Rattle.drill.specs.Counts.{CountsDrill}
use Rattle.drill.specs.Drills.{IsDrilled, entries_of}
use Rattle.drill.specs.Requests.{bodies_of}
use Rattle.drill.specs.Sites.{IsDrillBook}
use Rattle.drill.specs.Summaries.{IsJournalText, summary_text}
use Rattle.drill.specs.declared.drill_error.DrillError.{DrillError}
use Rattle.drill.specs.declared.drill_error.DrillError.TheVariants as error
use Rattle.drill.specs.declared.running.Measured.{Measured}

-- A Book of rules 2 with two members that began with number 0, and whose journal, replayed, gives each recorded answer.
pub record IsDrillJournal (b : Journal) : Type 0 where
  pub rules : b.rules ≡ modern_rules
  pub two : members b.opening ≡ 2
  pub numbered : next_number b ≡ b.added
  pub sound : IsSound b

-- The Book's journal begins at moment 0 with the drill's own balancer: its method, its members and their factors.
pub record BeginsDrill (b : Journal) : Type 0 where
  pub balancer : IsDrillBook b.opening.config
  pub moment : b.opening.at ≡ 0

-- The Book of a drill: such a journal, which begins so, and has each entry that was added.
pub record IsOfDrill (b : Journal) : Type 0 where
  pub journal : IsDrillJournal b
  pub begins : BeginsDrill b
  pub kept : length b.entries ≡ b.added

-- It is the Book of a drill's balancer at moment 0, and has no entry yet.
pub record IsStarted (b : Journal) : Type 0 where
  pub rules : b.rules ≡ modern_rules
  pub two : members b.opening ≡ 2
  pub first : next_number b ≡ 0
  pub moment : b.opening.at ≡ 0
  pub balancer : IsDrillBook b.opening.config
  pub added : b.added ≡ 0
  pub empty : b.entries ≡ []
  pub none_out : b.opening.out ≡ []
  pub sound : IsSound b

-- The receipts of the threads are together just the entries that these Books keep, each once.
abbrev pub AreReceiptsOf : (told : List (List Receipt)) → List Journal → Type 0
AreReceiptsOf told books = IsPermutation (noted (flat_map (λ receipts. receipts) told)) (kept_from 0 books)

-- As many passes as there are threads, one of each thread's number, were closed into the Book: it has the entries of these
-- passes and no others.
pub record IsClosedByAll (threads : ℕ) (b : Journal) : Type 0 where
  pub passes : List Pass
  pub many : length passes ≡ threads
  pub numbers : AreFrom 0 (map (λ p. p.number) passes)
  pub closed : CloseInOne passes b

-- The receipts of each thread are just the entries of its calls in the Book's journal, each once and in their order, and the
-- journal has no others.
pub record AreOwnReceipts (told : List (List Receipt)) (b : Journal) : Type 0 where
  pub own : (t : ℕ) (receipts : List Receipt) → get_elem? told t ≡ some receipts → map (λ r. r.entry) receipts ≡ entries_of t b.entries
  pub no_others : (t : ℕ) → length told ≤ t → entries_of t b.entries ≡ []

-- What the threads made: the bodies in the rows of their sessions had these bytes, and their desks got these receipts, which
-- are the Book's entries, each once. Where the threads took turns, those of each thread are the entries of its own calls in
-- their order, and the Book was closed with a pass of each thread.
pub record IsCompared (seed threads requests : ℕ) (passes : Bool) (bytes : ℕ) (b : Journal) : Type 0 where
  pub told : List (List Receipt)
  pub counted : CountsDrill seed threads requests told bytes
  pub once : passes ≡ false → AreReceiptsOf told (b ∷ [])
  pub own : passes ≡ true → AreOwnReceipts told b
  pub closed : passes ≡ true → IsClosedByAll threads b

-- The text that a drill hands out: the summary of its Book's journal, or that journal's text. In the journal each request of
-- each thread was answered whole, and the bodies in the rows of all sessions had the bytes that were asked for.
pub record IsDrill (seed threads requests : ℕ) (text passes : Bool) (told : List ℕ) (b : Journal) : Type 0 where
  pub summary : text ≡ false → told ≡ summary_text seed threads requests passes b.entries
  pub journal : text ≡ true → IsJournalText b told
  pub drilled : IsDrilled threads requests b.entries
  pub compared : IsCompared seed threads requests passes (bodies_of seed requests) b
  pub book : IsOfDrill b

-- Receipts of threads, in their order, and the entries that such a Book keeps, differ here first.
abbrev pub IsDiscordFound : DiscordNote → Type 0
IsDiscordFound d = (entries : ℕ) × (receipts : List (ℕ × Entry)) × Differs (2 ∷ []) (0 ∷ []) entries receipts d

-- How many receipts are compared with a journal: one of each entry. Over passes there are none.
abbrev pub receipts_of : (passes : Bool) → List Entry → ℕ
receipts_of passes h = if passes then 0 else length h

-- What was measured of a drill: its Book, the bytes of the bodies in the rows of all sessions, and how many receipts were compared.
pub record IsMeasured (seed threads requests : ℕ) (passes : Bool) (m : Measured) : Type 0 where
  pub book : IsOfDrill m.book
  pub compared : IsCompared seed threads requests passes m.bodies m.book
  pub receipts : m.receipts ≡ receipts_of passes m.book.entries

-- The bodies in the rows of all sessions had these bytes together, whatever receipts the desks got.
abbrev pub HaveBytes : (seed threads requests bytes : ℕ) → Type 0
HaveBytes seed threads requests bytes = (told : List (List Receipt)) × CountsDrill seed threads requests told bytes

-- Why a drill has no text: a discord, which the closing alone makes; a Book whose journal lacks what it should have of
-- some thread, or an entry that it added; bodies in the rows of all sessions that had these bytes together, and not those that
-- were asked for; or want of memory, which needs no cause.
abbrev pub IsDrillError : (seed threads requests : ℕ) → DrillError → Type 0
IsDrillError seed threads requests (error.Differs d) = IsDiscordFound d
IsDrillError seed threads requests (error.Lost book) = IsOfDrill book × (IsDrilled threads requests book.entries → ⊥)
IsDrillError seed threads requests (error.Cut book) = IsDrillJournal book × (length book.entries ≡ book.added → ⊥)
IsDrillError seed threads requests (error.Bodies bytes) =
    HaveBytes seed threads requests bytes × (bytes ≡ bodies_of seed requests → ⊥)
IsDrillError seed threads requests error.NoMemory = Unit {0}
