-- The Books of a Site, and what its calls do with them.
use Rattle.std.specs.Prelude.{◌≡◌, ℕ, ◌+◌, ◌≤◌, List, [], ◌∷◌, length, map, sum_by, MatchResult, OnErr, Result, Some, slice_get, slice_index, slice_set}
use Rattle.std.specs.declared.sync.ledger.Share.{Share}
use Rattle.lb_model.specs.Limits.{most_balancers}
use Rattle.lb_model.specs.declared.journal.Call.{Call}
use Rattle.lb_book.specs.Desks.{IsOwn}
use Rattle.lb_book.specs.Journal.{IsSound, Journal, next_number}
use Rattle.lb_book.specs.PlainDesks.{AreLegal, AreModern}
use Rattle.lb_book.specs.ToldBooks.{IsNextAt, grown_by, sizes_of}
use Rattle.lb_book.specs.declared.receipt.Receipt.{Receipt}
use Rattle.lb_shared.specs.declared.ledgers.SiteBlank.{SiteBlank}

-- These are the ledgers of these names, that of the entries and that of the cuts, each in so many parts.
pub record IsBlankOf (name cuts_name parts : ℕ) (blank : SiteBlank) : Type 0 where
  pub named : blank.entries.name ≡ name
  pub whole : blank.entries.parts ≡ parts
  pub cuts_named : blank.cuts.name ≡ cuts_name
  pub cuts_whole : blank.cuts.parts ≡ parts

-- How many entries the Books ever added.
abbrev pub added_in : List Journal → ℕ
added_in books = sum_by (λ b. b.added) books

-- The number that comes next in each.
abbrev pub nexts_of : List Journal → List ℕ
nexts_of books = map (λ b. next_number b) books

-- A fact of the Book of balancer lb.
abbrev pub At : List Journal → (lb : ℕ) → (Journal → Type 0) → Type 0
At books lb P = (b : Journal) → slice_get books lb ≡ Some b → P b

-- Each Book's next number is the one that it had at first, and one more for each entry that it added since.
abbrev pub AreNumbered : (firsts : List ℕ) → List Journal → Type 0
AreNumbered firsts books = (lb : ℕ) → At books lb (λ b. next_number b ≡ slice_index firsts lb + b.added)

-- These are the Books of a Site whose name has these sizes and first numbers.
pub record AreSited (sizes firsts : List ℕ) (books : List Journal) : Type 0 where
  pub sized : sizes_of books ≡ sizes
  pub numbered : AreNumbered firsts books
  pub modern : AreModern books
  pub sound : AreLegal books
  pub few : length books ≤ most_balancers

-- The call of a session at a moment added the entry of this receipt to the Book of balancer lb. It may follow those
-- before it, and has the greater of this moment and theirs. No other Book changed.
pub record AddsAt (old new : List Journal) (lb session at : ℕ) (call : Call) (r : Receipt) : Type 0 where
  pub book : Journal
  pub found : slice_get old lb ≡ Some book
  pub own : IsOwn lb session at r
  pub called : r.entry.call ≡ call
  pub next : IsNextAt book at r.entry
  pub grown : new ≡ slice_set old lb (grown_by book (r ∷ []))

-- What a call on balancer lb leaves of a Site and of a share of its ledger: the Book is sound, and a refusal changed nothing. The
-- share keeps its parts, and counts one entry more exactly where the call was done.
pub record LeavesSite {L T E : Type 0} (lb : ℕ) (old new : List Journal) (share share' : Share L) (done : Result T E) : Type 0 where
  pub sound : At new lb (λ b. IsSound b)
  pub err : OnErr done (new ≡ old)
  pub amount : MatchResult done (λ _. share'.amount ≡ share.amount + 1) (λ _. share'.amount ≡ share.amount)
  pub parts : share'.parts ≡ share.parts
