-- The Books of a desk: what is so of them where they are told, and the journal that a call found.
use Rattle.std.specs.Prelude.{◌≡◌, ℕ, ◌+◌, ◌<◌, ◌≤◌, List, [], ◌∷◌, ◌++◌, length, map, Option, Some, None, slice_get, slice_index}
use Rattle.lb_model.specs.Journal.{members}
use Rattle.lb_model.specs.Legal.{IsNext}
use Rattle.lb_model.specs.Limits.{modern_rules}
use Rattle.lb_model.specs.declared.journal.Entry.{Entry}
use Rattle.lb_book.specs.Due.{due_moment, entry_moment}
use Rattle.lb_book.specs.Journal.{IsSound, Journal, past_of}
use Rattle.lb_book.specs.declared.receipt.Receipt.{Receipt}

-- The Book of balancer lb, where it is told.
abbrev pub book_in : Option (List Journal) → (lb : ℕ) → Option Journal
book_in None lb = None
book_in (Some books) lb = slice_get books lb

-- A fact of the Book of balancer lb, where it is told.
abbrev pub WhereTold : Option (List Journal) → (lb : ℕ) → (Journal → Type 0) → Type 0
WhereTold books lb P = (b : Journal) → book_in books lb ≡ Some b → P b

-- The numbers of members of these Books.
abbrev pub sizes_of : List Journal → List ℕ
sizes_of books = map (λ b. members b.opening) books

-- Each Book that is told is sound, and the sizes are their numbers of members.
pub record AreSound (sizes : List ℕ) (books : Option (List Journal)) : Type 0 where
  pub sound : (lb : ℕ) → WhereTold books lb IsSound
  pub sized : (told : List Journal) → books ≡ Some told → sizes ≡ sizes_of told

-- The Book with the entries of these receipts at its end.
abbrev pub grown_by : Journal → List Receipt → Journal
grown_by b gained = record b {
  entries = b.entries ++ map (λ r. r.entry) gained;
  added = b.added + length gained;
}

-- The entry may follow those of the Book, at the greater of the given moment and the last one.
pub record IsNextAt (b : Journal) (at : ℕ) (e : Entry) : Type 0 where
  pub next : IsNext b.rules b.opening (past_of b) e
  pub moment : e.at ≡ entry_moment b at

-- The entries of these receipts may follow one after the other, each at that moment.
abbrev pub AreNextAt : Journal → (at : ℕ) → List Receipt → Type 0
AreNextAt b at [] = Unit {0}
AreNextAt b at (r ∷ rest) = IsNextAt b at r.entry × AreNextAt (grown_by b (r ∷ [])) at rest

-- No Maintain is due for a call at this moment.
abbrev pub IsNoneDue : Journal → (at : ℕ) → Type 0
IsNoneDue b at = entry_moment b at < due_moment b

-- A journal that balancer lb may have: it is sound, of rules 2 and of the balancer's size, and the told one where one is told.
pub record IsFound (sizes : List ℕ) (books : Option (List Journal)) (lb : ℕ) (b : Journal) : Type 0 where
  pub sound : IsSound b
  pub rules : b.rules ≡ modern_rules
  pub size : members b.opening ≡ slice_index sizes lb
  pub told : WhereTold books lb (λ told. told ≡ b)

-- There is such a journal, and the entries of these receipts follow it.
pub record Follows (sizes : List ℕ) (books : Option (List Journal)) (lb at : ℕ) (gained : List Receipt) : Type 0 where
  pub book : Journal
  pub found : IsFound sizes books lb book
  pub next : AreNextAt book at gained
