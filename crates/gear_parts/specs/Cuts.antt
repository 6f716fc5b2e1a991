-- The last segments of Books, and the shelf on which they are kept.
use Rattle.std.specs.Prelude.{ℕ, ◌≡◌, ◌<◌, suc, List, [], ◌∷◌, ◌++◌, length, Option}
use Rattle.jk_io.specs.Told.{appended}
use Rattle.lb_model.specs.Legal.{IsLegal}
use Rattle.lb_model.specs.declared.segment.Segment.{Segment}
use Rattle.lb_book.specs.Journal.{IsSegmentOf, Journal}
use Rattle.gear_parts.specs.declared.world.Gear.{Gear}

-- The last segment of each Book, from balancer lb on, in order, legal from its opening.
abbrev pub AreCuts : (lb : ℕ) → List Journal → List (ℕ × Segment) → Type 0
AreCuts lb [] [] = Unit {0}
AreCuts lb (book ∷ books) (kept ∷ more) =
    (kept.0 ≡ lb) × IsSegmentOf book kept.1 × IsLegal kept.1.rules kept.1.opening kept.1.entries × AreCuts (suc lb) books more
AreCuts lb books kept = ⊥

-- The segments of these Books were added to a shelf.
abbrev pub AddsCuts : {S : Type 0} → (S → Option (List (ℕ × Segment))) → List Journal → (old new : S) → Type 0
AddsCuts shelved books old new = (kept : List (ℕ × Segment)) × AreCuts 0 books kept × (shelved new ≡ appended (shelved old) kept)

-- The segments of the first of these Books were added to a shelf, and those of the others weren't.
pub record AddsFront {S : Type 0} (shelved : S → Option (List (ℕ × Segment))) (books : List Journal) (old new : S) : Type 0 where
  pub front : List Journal
  pub rest : List Journal
  pub all : books ≡ front ++ rest
  pub fewer : length front < length books
  pub added : AddsCuts shelved front old new

-- This is so of the first gear's shelf, and nothing else changed.
abbrev pub ToFirst : {D G T K S O : Type 0} → (S → S → Type 0) → (old new : List (Gear D G T K S O)) → Type 0
ToFirst Kept (first ∷ rest) (first' ∷ rest') =
    Kept first.shelf first'.shelf × (first' ≡ record first { shelf = first'.shelf }) × (rest' ≡ rest)
ToFirst Kept old new = ⊥
