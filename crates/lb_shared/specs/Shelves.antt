-- A shelf in memory as contracts see it, the segment of a Book that was cut, and a desk's shelf since a moment.
use Rattle.std.specs.Prelude.{◌≡◌, ℕ, ◌≤◌, ◌<◌, ◌⊎◌, List, [], ◌∷◌, ◌++◌, drop, length, Option, Some, None, slice_get, slice_set}
use Rattle.jk_io.specs.Told.{appended}
use Rattle.std.specs.List.{AllZip}
use Rattle.lb_model.specs.Legal.{IsLegal}
use Rattle.lb_model.specs.declared.opening.Opening.{Opening}
use Rattle.lb_model.specs.declared.segment.Segment.{Segment}
use Rattle.lb_book.specs.Ending.{IsCut}
use Rattle.lb_book.specs.Journal.{IsSegmentOf, Journal}
use Rattle.lb_shared.specs.Histories.{IsSegmentAfter, Step}

-- The segments with their balancers, the calls that are to fail, and how many were made and failed.
pub record MemShelfState : Type 0 where
  pub kept : List (ℕ × Segment)
  pub failing : List ℕ
  pub calls : ℕ
  pub faults : ℕ

-- The journal of balancer lb was cut, and this is its segment, which is legal. No other Book changed.
pub record CutsAt (old new : List Journal) (lb : ℕ) (cut : ℕ × Segment) : Type 0 where
  pub book : Journal
  pub after : Journal
  pub found : slice_get old lb ≡ Some book
  pub balancer : cut.0 ≡ lb
  pub whole : IsSegmentOf book cut.1
  pub legal : IsLegal cut.1.rules cut.1.opening cut.1.entries
  pub is_cut : IsCut book after
  pub others : new ≡ slice_set old lb after

-- So many entries may be added to balancer lb.
pub record AdmissionNote : Type 0 where
  pub lb : ℕ
  pub entries : ℕ

-- A hold that chooses or commands may add a Maintain and the call's own entry, and one that takes a lease back its Return.
abbrev pub for_call : (lb : ℕ) → AdmissionNote
for_call lb = record { lb = lb; entries = 2 }

abbrev pub for_return : (lb : ℕ) → AdmissionNote
for_return lb = record { lb = lb; entries = 1 }

-- The note of a desk's shelf: the segments that it kept, how often it failed, and for how many segments it wanted memory;
-- how many receipts the desk forgot; and with which openings the balancers began, and each cut that the desk made, as `own_cuts`
-- tells of it.
pub record ShelfNote : Type 0 where
  pub shelved : Option (List (ℕ × Segment))
  pub faults : ℕ
  pub wants : ℕ
  pub forgotten : ℕ
  pub starts : List Opening
  pub cuts : List (ℕ × List (ℕ × Step))

-- a shelf that kept nothing
abbrev pub no_shelf : ShelfNote
no_shelf = record { shelved = None; faults = 0; wants = 0; forgotten = 0; starts = []; cuts = [] }

-- The segments that were added to a shelf.
abbrev pub added_since : (old new : Option (List (ℕ × Segment))) → List (ℕ × Segment)
added_since None new = []
added_since (Some old) None = []
added_since (Some old) (Some new) = drop (length old) new

-- These segments are those of these cuts, in order: each is the journal that the steps before its cut left of its balancer.
abbrev pub AreSegmentsOf : (starts : List Opening) → (cuts : List (ℕ × List (ℕ × Step))) → List (ℕ × Segment) → Type 0
AreSegmentsOf starts cuts segments = AllZip (λ c s. (s.0 ≡ c.0) × IsSegmentAfter starts c.1 s) cuts segments

-- Some of these segments, in their order.
abbrev pub AreSome : (some all : List (ℕ × Segment)) → Type 0
AreSome [] all = Unit {0}
AreSome (s ∷ some) [] = ⊥
AreSome (s ∷ some) (x ∷ all) = ((s ≡ x) × AreSome some all) ⊎ AreSome (s ∷ some) all

-- Neither count rose, and each could.
pub record LostNone (since now : ShelfNote) : Type 0 where
  pub faults : now.faults ≡ since.faults
  pub wants : now.wants ≡ since.wants
  pub faults_low : since.faults < 18446744073709551615
  pub wants_low : since.wants < 18446744073709551615

-- The cuts that the desk made since it was so.
abbrev pub cut_since : (since now : ShelfNote) → List (ℕ × List (ℕ × Step))
cut_since since now = drop (length since.cuts) now.cuts

-- Given to the desk's shelf since it was so: segments of just the cuts that the desk made meanwhile, as the one history has
-- them; all of them, or, where its faults or wants rose, some.
pub record HasGiven (since now : ShelfNote) : Type 0 where
  pub segments : List (ℕ × Segment)
  pub are : AreSegmentsOf now.starts (cut_since since now) segments
  pub given : List (ℕ × Segment)
  pub some : AreSome given segments
  pub shelf : now.shelved ≡ appended since.shelved given
  pub all : LostNone since now → given ≡ segments

-- The shelf of a desk since it was so: it was only added to, the segments of what the desk cut. No count fell, and no
-- receipt was forgotten.
pub record HasShelved (since now : ShelfNote) : Type 0 where
  pub kept : now.shelved ≡ appended since.shelved (added_since since.shelved now.shelved)
  pub no_fewer : since.faults ≤ now.faults
  pub no_less : since.wants ≤ now.wants
  pub forgotten : now.forgotten ≡ since.forgotten
  pub starts : now.starts ≡ since.starts
  pub cuts : now.cuts ≡ since.cuts ++ cut_since since now
  pub given : ∥ HasGiven since now ∥₁

-- A shelf went on from here: whatever became of it since an earlier moment, has become of it until now too.
abbrev pub ShelvesOn : (old new : ShelfNote) → Type 0
ShelvesOn old new = (since : ShelfNote) → HasShelved since old → HasShelved since new
