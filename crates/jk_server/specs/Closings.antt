-- How the closing of a run ended: each balancer's last segment was kept on the first gear's shelf, or why not.
use Rattle.std.specs.Prelude.{ℕ, ◌≡◌, ◌⊎◌, List, [], ◌∷◌, Option}
use Rattle.jk_io.specs.Told.{appended, Rose}
use Rattle.lb_model.specs.declared.journal.Entry.{Entry}
use Rattle.lb_model.specs.declared.segment.Segment.{Segment}
use Rattle.lb_book.specs.Journal.{Journal}
use Rattle.lb_shared.specs.Histories.{SeatNote}
use Rattle.lb_closing.specs.Closings.{AreUncut, DiscordNote, IsDiscord, kept_from}
use Rattle.site_config.specs.declared.balancer.Lb.{Lb}
use Rattle.gear_parts.specs.Gears.{GearSide}
use Rattle.gear_parts.specs.Cuts.{AddsFront, AreCuts}
use Rattle.jk_server.specs.Headline.{AreEnded}
use Rattle.jk_server.specs.declared.runs.ends.Closing.{Closing}
use Rattle.jk_server.specs.declared.runs.ends.Closing.TheVariants as closing

-- These are the last segments of the balancers of a configuration, which began at this moment, whose Books are these, and over
-- which desks at these seats were.
abbrev pub AreLast : List Lb → (at : ℕ) → List SeatNote → List Journal → List (ℕ × Segment) → Type 0
AreLast lbs at seats books kept = AreEnded lbs at seats books × AreCuts 0 books kept

-- The gears came back as the workers left them, but for the first one's shelf, for which `Kept` holds.
abbrev pub KeepsFirst : {C S O : Type 0} → (S → S → Type 0) → (left back : List (GearSide C S O)) → Type 0
KeepsFirst Kept (first ∷ rest) (first' ∷ rest') =
    Kept first.shelf first'.shelf × (first' ≡ record first { shelf = first'.shelf }) × (rest' ≡ rest)
KeepsFirst Kept left back = ⊥

-- Just the last segments were added to a shelf.
abbrev pub Shelves : {S : Type 0} → (S → Option (List (ℕ × Segment))) → List Lb → (at : ℕ) → List SeatNote → List Journal → (old new : S) → Type 0
Shelves shelved lbs at seats books old new =
    (kept : List (ℕ × Segment)) × AreLast lbs at seats books kept × (shelved new ≡ appended (shelved old) kept)

-- The last segments of the first balancers were added to a shelf, and those of the others weren't.
abbrev pub ShelvesFront : {S : Type 0} → (S → Option (List (ℕ × Segment))) → List Lb → (at : ℕ) → List SeatNote → List Journal → (old new : S) → Type 0
ShelvesFront shelved lbs at seats books old new = AreEnded lbs at seats books × AddsFront shelved books old new

-- The receipts of the workers aren't the entries that these Books keep, and this is where they differ first.
pub record IsDiscordOf (lbs : List Lb) (at : ℕ) (seats : List SeatNote) (books : List Journal) (d : DiscordNote) : Type 0 where
  pub ended : AreEnded lbs at seats books
  pub uncut : AreUncut books
  pub receipts : List (ℕ × Entry)
  pub discord : IsDiscord receipts (kept_from 0 books) d

-- The Books that the closing took, by each of its ends. Want of memory hides no fault of the shelf.
abbrev pub Closes : {C S O L : Type 0} → (S → Option (List (ℕ × Segment))) → (S → ℕ) → List Lb → (at : ℕ) → List SeatNote → List Journal → (left back : List (GearSide C S O)) → Closing L → Type 0
Closes shelved faults lbs at seats books left back closing.Kept = KeepsFirst (Shelves shelved lbs at seats books) left back
Closes shelved faults lbs at seats books left back closing.ShelfFault =
    KeepsFirst (λ old new. ShelvesFront shelved lbs at seats books old new × Rose (faults old) (faults new)) left back
Closes shelved faults lbs at seats books left back (closing.Differs d) = IsDiscordOf lbs at seats books d × (back ≡ [])
Closes shelved faults lbs at seats books left back closing.NoMemory =
    (back ≡ []) ⊎ KeepsFirst (λ old new. ShelvesFront shelved lbs at seats books old new × (faults new ≡ faults old)) left back
