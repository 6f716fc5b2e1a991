-- The last cuts of a run on the first gear's shelf, and how the closing ended by them.
use Rattle.std.specs.Prelude.{ℕ, ◌≡◌, ◌⊎◌, List, [], Option}
use Rattle.jk_io.specs.Told.{Rose}
use Rattle.lb_model.specs.declared.journal.Entry.{Entry}
use Rattle.lb_model.specs.declared.segment.Segment.{Segment}
use Rattle.lb_book.specs.Journal.{Journal}
use Rattle.lb_model.specs.declared.opening.Opening.{Opening}
use Rattle.lb_shared.specs.Histories.{SeatNote}
use Rattle.lb_shared.specs.Sites.{AreSited}
use Rattle.lb_closing.specs.Closings.{DiscordNote}
use Rattle.lb_closing.specs.OneHistory.{DiffersWhole, IsOneHistory}
use Rattle.gear_parts.specs.declared.world.Gear.{Gear}
use Rattle.gear_parts.specs.Cuts.{AddsCuts, AddsFront, ToFirst}
use Rattle.jk_server.specs.declared.runs.ends.Closing.{Closing}
use Rattle.jk_server.specs.declared.runs.ends.Closing.TheVariants as closing

-- The Books at the end, with the history that made them what they are.
pub record AreClosed (sizes firsts : List ℕ) (starts : List Opening) (seats : List SeatNote) (books : List Journal) : Type 0 where
  pub sited : AreSited sizes firsts books
  pub history : IsOneHistory starts seats books

-- The Books at the end were cut, and `Kept` says what became of them on the first gear's shelf. Else the gears came back as the
-- workers left them.
abbrev pub KeepsCuts : {D G T K S O : Type 0} → (List Journal → S → S → Type 0) → (Ended : List Journal → Type 0) → (left back : List (Gear D G T K S O)) → Type 0
KeepsCuts Kept Ended left back = (books : List Journal) × Ended books × ToFirst (Kept books) left back

-- Where the receipts of the workers differ first from the entries that the Books of a Site of this kind keep, which one history
-- made what they are.
abbrev pub IsDiscordAt : (sizes firsts : List ℕ) → (starts : List Opening) → (seats : List SeatNote) → DiscordNote → Type 0
IsDiscordAt sizes firsts starts seats d = (entries : ℕ) × (receipts : List (ℕ × Entry)) × DiffersWhole starts seats sizes firsts entries receipts d

-- The gears as the workers left them and as they came back, by each end of the closing. Want of memory hides no fault of the shelf.
abbrev pub EndsSo : {D G T K S O L : Type 0} → (S → Option (List (ℕ × Segment))) → (S → ℕ) → (sizes firsts : List ℕ) → (starts : List Opening) → (seats : List SeatNote) → (left back : List (Gear D G T K S O)) → Closing L → Type 0
EndsSo shelved faults sizes firsts starts seats left back closing.Kept = KeepsCuts (AddsCuts shelved) (AreClosed sizes firsts starts seats) left back
EndsSo shelved faults sizes firsts starts seats left back closing.ShelfFault =
    KeepsCuts (λ books old new. AddsFront shelved books old new × Rose (faults old) (faults new)) (AreClosed sizes firsts starts seats) left back
EndsSo shelved faults sizes firsts starts seats left back (closing.Differs d) = IsDiscordAt sizes firsts starts seats d × (back ≡ [])
EndsSo shelved faults sizes firsts starts seats left back closing.NoMemory =
    (back ≡ [])
    ⊎ KeepsCuts (λ books old new. AddsFront shelved books old new × (faults new ≡ faults old)) (AreClosed sizes firsts starts seats) left back

-- The same of Books that are closed, whatever Site they are of and whichever history made them what they are.
abbrev pub EndsByBooks : {D G T K S O L : Type 0} → (S → Option (List (ℕ × Segment))) → (S → ℕ) → List Journal → (left back : List (Gear D G T K S O)) → Closing L → Type 0
EndsByBooks shelved faults books left back end =
    (sizes firsts : List ℕ) (starts : List Opening) (seats : List SeatNote)
    → AreClosed sizes firsts starts seats books → EndsSo shelved faults sizes firsts starts seats left back end
