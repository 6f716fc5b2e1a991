-- The lists of a desk of one thread, and its calls as the lists tell them, whatever the desk counted.
use Rattle.std.specs.Prelude.{◌≡◌, ℕ, List}
use Rattle.lb_model.specs.declared.ask.Ask.{Ask}
use Rattle.lb_model.specs.declared.change.Command.{Command}
use Rattle.lb_model.specs.declared.journal.Outcome.{Outcome}
use Rattle.lb_model.specs.declared.refusal.AdminError.{AdminError}
use Rattle.lb_model.specs.declared.refusal.AdminError.TheVariants as admin
use Rattle.lb_model.specs.declared.refusal.FullMark.{FullMark}
use Rattle.lb_model.specs.declared.refusal.RoomError.{RoomError}
use Rattle.lb_model.specs.declared.refusal.RoomError.TheVariants as room
use Rattle.lb_book.specs.Desks.{Chooses, Commands, DeskState, GainsDue, IsAskRefusal, IsCommandRefusal, TakesBack}
use Rattle.lb_book.specs.Journal.{Journal}
use Rattle.lb_book.specs.PlainDesks.{plain_state}
use Rattle.lb_book.specs.PlainLeases.{note_of}
use Rattle.lb_book.specs.declared.desk.Choice.{Choice}
use Rattle.lb_book.specs.declared.desk.Occasion.{Occasion}
use Rattle.lb_book.specs.declared.plain_desk.PlainLease.{PlainLease}
use Rattle.lb_book.specs.declared.receipt.Receipt.{Receipt}

-- The Books, the receipts, and the tickets that are held.
pub record PlainLists : Type 0 where
  pub books : List Journal
  pub receipts : List Receipt
  pub held : List (ℕ × ℕ)

abbrev pub lists : List Journal → List Receipt → (held : List (ℕ × ℕ)) → PlainLists
lists books receipts held = record { books = books; receipts = receipts; held = held }

-- A desk with these lists and counts, as each desk is told.
abbrev pub told_of : PlainLists → (fulls wides : ℕ) → DeskState
told_of l fulls wides = plain_state l.books l.receipts l.held 0 fulls wides

-- The desk chose.
abbrev pub ListsChoose : (old new : PlainLists) → Occasion → Ask → Choice PlainLease → Type 0
ListsChoose old new on ask c = (f w : ℕ) → Chooses note_of (told_of old f w) (told_of new f w) on.lb on.session on.at ask c

-- An ask was refused, or the Maintain before it.
abbrev pub ListsDeny : (old new : PlainLists) → Occasion → RoomError FullMark → Type 0
ListsDeny old new on e =
    (f w f' w' : ℕ) → GainsDue (told_of old f w) (told_of new f' w') on.lb on.session on.at
    (e ≡ room.NoMemory) (IsAskRefusal (λ mark. mark) on.at e)

-- A command was done.
abbrev pub ListsCommand : (old new : PlainLists) → Occasion → Command → Type 0
ListsCommand old new on command = (f w : ℕ) → Commands (told_of old f w) (told_of new f w) on.lb on.session on.at command

-- A command was refused, or the Maintain before it.
abbrev pub ListsRefuse : (old new : PlainLists) → Occasion → Command → AdminError FullMark → Type 0
ListsRefuse old new on command e =
    (f w f' w' : ℕ) → GainsDue (told_of old f w) (told_of new f' w') on.lb on.session on.at
    (e ≡ admin.NoMemory) (IsCommandRefusal (λ mark. mark) on.at command e)

-- The ticket came back, on whichever member it was.
abbrev pub ListsTakeBack : (old new : PlainLists) → Occasion → (ticket : ℕ) → Outcome → Type 0
ListsTakeBack old new on ticket outcome =
    (m f w : ℕ) → TakesBack (told_of old f w) (told_of new f w) on.session on.at (record { lb = on.lb; member = m; ticket = ticket }) outcome
