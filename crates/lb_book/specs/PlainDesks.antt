-- A desk of one thread: its Books, its receipts and its tickets, and the entries that one hold of a Book adds.
use Rattle.std.specs.Prelude.{◌≡◌, ℕ, ◌+◌, ◌<◌, ◌≤◌, ◌↔◌, ◌⊎◌, false, true, List, [], ◌∷◌, ◌++◌, length, Some, None, slice_get, Result, Ok, Err}
use Rattle.std.specs.List.{All}
use Rattle.lb_model.specs.Free.{is_in}
use Rattle.lb_model.specs.Journal.{members}
use Rattle.lb_model.specs.Limits.{modern_rules}
use Rattle.lb_model.specs.Tickets.{is_out}
use Rattle.lb_model.specs.declared.ask.Ask.{Ask}
use Rattle.lb_model.specs.declared.change.Command.{Command}
use Rattle.lb_model.specs.declared.journal.Answer.{Answer}
use Rattle.lb_model.specs.declared.journal.Answer.TheVariants as answer
use Rattle.lb_model.specs.declared.journal.Call.TheVariants as call
use Rattle.lb_model.specs.declared.journal.Entry.{Entry}
use Rattle.lb_model.specs.declared.refusal.AdminError.{AdminError}
use Rattle.lb_model.specs.declared.refusal.AdminError.TheVariants as admin
use Rattle.lb_model.specs.declared.refusal.FullMark.{FullMark}
use Rattle.lb_model.specs.declared.refusal.RoomError.{RoomError}
use Rattle.lb_model.specs.declared.refusal.RoomError.TheVariants as room
use Rattle.lb_book.specs.Desks.{DeskState, IsDue, IsMaintained, IsOwn, RisesByOne, holds}
use Rattle.lb_book.specs.Journal.{IsSound, Journal, past_of}
use Rattle.lb_book.specs.ToldBooks.{AreNextAt, grown_by, sizes_of}
use Rattle.lb_book.specs.declared.desk.Occasion.{Occasion}
use Rattle.lb_book.specs.declared.receipt.Receipt.{Receipt}

-- Each Book has rules 2.
abbrev pub AreModern : List Journal → Type 0
AreModern books = (lb : ℕ) (b : Journal) → slice_get books lb ≡ Some b → b.rules ≡ modern_rules

-- Each Book is sound.
abbrev pub AreLegal : List Journal → Type 0
AreLegal books = (lb : ℕ) (b : Journal) → slice_get books lb ≡ Some b → IsSound b

-- The pair's ticket is out in its Book.
pub record IsOutAt (books : List Journal) (pair : ℕ × ℕ) : Type 0 where
  pub book : Journal
  pub found : slice_get books pair.0 ≡ Some book
  pub is_out : is_out book.opening (past_of book) pair.1 ≡ true

-- Each pair's ticket is out, and no pair is held twice.
abbrev pub AreHeld : List Journal → List (ℕ × ℕ) → Type 0
AreHeld books [] = Unit {0}
AreHeld books (x ∷ xs) = IsOutAt books x × (holds xs x ≡ false) × AreHeld books xs

-- The fields of a desk: it has the room for the receipts of the Returns to come.
pub record IsPlain (books : List Journal) (receipts : List Receipt) (held : List (ℕ × ℕ)) (room : ℕ) : Type 0 where
  pub modern : AreModern books
  pub legal : AreLegal books
  pub held_out : AreHeld books held
  pub roomy : length receipts + length held ≤ room

-- A desk that has its Books to itself, as each desk is told.
abbrev pub plain_state : List Journal → List Receipt → List (ℕ × ℕ) → (strays fulls wides : ℕ) → DeskState
plain_state books receipts held strays fulls wides = record {
  receipts = receipts;
  held = held;
  added = length receipts;
  caller = None;
  sizes = sizes_of books;
  parts = None;
  strays = strays;
  fulls = fulls;
  wides = wides;
  met = None;
  books = Some books;
}

-- A hold of one Book added the entries of these receipts. No ticket that is out was returned by it.
pub record BookGains (old new : Journal) (before now : List Receipt) (lb session at : ℕ) (gained : List Receipt) : Type 0 where
  pub receipts : now ≡ before ++ gained
  pub own : All (IsOwn lb session at) gained
  pub grown : new ≡ grown_by old gained
  pub next : AreNextAt old at gained
  pub stay : (t : ℕ) → is_out old.opening (past_of old) t ≡ true → is_out new.opening (past_of new) t ≡ true

-- A hold added a Maintain or nothing, by this account of it.
pub record BookGainsDue (old new : Journal) (before now : List Receipt) (lb session at : ℕ) (Account : List Receipt → Type 0) : Type 0 where
  pub due : List Receipt
  pub is_due : IsDue due
  pub gains : BookGains old new before now lb session at due
  pub account : Account due

-- It added a Maintain exactly where one was due, and then the entry of this receipt.
pub record BookGainsLast (old new : Journal) (before now : List Receipt) (lb session at : ℕ) (last : Receipt) : Type 0 where
  pub due : List Receipt
  pub is_due : IsDue due
  pub gains : BookGains old new before now lb session at (due ++ last ∷ [])
  pub done : IsMaintained old at due

-- The receipt of an entry.
abbrev pub receipt_of : Occasion → Entry → Receipt
receipt_of on e = record { lb = on.lb; given = on.at; entry = e }

-- It added a Maintain exactly where one was due, and then the entry of a command, which was done.
abbrev pub BookCommands : (old new : Journal) → (before now : List Receipt) → Occasion → Command → Type 0
BookCommands old new before now on command =
    (e : Entry) × (e.call ≡ call.Admin command) × (e.answer ≡ answer.Done)
    × BookGainsLast old new before now on.lb on.session on.at (receipt_of on e)

-- A chosen member exists and wasn't tried, and its ticket, the entry's number, was not out before and is out now.
pub record IsNewTicket (old new : Journal) (ask : Ask) (m seq : ℕ) : Type 0 where
  pub member : m < members old.opening
  pub untried : is_in ask.tried m ≡ false
  pub before : is_out old.opening (past_of old) seq ≡ false
  pub after : is_out new.opening (past_of new) seq ≡ true

-- The tickets after a Select's answer.
abbrev pub Picks : (old new : Journal) → Ask → (seq : ℕ) → Answer → Type 0
Picks old new ask seq (answer.Chosen m t how probe) = (t ≡ seq) × IsNewTicket old new ask m seq
Picks old new ask seq answer.NoMember = Unit {0}
Picks old new ask seq answer.Forced = Unit {0}
Picks old new ask seq answer.Done = ⊥

-- Just a Full is counted.
abbrev pub CountsFull : {T : Type 0} → (before now : ℕ) → Result T (RoomError FullMark) → Type 0
CountsFull before now (Ok done) = now ≡ before
CountsFull before now (Err (room.Full mark)) = RisesByOne before now
CountsFull before now (Err room.NoMemory) = now ≡ before

-- Just a Full and a TooWide are counted, each by its own count.
abbrev pub CountsRefusal : {T : Type 0} → (fulls fulls' wides wides' : ℕ) → Result T (AdminError FullMark) → Type 0
CountsRefusal fulls fulls' wides wides' (Ok done) = (fulls' ≡ fulls) × (wides' ≡ wides)
CountsRefusal fulls fulls' wides wides' (Err admin.UnknownMember) = (fulls' ≡ fulls) × (wides' ≡ wides)
CountsRefusal fulls fulls' wides wides' (Err admin.BadValue) = (fulls' ≡ fulls) × (wides' ≡ wides)
CountsRefusal fulls fulls' wides wides' (Err (admin.TooWide mark)) = (fulls' ≡ fulls) × RisesByOne wides wides'
CountsRefusal fulls fulls' wides wides' (Err (admin.Full mark)) = RisesByOne fulls fulls' × (wides' ≡ wides)
CountsRefusal fulls fulls' wides wides' (Err admin.NoMemory) = (fulls' ≡ fulls) × (wides' ≡ wides)
