-- A desk: its receipts, its tickets, its counts and its Books, and the same after each of its calls.
use Rattle.std.specs.Prelude.{◌≡◌, ℕ, ◌+◌, ◌<◌, ◌≤◌, ◌==◌, ◌&&◌, ◌↔◌, ◌⊎◌, Bool, false, true, not, min, List, [], ◌∷◌, ◌++◌, length, Option, Some, None, slice_get, slice_index, slice_set, if◌then◌else◌}
use Rattle.std.specs.List.{All, list_any}
use Rattle.lb_model.specs.Free.{is_in}
use Rattle.lb_model.specs.Legal.{HasValues}
use Rattle.lb_model.specs.Present.{IsPresent}
use Rattle.lb_model.specs.Tickets.{is_out}
use Rattle.lb_model.specs.declared.ask.Ask.{Ask}
use Rattle.lb_model.specs.declared.change.Command.{Command}
use Rattle.lb_model.specs.declared.journal.Answer.TheVariants as answer
use Rattle.lb_model.specs.declared.journal.Call.TheVariants as call
use Rattle.lb_model.specs.declared.journal.Entry.{Entry}
use Rattle.lb_model.specs.declared.journal.How.{How}
use Rattle.lb_model.specs.declared.journal.Outcome.{Outcome}
use Rattle.lb_model.specs.declared.refusal.AdminError.{AdminError}
use Rattle.lb_model.specs.declared.refusal.AdminError.TheVariants as admin
use Rattle.lb_model.specs.declared.refusal.FullMark.{FullMark}
use Rattle.lb_model.specs.declared.refusal.RoomError.{RoomError}
use Rattle.lb_model.specs.declared.refusal.RoomError.TheVariants as room
use Rattle.lb_model.specs.declared.refusal.Stray.{Stray}
use Rattle.lb_model.specs.declared.view.View.{View}
use Rattle.lb_book.specs.Commanded.{IsKnown}
use Rattle.lb_rules.specs.Returns.{IsReturnedAt}
use Rattle.lb_book.specs.Journal.{Journal, past_of}
use Rattle.lb_book.specs.Refused.{RefusesAsk, RefusesChange, RefusesMaintain}
use Rattle.lb_book.specs.ToldBooks.{AreSound, Follows, IsFound, IsNoneDue, grown_by}
use Rattle.lb_book.specs.declared.desk.Choice.{Choice}
use Rattle.lb_book.specs.declared.desk.Choice.TheVariants as choice
use Rattle.lb_book.specs.declared.receipt.Receipt.{Receipt}

-- A desk: the receipts of its calls, the tickets that it holds, how many entries it ever added, the number of its
-- caller where that is fixed, the number of members of each balancer, the parts of its share where it has one, how
-- often a ticket was a stray, a journal was full and a command too wide, the first stray that was met since it was last
-- asked for one, and its Books where it tells them.
pub record DeskState : Type 0 where
  pub receipts : List Receipt
  pub held : List (ℕ × ℕ)
  pub added : ℕ
  pub caller : Option ℕ
  pub sizes : List ℕ
  pub parts : Option ℕ
  pub strays : ℕ
  pub fulls : ℕ
  pub wides : ℕ
  pub met : Option Stray
  pub books : Option (List Journal)

-- The names on a lease: balancer, member and ticket.
pub record LeaseNote : Type 0 where
  pub lb : ℕ
  pub member : ℕ
  pub ticket : ℕ

-- A lease's pair among the tickets held.
abbrev pub pair_of : LeaseNote → ℕ × ℕ
pair_of note = (note.lb, note.ticket)

abbrev pub is_pair : ℕ × ℕ → ℕ × ℕ → Bool
is_pair a b = (a.0 == b.0) && (a.1 == b.1)

abbrev pub holds : List (ℕ × ℕ) → ℕ × ℕ → Bool
holds held pair = list_any (is_pair pair) held

-- The pairs without the last one that is this.
abbrev pub without_last : List (ℕ × ℕ) → ℕ × ℕ → List (ℕ × ℕ)
without_last [] pair = []
without_last (x ∷ xs) pair = (if is_pair pair x && not (holds xs pair) then xs else x ∷ without_last xs pair)

-- The receipt is one of a call of this session at this moment, on this balancer.
pub record IsOwn (lb session at : ℕ) (r : Receipt) : Type 0 where
  pub balancer : r.lb ≡ lb
  pub given : r.given ≡ at
  pub caller : r.entry.session ≡ session

-- The entries of the receipts were added to the journal of that balancer, and to no other.
abbrev pub BooksGrow : (lb : ℕ) → List Receipt → Option (List Journal) → Option (List Journal) → Type 0
BooksGrow lb gained None now = now ≡ None
BooksGrow lb gained (Some books) now =
    (b : Journal) → slice_get books lb ≡ Some b → now ≡ Some (slice_set books lb (grown_by b gained))

-- The count rose by one, or stood at the last value of a u64 and stands there.
abbrev pub RisesByOne : (before now : ℕ) → Type 0
RisesByOne before now = now ≡ min (before + 1) 18446744073709551615

-- A desk keeps what never changes, its counts, which never fall, and a stray that was met. Told Books are sound, before a
-- call as after it.
pub record KeepsDesk (old new : DeskState) : Type 0 where
  pub caller : new.caller ≡ old.caller
  pub sizes : new.sizes ≡ old.sizes
  pub parts : new.parts ≡ old.parts
  pub strays : old.strays ≤ new.strays
  pub fulls : old.fulls ≤ new.fulls
  pub wides : old.wides ≤ new.wides
  pub met : (stray : Stray) → old.met ≡ Some stray → new.met ≡ Some stray
  pub sound_before : AreSound old.sizes old.books
  pub sound : AreSound new.sizes new.books

-- No stray was met.
pub record MeetsNone (old new : DeskState) : Type 0 where
  pub strays : new.strays ≡ old.strays
  pub met : new.met ≡ old.met

-- The call of a session at a moment on a balancer added just the entries of these receipts.
pub record Gains (old new : DeskState) (lb session at : ℕ) (gained : List Receipt) : Type 0 where
  pub receipts : new.receipts ≡ old.receipts ++ gained
  pub own : All (IsOwn lb session at) gained
  pub added : new.added ≡ old.added + length gained
  pub books : BooksGrow lb gained old.books new.books

-- At most one receipt, of a Maintain.
abbrev pub IsDue : List Receipt → Type 0
IsDue [] = Unit {0}
IsDue (r ∷ []) = r.entry.call ≡ call.Maintain
IsDue (r ∷ s ∷ rest) = ⊥

-- A Maintain was done exactly where one was due.
abbrev pub IsMaintained : Journal → (at : ℕ) → List Receipt → Type 0
IsMaintained b at due = (due ≡ []) ↔ IsNoneDue b at

-- A Maintain or nothing was added, by this account of the journal that was found; or nothing for want of memory.
pub record GainsDue (old new : DeskState) (lb session at : ℕ) (Wanting : Type 0) (Account : Journal → List Receipt → Type 0) : Type 0 where
  pub due : List Receipt
  pub is_due : IsDue due
  pub gains : Gains old new lb session at due
  pub why : ((f : Follows old.sizes old.books lb at due) × Account f.book due) ⊎ ((due ≡ []) × Wanting)

-- A Maintain exactly where one was due, and then the entry of this receipt. They follow the journal that was found, each
-- at the greater of this moment and that of the entry before it.
pub record GainsLast (old new : DeskState) (lb session at : ℕ) (last : Receipt) : Type 0 where
  pub due : List Receipt
  pub is_due : IsDue due
  pub gains : Gains old new lb session at (due ++ last ∷ [])
  pub follows : Follows old.sizes old.books lb at (due ++ last ∷ [])
  pub maintained : IsMaintained follows.book at due

-- The desk chose as the entry says; a member that was tried is chosen by none.
abbrev pub IsChoice : {T : Type 0} → (T → LeaseNote) → DeskState → DeskState → (lb : ℕ) → Ask → Entry → Choice T → Type 0
IsChoice note old new lb ask e (choice.Chosen m lease) =
    (how : How) × (probe : Bool) × (e.answer ≡ answer.Chosen m e.seq how probe)
    × (note lease ≡ record { lb = lb; member = m; ticket = e.seq })
    × (new.held ≡ old.held ++ (lb, e.seq) ∷ [])
    × (m < slice_index old.sizes lb) × (is_in ask.tried m ≡ false)
IsChoice note old new lb ask e choice.NoMember = (e.answer ≡ answer.NoMember) × (new.held ≡ old.held)
IsChoice note old new lb ask e choice.Forced = (e.answer ≡ answer.Forced) × (new.held ≡ old.held)

-- The select's entry is the last one that was added, and its ask is this one.
pub record Chooses {T : Type 0} (note : T → LeaseNote) (old new : DeskState) (lb session at : ℕ) (ask : Ask) (c : Choice T) : Type 0 where
  pub last : Receipt
  pub gains : GainsLast old new lb session at last
  pub asked : last.entry.call ≡ call.Select ask
  pub answered : IsChoice note old new lb ask last.entry c
  pub full : new.fulls ≡ old.fulls
  pub stray : new.strays ≡ old.strays
  pub wide : new.wides ≡ old.wides
  pub met : new.met ≡ old.met

-- The refusal of an ask after the Maintain that was due, or of that Maintain.
abbrev pub IsAskRefusal : {M : Type 0} → (M → FullMark) → (at : ℕ) → RoomError M → Journal → List Receipt → Type 0
IsAskRefusal numbers at error b due =
    (IsMaintained b at due × RefusesAsk numbers (grown_by b due) error)
    ⊎ ((due ≡ []) × RefusesMaintain numbers b at error)

-- A select was refused: no ticket is held more. A Full, and nothing else, is counted.
pub record RefusesChoice {M : Type 0} (numbers : M → FullMark) (old new : DeskState) (lb session at : ℕ) (error : RoomError M) : Type 0 where
  pub gains : GainsDue old new lb session at (error ≡ room.NoMemory) (IsAskRefusal numbers at error)
  pub held : new.held ≡ old.held
  pub full : (mark : M) → error ≡ room.Full mark → RisesByOne old.fulls new.fulls
  pub wanted : error ≡ room.NoMemory → new.fulls ≡ old.fulls
  pub stray : new.strays ≡ old.strays
  pub wide : new.wides ≡ old.wides
  pub met : new.met ≡ old.met

-- The ticket of the lease came back: its Return is the one new entry, and its pair is held no more.
pub record TakesBack (old new : DeskState) (session at : ℕ) (lease : LeaseNote) (outcome : Outcome) : Type 0 where
  pub last : Receipt
  pub gains : Gains old new lease.lb session at (last ∷ [])
  pub follows : Follows old.sizes old.books lease.lb at (last ∷ [])
  pub returned : last.entry.call ≡ call.Return lease.ticket outcome
  pub done : last.entry.answer ≡ answer.Done
  pub stray : new.strays ≡ old.strays
  pub met : new.met ≡ old.met

-- In the journal that was found the ticket of the lease was not out.
pub record IsNotOut (sizes : List ℕ) (books : Option (List Journal)) (lease : LeaseNote) (stray : Stray) : Type 0 where
  pub book : Journal
  pub found : IsFound sizes books lease.lb book
  pub not_out : is_out book.opening (past_of book) lease.ticket ≡ false
  pub returned : IsReturnedAt (past_of book) lease.ticket stray.returned_at

-- the first stray stays until it is asked for
abbrev pub first_stray : Option Stray → Stray → Option Stray
first_stray None stray = Some stray
first_stray (Some before) stray = Some before

-- The ticket of the lease was not out: nothing was added.
pub record MeetsStray (old new : DeskState) (lease : LeaseNote) (stray : Stray) : Type 0 where
  pub ticket : stray.ticket ≡ lease.ticket
  pub receipts : new.receipts ≡ old.receipts
  pub added : new.added ≡ old.added
  pub books : new.books ≡ old.books
  pub rose : RisesByOne old.strays new.strays
  pub met : new.met ≡ first_stray old.met stray
  pub why : IsNotOut old.sizes old.books lease stray

-- The command was done: its entry is the last one that was added.
pub record Commands (old new : DeskState) (lb session at : ℕ) (command : Command) : Type 0 where
  pub last : Receipt
  pub gains : GainsLast old new lb session at last
  pub commanded : last.entry.call ≡ call.Admin command
  pub done : last.entry.answer ≡ answer.Done
  pub named : IsKnown (slice_index old.sizes lb) command
  pub values : HasValues command
  pub full : new.fulls ≡ old.fulls
  pub wide : new.wides ≡ old.wides

-- The answer to a command whose Maintain was refused.
abbrev pub refused_first : {M : Type 0} → RoomError M → AdminError M
refused_first (room.Full mark) = admin.Full mark
refused_first room.NoMemory = admin.NoMemory

-- The refusal of a command after the Maintain that was due, or of that Maintain.
abbrev pub IsCommandRefusal : {M : Type 0} → (M → FullMark) → (at : ℕ) → Command → AdminError M → Journal → List Receipt → Type 0
IsCommandRefusal {M} numbers at command error b due =
    (IsMaintained b at due × RefusesChange numbers (grown_by b due) command error)
    ⊎ ((first : RoomError M) × (error ≡ refused_first first) × (due ≡ []) × RefusesMaintain numbers b at first)

-- Full and TooWide are counted, each by its own count, and no other refusal is.
abbrev pub IsCounted : {M : Type 0} → DeskState → DeskState → AdminError M → Type 0
IsCounted old new admin.UnknownMember = (new.fulls ≡ old.fulls) × (new.wides ≡ old.wides)
IsCounted old new admin.BadValue = (new.fulls ≡ old.fulls) × (new.wides ≡ old.wides)
IsCounted old new (admin.TooWide mark) = (new.fulls ≡ old.fulls) × RisesByOne old.wides new.wides
IsCounted old new (admin.Full mark) = RisesByOne old.fulls new.fulls × (new.wides ≡ old.wides)
IsCounted old new admin.NoMemory = (new.fulls ≡ old.fulls) × (new.wides ≡ old.wides)

pub record RefusesCommand {M : Type 0} (numbers : M → FullMark) (old new : DeskState) (lb session at : ℕ) (command : Command) (error : AdminError M) : Type 0 where
  pub gains : GainsDue old new lb session at (error ≡ admin.NoMemory) (IsCommandRefusal numbers at command error)
  pub counted : IsCounted old new error

-- The view is the present one of a journal that balancer lb may have.
pub record Shows (desk : DeskState) (lb : ℕ) (view : View) : Type 0 where
  pub book : Journal
  pub found : IsFound desk.sizes desk.books lb book
  pub rows : length view.rows ≡ slice_index desk.sizes lb
  pub present : IsPresent book.rules book.opening (past_of book) view
  pub sound : AreSound desk.sizes desk.books
