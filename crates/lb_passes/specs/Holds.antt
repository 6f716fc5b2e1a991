-- A caller between its calls, and after one turn at the Book.
use Rattle.std.specs.Prelude.{◌≡◌, ℕ, List, [], ◌∷◌, ◌++◌, length, map, drop, Result, IfOk}
use Rattle.atomic_table.specs.Table.{Me}
use Rattle.jk_io.specs.declared.failures.NoMemory.{NoMemory}
use Rattle.lb_model.specs.Journal.{members}
use Rattle.lb_model.specs.Legal.{HasValues, IsNext}
use Rattle.lb_model.specs.Present.{IsPresent}
use Rattle.lb_model.specs.declared.ask.Ask.{Ask}
use Rattle.lb_model.specs.declared.change.Command.{Command}
use Rattle.lb_model.specs.declared.journal.Answer.TheVariants as answer
use Rattle.lb_model.specs.declared.journal.Call.TheVariants as call
use Rattle.lb_model.specs.declared.journal.Entry.{Entry}
use Rattle.lb_model.specs.declared.journal.Outcome.{Outcome}
use Rattle.lb_model.specs.declared.refusal.AdminError.{AdminError}
use Rattle.lb_model.specs.declared.refusal.FullMark.{FullMark}
use Rattle.lb_model.specs.declared.refusal.RoomError.{RoomError}
use Rattle.lb_model.specs.declared.view.View.{View}
use Rattle.lb_book.specs.Commanded.{IsKnown}
use Rattle.lb_book.specs.Desks.{IsAskRefusal, IsCommandRefusal}
use Rattle.lb_book.specs.Journal.{AddsEntry, Journal, past_of}
use Rattle.lb_book.specs.Leases.{IsLeaseOf}
use Rattle.lb_book.specs.PlainDesks.{BookCommands, BookGainsDue, BookGainsLast, Picks, receipt_of}
use Rattle.lb_book.specs.declared.book.Picked.{Picked}
use Rattle.lb_book.specs.declared.desk.Occasion.{Occasion}
use Rattle.lb_book.specs.declared.receipt.Receipt.{Receipt}
use Rattle.lb_book.specs.Histories.{AreOf, BeginsWith, IsHistory, own_of}
use Rattle.lb_passes.specs.Plays.{grown_owns, last_in, turn_of, turning}
use Rattle.lb_passes.specs.Turns.{IsBookOf}
use Rattle.lb_passes.specs.declared.pass_view.PassView.{PassView}
use Rattle.lb_passes.specs.declared.pass_view.Turn.TheVariants.{Idle, Out}

-- The entries of these receipts.
abbrev pub entries_in : List Receipt → List Entry
entries_in gained = map (λ r. r.entry) gained

-- The entries of the first caller that is carried.
abbrev pub first_own : List (ℕ × List Entry) → List Entry
first_own [] = []
first_own (x ∷ xs) = x.1

-- A caller's own entries.
abbrev pub own_in : PassView → List Entry
own_in v = first_own v.owns

-- A caller without a turn, which carries its own number alone.
pub record IsIdle (me : Me Journal PassView) : Type 0 where
  pub turn : me.0.turn ≡ Idle
  pub empty : me.1 ≡ []
  pub owns : me.0.owns ≡ (me.0.number, own_in me.0) ∷ []

-- A note carries no number.
pub record IsNote (me : Me Journal PassView) : Type 0 where
  pub turn : me.0.turn ≡ Idle
  pub empty : me.1 ≡ []
  pub owns : me.0.owns ≡ []

-- A caller has the Book, whose last k entries are its own new ones: with them the history goes on.
pub record IsTold (k : ℕ) (me : Me Journal PassView) : Type 0 where
  pub turn : me.0.turn ≡ Out (turn_of me.0.turn)
  pub owns : me.0.owns ≡ (me.0.number, own_in me.0) ∷ []
  pub book : Journal
  pub carried : me.1 ≡ (0, book) ∷ []
  pub many : length (last_in k me.1) ≡ k
  pub mine : AreOf me.0.number (last_in k me.1)
  pub history : IsHistory me.0.origin.opening (me.0.seen ++ last_in k me.1)
  pub stands : IsBookOf me.0.origin (me.0.seen ++ last_in k me.1) book

-- It told them and gave the Book back.
abbrev pub Ended : (k : ℕ) → Me Journal PassView → Me Journal PassView → Type 0
Ended k me after =
    let new = last_in k me.1 in after ≡ (turning me.0 Idle (me.0.seen ++ new) (grown_owns new me.0.owns), [])

-- The entries of the receipts that came after those of before.
abbrev pub gained_in : (before now : List Receipt) → List Receipt
gained_in before now = drop (length before) now

-- One turn: the caller found the Book b, whose whole history begins with all that the caller had seen and has just its own
-- entries of its number. The entries of `gained` follow, and the caller has then seen all.
pub record TakesTurn (v w : PassView) (b : Journal) (gained : List Receipt) : Type 0 where
  pub log : List Entry
  pub begins : BeginsWith log v.seen
  pub stands : IsBookOf v.origin log b
  pub own : own_in v ≡ own_of v.number log
  pub before : IsHistory v.origin.opening log
  pub mine : AreOf v.number (entries_in gained)
  pub history : IsHistory v.origin.opening (log ++ entries_in gained)
  pub after : w ≡ turning v Idle (log ++ entries_in gained) ((v.number, own_in v ++ entries_in gained) ∷ [])

-- A turn that chose.
pub record Selects (v w : PassView) (before now : List Receipt) (on : Occasion) (ask : Ask) (picked : Picked) : Type 0 where
  pub book : Journal
  pub new : Journal
  pub turn : TakesTurn v w book (gained_in before now)
  pub gains : BookGainsLast book new before now on.lb on.session on.at (receipt_of on picked.entry)
  pub asked : picked.entry.call ≡ call.Select ask
  pub lease : IsLeaseOf picked.entry.answer picked.lease
  pub picks : Picks book new ask picked.entry.seq picked.entry.answer

-- A turn that refused an ask, or the Maintain before it.
pub record Denies (v w : PassView) (before now : List Receipt) (on : Occasion) (error : RoomError FullMark) : Type 0 where
  pub book : Journal
  pub new : Journal
  pub turn : TakesTurn v w book (gained_in before now)
  pub gains : BookGainsDue book new before now on.lb on.session on.at (IsAskRefusal (λ mark. mark) on.at error book)

-- A turn that took a ticket back.
pub record ReturnsInTurn (v w : PassView) (before now : List Receipt) (on : Occasion) (ticket : ℕ) (outcome : Outcome) : Type 0 where
  pub book : Journal
  pub new : Journal
  pub entry : Entry
  pub turn : TakesTurn v w book (gained_in before now)
  pub receipts : now ≡ before ++ receipt_of on entry ∷ []
  pub adds : AddsEntry book new on.session on.at (call.Return ticket outcome) entry
  pub done : entry.answer ≡ answer.Done
  pub next : IsNext book.rules book.opening (past_of book) entry

-- A turn that did a command.
pub record CommandsInTurn (v w : PassView) (before now : List Receipt) (on : Occasion) (command : Command) : Type 0 where
  pub book : Journal
  pub new : Journal
  pub turn : TakesTurn v w book (gained_in before now)
  pub gains : BookCommands book new before now on command
  pub named : IsKnown (members book.opening) command × HasValues command

-- A turn that refused a command, or the Maintain before it.
pub record RefusesInTurn (v w : PassView) (before now : List Receipt) (on : Occasion) (command : Command) (error : AdminError FullMark) : Type 0 where
  pub book : Journal
  pub new : Journal
  pub turn : TakesTurn v w book (gained_in before now)
  pub gains : BookGainsDue book new before now on.lb on.session on.at (IsCommandRefusal (λ mark. mark) on.at command error book)

-- A turn that looked.
pub record Looks (v w : PassView) (result : Result View NoMemory) : Type 0 where
  pub book : Journal
  pub turn : TakesTurn v w book []
  pub present : IfOk result (λ view. IsPresent book.rules book.opening (past_of book) view)
