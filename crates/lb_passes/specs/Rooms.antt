-- The numbers that are left by an answer, by all that the caller has then seen.
use Rattle.std.specs.Prelude.{◌≡◌, ℕ, ◌+◌, ◌^◌, ◌<◌, ◌≤◌, List, [], ◌∷◌, ◌++◌, length, reverse, Result, Ok, Err}
use Rattle.lb_model.specs.Journal.{next_of}
use Rattle.lb_model.specs.Settings.{common_after}
use Rattle.lb_model.specs.Tickets.{out}
use Rattle.lb_model.specs.declared.change.Command.{Command}
use Rattle.lb_model.specs.declared.journal.Call.TheVariants as call
use Rattle.lb_model.specs.declared.journal.Entry.{Entry}
use Rattle.lb_model.specs.declared.opening.Opening.{Opening}
use Rattle.lb_model.specs.declared.refusal.AdminError.{AdminError}
use Rattle.lb_model.specs.declared.refusal.AdminError.TheVariants as admin
use Rattle.lb_model.specs.declared.refusal.FullMark.{FullMark}
use Rattle.lb_model.specs.declared.refusal.RoomError.{RoomError}
use Rattle.lb_model.specs.declared.refusal.RoomError.TheVariants as room
use Rattle.lb_book.specs.Journal.{IsMarked}
use Rattle.lb_passes.specs.declared.pass_view.PassView.{PassView}

-- The number that comes next after the history h, and the count of the tickets that are then out.
abbrev pub next_after : Opening → (h : List Entry) → ℕ
next_after o h = next_of o (reverse h)

abbrev pub out_after : Opening → (h : List Entry) → ℕ
out_after o h = length (out o (reverse h))

-- After h these many numbers are left, beside one for the Return of each ticket that is out; or they aren't, and the mark tells
-- the numbers.
abbrev pub HasRoomAfter : (more : ℕ) → Opening → (h : List Entry) → Type 0
HasRoomAfter more o h = next_after o h + out_after o h + more ≤ 2 ^ 48

abbrev pub LacksRoom : (more : ℕ) → Opening → (h : List Entry) → FullMark → Type 0
LacksRoom more o h mark = (2 ^ 48 < next_after o h + out_after o h + more) × IsMarked (next_after o h) (out_after o h) mark

-- The newest entry that was seen is the call's own, and before it these many numbers were left.
pub record HadRoom (more : ℕ) (v : PassView) : Type 0 where
  pub before : List Entry
  pub newest : Entry
  pub seen : v.seen ≡ before ++ newest ∷ []
  pub room : HasRoomAfter more v.origin.opening before

-- An ask needs two numbers, its own and that of its ticket's Return: it is answered only where all that was seen before it leaves
-- them, and Full only where all that is then seen doesn't. Want of memory needs no cause, here and below.
abbrev pub AskFits : {T : Type 0} → PassView → Result T (RoomError FullMark) → Type 0
AskFits v (Ok done) = HadRoom 2 v
AskFits v (Err (room.Full mark)) = LacksRoom 2 v.origin.opening v.seen mark
AskFits v (Err room.NoMemory) = Unit {0}

-- The newest entry is a command's own, which needs one number, and with it the least common multiple of the factors stays below
-- its limit.
pub record HadRoomFor (command : Command) (v : PassView) : Type 0 where
  pub before : List Entry
  pub newest : Entry
  pub seen : v.seen ≡ before ++ newest ∷ []
  pub room : HasRoomAfter 1 v.origin.opening before
  pub narrow : common_after v.origin.opening (reverse before) (call.Admin command) < 2 ^ 32

-- A command is refused as Full where its number isn't left, and as too wide where that multiple would reach its limit.
abbrev pub CommandFits : {T : Type 0} → Command → PassView → Result T (AdminError FullMark) → Type 0
CommandFits command v (Ok done) = HadRoomFor command v
CommandFits command v (Err admin.UnknownMember) = Unit {0}
CommandFits command v (Err admin.BadValue) = Unit {0}
CommandFits command v (Err (admin.TooWide mark)) =
    (2 ^ 32 ≤ common_after v.origin.opening (reverse v.seen) (call.Admin command))
    × IsMarked (next_after v.origin.opening v.seen) (out_after v.origin.opening v.seen) mark
CommandFits command v (Err (admin.Full mark)) = LacksRoom 1 v.origin.opening v.seen mark
CommandFits command v (Err admin.NoMemory) = Unit {0}
