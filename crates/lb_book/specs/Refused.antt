-- Why a call is refused, by the journal that it found. A caller's marks tell the numbers of a Book by `numbers`.
use Rattle.std.specs.Prelude.{ℕ, ◌+◌, ◌^◌, ◌<◌, ◌≤◌}
use Rattle.lb_model.specs.Journal.{members}
use Rattle.lb_model.specs.Legal.{HasValues, IsDoable}
use Rattle.lb_model.specs.Limits.{most_numbers}
use Rattle.lb_model.specs.Settings.{common_after}
use Rattle.lb_model.specs.declared.change.Command.{Command}
use Rattle.lb_model.specs.declared.journal.Call.TheVariants as call
use Rattle.lb_model.specs.declared.refusal.AdminError.{AdminError}
use Rattle.lb_model.specs.declared.refusal.AdminError.TheVariants as admin
use Rattle.lb_model.specs.declared.refusal.FullMark.{FullMark}
use Rattle.lb_model.specs.declared.refusal.RoomError.{RoomError}
use Rattle.lb_model.specs.declared.refusal.RoomError.TheVariants as room
use Rattle.lb_book.specs.Commanded.{IsKnown}
use Rattle.lb_book.specs.Due.{due_moment, entry_moment}
use Rattle.lb_book.specs.Journal.{IsMarked, Journal, next_number, past_of, tickets_out}

-- Full is told with the journal's numbers, and only where `more` beside those of the tickets out aren't left.
abbrev pub IsFullAt : (more : ℕ) → Journal → FullMark → Type 0
IsFullAt more b mark = (most_numbers < next_number b + tickets_out b + more) × IsMarked (next_number b) (tickets_out b) mark

-- An ask needs its own number and that of its ticket's Return. Want of memory needs no cause, here and below.
abbrev pub RefusesAsk : {M : Type 0} → (M → FullMark) → Journal → RoomError M → Type 0
RefusesAsk numbers b (room.Full mark) = IsFullAt 2 b (numbers mark)
RefusesAsk numbers b room.NoMemory = Unit {0}

-- A Maintain is due at this moment, but refused.
abbrev pub RefusesMaintain : {M : Type 0} → (M → FullMark) → Journal → (at : ℕ) → RoomError M → Type 0
RefusesMaintain numbers b at (room.Full mark) = (due_moment b ≤ entry_moment b at) × IsFullAt 1 b (numbers mark)
RefusesMaintain numbers b at room.NoMemory = due_moment b ≤ entry_moment b at

-- A command is refused by the first of these that holds.
abbrev pub RefusesChange : {M : Type 0} → (M → FullMark) → Journal → Command → AdminError M → Type 0
RefusesChange numbers b c admin.UnknownMember = ¬ IsKnown (members b.opening) c
RefusesChange numbers b c admin.BadValue = IsKnown (members b.opening) c × ¬ HasValues c
RefusesChange numbers b c (admin.TooWide mark) =
    IsKnown (members b.opening) c × HasValues c × (2 ^ 32 ≤ common_after b.opening (past_of b) (call.Admin c))
    × IsMarked (next_number b) (tickets_out b) (numbers mark)
RefusesChange numbers b c (admin.Full mark) = IsDoable b.opening (past_of b) c × IsFullAt 1 b (numbers mark)
RefusesChange numbers b c admin.NoMemory = Unit {0}
