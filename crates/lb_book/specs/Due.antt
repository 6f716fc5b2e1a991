-- When a maintenance is due, and what is answered to the call that does one.
use Rattle.std.specs.Prelude.{ℕ, ◌+◌, ◌<◌, ◌≤◌, max, Option, Some, None, Result, Ok, Err}
use Rattle.lb_model.specs.Journal.{maintained_of, moment_of}
use Rattle.lb_model.specs.Limits.{most_numbers}
use Rattle.lb_model.specs.declared.journal.Entry.{Entry}
use Rattle.lb_model.specs.declared.refusal.FullMark.{FullMark}
use Rattle.lb_model.specs.declared.refusal.RoomError.{RoomError}
use Rattle.lb_model.specs.declared.refusal.RoomError.TheVariants as Room
use Rattle.lb_book.specs.Journal.{IsMarked, Journal, next_number, past_of, tickets_out}

-- The moment that an entry of a call at this moment has.
abbrev pub entry_moment : Journal → (at : ℕ) → ℕ
entry_moment b at = max at (moment_of b.opening (past_of b))

-- The first moment at which the next maintenance is due.
abbrev pub due_moment : Journal → ℕ
due_moment b = maintained_of b.opening (past_of b) + b.opening.config.maintain

-- Nothing is done exactly if no maintenance is due; if one is, a number is left for it, or it is refused.
abbrev pub IsMaintenance : Journal → (at : ℕ) → Result (Option Entry) (RoomError FullMark) → Type 0
IsMaintenance b at (Ok None) = entry_moment b at < due_moment b
IsMaintenance b at (Ok (Some e)) =
    (due_moment b ≤ entry_moment b at) × (next_number b + tickets_out b + 1 ≤ most_numbers)
IsMaintenance b at (Err (Room.Full mark)) =
    (due_moment b ≤ entry_moment b at) × (most_numbers < next_number b + tickets_out b + 1) × IsMarked (next_number b) (tickets_out b) mark
IsMaintenance b at (Err Room.NoMemory) =
    (due_moment b ≤ entry_moment b at) × (next_number b + tickets_out b + 1 ≤ most_numbers)
