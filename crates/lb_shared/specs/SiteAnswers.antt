-- When a Site refuses a call, and with which mark: what the Book at the place says, told of its balancer.
use Rattle.std.specs.Prelude.{◌≡◌, ℕ, ◌+◌, ◌^◌, ◌<◌, ◌≤◌, Option, Some, None, Result, Ok, Err}
use Rattle.lb_model.specs.Journal.{members}
use Rattle.lb_model.specs.Legal.{HasValues, IsDoable}
use Rattle.lb_model.specs.Limits.{most_numbers}
use Rattle.lb_model.specs.Settings.{common_after}
use Rattle.lb_model.specs.declared.change.Command.{Command}
use Rattle.lb_model.specs.declared.journal.Call.TheVariants as call
use Rattle.lb_model.specs.declared.refusal.AdminError.{AdminError}
use Rattle.lb_model.specs.declared.refusal.AdminError.TheVariants as admin
use Rattle.lb_model.specs.declared.refusal.RoomError.{RoomError}
use Rattle.lb_model.specs.declared.refusal.RoomError.TheVariants as room
use Rattle.lb_book.specs.Commanded.{IsKnown}
use Rattle.lb_book.specs.Due.{due_moment, entry_moment}
use Rattle.lb_book.specs.Journal.{Journal, next_number, past_of, tickets_out}
use Rattle.lb_shared.specs.Notes.{MarkNote}
use Rattle.lb_shared.specs.declared.site.MarkKind.{MarkKind}
use Rattle.lb_shared.specs.declared.site.MarkKind.TheVariants as refusal

-- The mark is of this refusal of balancer lb, and has the numbers of its Book.
pub record IsMarkOf (lb : ℕ) (why : MarkKind) (b : Journal) (mark : MarkNote) : Type 0 where
  pub of : mark.lb ≡ lb
  pub refusal : mark.refusal ≡ why
  pub next : mark.numbers.next ≡ next_number b
  pub out : mark.numbers.out ≡ tickets_out b

-- At least `more` numbers are left beside those of the Returns to come.
abbrev pub HasRoom : (more : ℕ) → Journal → Type 0
HasRoom more b = next_number b + tickets_out b + more ≤ most_numbers

abbrev pub IsFullAt : (lb more : ℕ) → Journal → MarkNote → Type 0
IsFullAt lb more b mark = (most_numbers < next_number b + tickets_out b + more) × IsMarkOf lb refusal.Full b mark

-- Full comes exactly where fewer than `more` numbers are left.
abbrev pub IsRoomAt : {T : Type 0} → (lb more : ℕ) → Journal → Result T (RoomError MarkNote) → Type 0
IsRoomAt lb more b (Ok done) = HasRoom more b
IsRoomAt lb more b (Err (room.Full mark)) = IsFullAt lb more b mark
IsRoomAt lb more b (Err room.NoMemory) = HasRoom more b

-- Nothing is done exactly where no maintenance is due, and there none is refused.
abbrev pub IsMaintenanceAt : {T : Type 0} → (lb : ℕ) → Journal → (at : ℕ) → Result (Option T) (RoomError MarkNote) → Type 0
IsMaintenanceAt lb b at (Ok None) = entry_moment b at < due_moment b
IsMaintenanceAt lb b at (Ok (Some done)) = (due_moment b ≤ entry_moment b at) × HasRoom 1 b
IsMaintenanceAt lb b at (Err (room.Full mark)) = (due_moment b ≤ entry_moment b at) × IsFullAt lb 1 b mark
IsMaintenanceAt lb b at (Err room.NoMemory) = (due_moment b ≤ entry_moment b at) × HasRoom 1 b

-- The answer to a command, by what holds of it: each refusal comes after those before it.
abbrev pub IsCommandedAt : {T : Type 0} → (lb : ℕ) → Journal → Command → Result T (AdminError MarkNote) → Type 0
IsCommandedAt lb b c (Ok done) = IsDoable b.opening (past_of b) c × HasRoom 1 b
IsCommandedAt lb b c (Err admin.UnknownMember) = ¬ IsKnown (members b.opening) c
IsCommandedAt lb b c (Err admin.BadValue) = IsKnown (members b.opening) c × ¬ HasValues c
IsCommandedAt lb b c (Err (admin.TooWide mark)) =
    IsKnown (members b.opening) c × HasValues c × (2 ^ 32 ≤ common_after b.opening (past_of b) (call.Admin c))
    × IsMarkOf lb refusal.TooWide b mark
IsCommandedAt lb b c (Err (admin.Full mark)) = IsDoable b.opening (past_of b) c × IsFullAt lb 1 b mark
IsCommandedAt lb b c (Err admin.NoMemory) = IsDoable b.opening (past_of b) c × HasRoom 1 b
