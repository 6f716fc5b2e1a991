-- The values that a Site hands out, each with its balancer: leases, refusals, views and strays.
use Rattle.std.specs.Prelude.{ℕ, Option, Some, None}
use Rattle.lb_model.specs.declared.journal.Answer.{Answer}
use Rattle.lb_model.specs.declared.journal.Answer.TheVariants as answer
use Rattle.lb_model.specs.declared.refusal.AdminError.{AdminError}
use Rattle.lb_model.specs.declared.refusal.AdminError.TheVariants as admin
use Rattle.lb_model.specs.declared.refusal.FullMark.{FullMark}
use Rattle.lb_model.specs.declared.refusal.RoomError.{RoomError}
use Rattle.lb_model.specs.declared.refusal.RoomError.TheVariants as room
use Rattle.lb_model.specs.declared.refusal.Stray.{Stray}
use Rattle.lb_model.specs.declared.view.View.{View}
use Rattle.lb_book.specs.Desks.{LeaseNote}
use Rattle.lb_book.specs.declared.book.Lease.{Lease}
use Rattle.lb_shared.specs.declared.site.MarkKind.{MarkKind}
use Rattle.lb_shared.specs.declared.site.MarkKind.TheVariants as refusal

-- A refusal of the Book of balancer lb, with the numbers that it had then.
pub record MarkNote : Type 0 where
  pub lb : ℕ
  pub refusal : MarkKind
  pub numbers : FullMark

-- How many parts of a ledger there are, and what they count.
pub record PartNote : Type 0 where
  pub parts : ℕ
  pub amount : ℕ

-- Balancer lb as it was looked at.
pub record ViewNote : Type 0 where
  pub lb : ℕ
  pub view : View

-- A ticket that came back to balancer lb, where it wasn't out.
pub record StrayNote : Type 0 where
  pub lb : ℕ
  pub stray : Stray

-- The lease of an answer of balancer lb: there is one exactly where a member was chosen.
abbrev pub lease_of : (lb : ℕ) → Answer → Option LeaseNote
lease_of lb (answer.Chosen m t how probe) = Some (record { lb = lb; member = m; ticket = t })
lease_of lb answer.NoMember = None
lease_of lb answer.Forced = None
lease_of lb answer.Done = None

-- A lease of a Book, told of balancer lb.
abbrev pub lease_at : (lb : ℕ) → Option Lease → Option LeaseNote
lease_at lb (Some lease) = Some (record { lb = lb; member = lease.member; ticket = lease.ticket })
lease_at lb None = None

-- A refusal of a Book, told of balancer lb.
abbrev pub marked_room : (lb : ℕ) → RoomError FullMark → RoomError MarkNote
marked_room lb (room.Full mark) = room.Full (record { lb = lb; refusal = refusal.Full; numbers = mark })
marked_room lb room.NoMemory = room.NoMemory

abbrev pub marked_admin : (lb : ℕ) → AdminError FullMark → AdminError MarkNote
marked_admin lb admin.UnknownMember = admin.UnknownMember
marked_admin lb admin.BadValue = admin.BadValue
marked_admin lb (admin.TooWide mark) = admin.TooWide (record { lb = lb; refusal = refusal.TooWide; numbers = mark })
marked_admin lb (admin.Full mark) = admin.Full (record { lb = lb; refusal = refusal.Full; numbers = mark })
marked_admin lb admin.NoMemory = admin.NoMemory
