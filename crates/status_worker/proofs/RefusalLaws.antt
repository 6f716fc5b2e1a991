-- A refused command with a desk's own marks, told with their numbers.
use Rattle.std.proofs.Common.{◌≡◌, ℕ, List, ◌⊎◌, refl, inl, inr, ap, ◌∙◌}
use Rattle.lb_model.specs.declared.change.Command.{Command}
use Rattle.lb_model.specs.declared.refusal.AdminError.{AdminError}
use Rattle.lb_model.specs.declared.refusal.AdminError.TheVariants as admin
use Rattle.lb_model.specs.declared.refusal.FullMark.{FullMark}
use Rattle.lb_model.specs.declared.refusal.RoomError.{RoomError}
use Rattle.lb_model.specs.declared.refusal.RoomError.TheVariants as room
use Rattle.lb_book.specs.Desks.{DeskState, GainsDue, IsCommandRefusal, IsCounted, RefusesCommand, refused_first}
use Rattle.lb_book.specs.Journal.{Journal}
use Rattle.lb_book.specs.Refused.{RefusesChange, RefusesMaintain}
use Rattle.lb_book.specs.ToldBooks.{grown_by}
use Rattle.lb_book.specs.declared.receipt.Receipt.{Receipt}
use Rattle.status_worker.specs.Commanding.{no_page_by}
use Rattle.status_worker.specs.Commands.{same_mark}

-- the refusal with its mark's numbers
abbrev pub plain_error : {M : Type 0} → (M → FullMark) → AdminError M → AdminError FullMark
plain_error numbers admin.UnknownMember = admin.UnknownMember
plain_error numbers admin.BadValue = admin.BadValue
plain_error numbers (admin.TooWide mark) = admin.TooWide (numbers mark)
plain_error numbers (admin.Full mark) = admin.Full (numbers mark)
plain_error numbers admin.NoMemory = admin.NoMemory

abbrev plain_room : {M : Type 0} → (M → FullMark) → RoomError M → RoomError FullMark
plain_room numbers (room.Full mark) = room.Full (numbers mark)
plain_room numbers room.NoMemory = room.NoMemory

plain_first : {M : Type 0} (numbers : M → FullMark) (first : RoomError M)
    → plain_error numbers (refused_first first) ≡ refused_first (plain_room numbers first)
plain_first numbers (room.Full mark) = refl
plain_first numbers room.NoMemory = refl

plain_maintain : {M : Type 0} (numbers : M → FullMark) (b : Journal) (at : ℕ) (first : RoomError M) → RefusesMaintain numbers b at first
    → RefusesMaintain same_mark b at (plain_room numbers first)
plain_maintain numbers b at (room.Full mark) refused = refused
plain_maintain numbers b at room.NoMemory refused = refused

plain_change : {M : Type 0} (numbers : M → FullMark) (b : Journal) (c : Command) (error : AdminError M) → RefusesChange numbers b c error
    → RefusesChange same_mark b c (plain_error numbers error)
plain_change numbers b c admin.UnknownMember refused = refused
plain_change numbers b c admin.BadValue refused = refused
plain_change numbers b c (admin.TooWide mark) refused = refused
plain_change numbers b c (admin.Full mark) refused = refused
plain_change numbers b c admin.NoMemory refused = refused

plain_counted : {M : Type 0} (numbers : M → FullMark) (old new : DeskState) (error : AdminError M) → IsCounted old new error
    → IsCounted old new (plain_error numbers error)
plain_counted numbers old new admin.UnknownMember counted = counted
plain_counted numbers old new admin.BadValue counted = counted
plain_counted numbers old new (admin.TooWide mark) counted = counted
plain_counted numbers old new (admin.Full mark) counted = counted
plain_counted numbers old new admin.NoMemory counted = counted

plain_refusal : {M : Type 0} (numbers : M → FullMark) (at : ℕ) (c : Command) (error : AdminError M) (b : Journal) (due : List Receipt)
    → IsCommandRefusal numbers at c error b due → IsCommandRefusal same_mark at c (plain_error numbers error) b due
plain_refusal numbers at c error b due (inl after) = inl (after.0, plain_change numbers (grown_by b due) c error after.1)
plain_refusal numbers at c error b due (inr first) =
    inr (plain_room numbers first.0, ap (plain_error numbers) first.1 ∙ plain_first numbers first.0, first.2, plain_maintain numbers b at first.0 first.3)

wanted_too : {M : Type 0} (numbers : M → FullMark) (error : AdminError M) → error ≡ admin.NoMemory → plain_error numbers error ≡ admin.NoMemory
wanted_too numbers error is = ap (plain_error numbers) is

pub plainly : {M : Type 0} (numbers : M → FullMark) (old new : DeskState) (lb session at : ℕ) (c : Command) (error : AdminError M)
    → RefusesCommand numbers old new lb session at c error → RefusesCommand same_mark old new lb session at c (plain_error numbers error)
plainly numbers old new lb session at c error refused = record {
  gains = record {
    due = refused.gains.due;
    is_due = refused.gains.is_due;
    gains = refused.gains.gains;
    why = elim refused.gains.why [
      | inl found ↦ inl (found.0, plain_refusal numbers at c error found.0.book refused.gains.due found.1)
      | inr nothing ↦ inr (nothing.0, wanted_too numbers error nothing.1)
    ];
  };
  counted = plain_counted numbers old new error refused.counted;
}

pub same_page : {M : Type 0} (numbers : M → FullMark) (error : AdminError M) → no_page_by error ≡ no_page_by (plain_error numbers error)
same_page numbers admin.UnknownMember = refl
same_page numbers admin.BadValue = refl
same_page numbers (admin.TooWide mark) = refl
same_page numbers (admin.Full mark) = refl
same_page numbers admin.NoMemory = refl
