-- A call of a desk on one balancer, by the desk's lists before and after it.
use Rattle.std.specs.Prelude.{◌≡◌, ◌++◌, ◌⊎◌}
use Rattle.lb_model.specs.declared.ask.Ask.{Ask}
use Rattle.lb_model.specs.declared.change.Command.{Command}
use Rattle.lb_model.specs.declared.refusal.AdminError.{AdminError}
use Rattle.lb_model.specs.declared.refusal.AdminError.TheVariants as admin
use Rattle.lb_model.specs.declared.refusal.FullMark.{FullMark}
use Rattle.lb_model.specs.declared.refusal.RoomError.{RoomError}
use Rattle.lb_model.specs.declared.refusal.RoomError.TheVariants as room
use Rattle.lb_book.specs.PlainLeases.{IsChosenFor, pairs_in}
use Rattle.lb_book.specs.declared.book.Picked.{Picked}
use Rattle.lb_book.specs.declared.desk.Choice.{Choice}
use Rattle.lb_book.specs.declared.desk.Occasion.{Occasion}
use Rattle.lb_book.specs.declared.plain_desk.PlainLease.{PlainLease}
use Rattle.lb_passes.specs.declared.pass_view.PassView.{PassView}
use Rattle.lb_passes.specs.Holds.{CommandsInTurn, Denies, RefusesInTurn, Selects}
use Rattle.lb_passes.specs.declared.desk_lists.DeskLists.{DeskLists}

-- It chose as a turn at the Book picked; its ticket is held.
pub record CallChooses (v w : PassView) (old new : DeskLists) (on : Occasion) (ask : Ask) (c : Choice PlainLease) : Type 0 where
  pub picked : Picked
  pub selects : Selects v w old.receipts.items new.receipts.items on ask picked
  pub choice : IsChosenFor on.lb picked.entry.answer c
  pub held : new.held.items ≡ old.held.items ++ pairs_in on.lb picked.entry.answer

-- Nothing happened, for want of memory.
pub record CallWants (v w : PassView) (old new : DeskLists) : Type 0 where
  pub view : w ≡ v
  pub receipts : new.receipts.items ≡ old.receipts.items

-- The ask was refused in a turn, or before one.
pub record CallDenies (v w : PassView) (old new : DeskLists) (on : Occasion) (error : RoomError FullMark) : Type 0 where
  pub why : Denies v w old.receipts.items new.receipts.items on error ⊎ (CallWants v w old new × (error ≡ room.NoMemory))
  pub held : new.held.items ≡ old.held.items

pub record CallCommands (v w : PassView) (old new : DeskLists) (on : Occasion) (command : Command) : Type 0 where
  pub commands : CommandsInTurn v w old.receipts.items new.receipts.items on command
  pub held : new.held.items ≡ old.held.items

pub record CallRefuses (v w : PassView) (old new : DeskLists) (on : Occasion) (command : Command) (error : AdminError FullMark) : Type 0 where
  pub why : RefusesInTurn v w old.receipts.items new.receipts.items on command error ⊎ (CallWants v w old new × (error ≡ admin.NoMemory))
  pub held : new.held.items ≡ old.held.items
