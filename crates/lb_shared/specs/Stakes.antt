-- A desk's stake in a Site, and how a hold of the lock changes it, whatever the desk counted.
use Rattle.std.specs.Prelude.{◌≡◌, ℕ, ◌+◌, ◌≤◌, List, Option, length}
use Rattle.lb_model.specs.declared.ask.Ask.{Ask}
use Rattle.lb_model.specs.declared.change.Command.{Command}
use Rattle.lb_model.specs.declared.refusal.AdminError.{AdminError}
use Rattle.lb_model.specs.declared.refusal.AdminError.TheVariants as admin
use Rattle.lb_model.specs.declared.refusal.RoomError.{RoomError}
use Rattle.lb_model.specs.declared.refusal.RoomError.TheVariants as room
use Rattle.lb_model.specs.declared.refusal.Stray.{Stray}
use Rattle.lb_model.specs.declared.segment.Segment.{Segment}
use Rattle.lb_book.specs.Desks.{Chooses, Commands, DeskState, GainsDue, IsAskRefusal, IsCommandRefusal, LeaseNote, TakesBack}
use Rattle.lb_book.specs.declared.desk.Choice.{Choice}
use Rattle.lb_book.specs.declared.desk.Occasion.{Occasion}
use Rattle.lb_book.specs.declared.receipt.Receipt.{Receipt}
use Rattle.lb_shared.specs.Histories.{MayCut, SeatNote}
use Rattle.lb_shared.specs.Notes.{MarkNote}
use Rattle.lb_shared.specs.SharedDesks.{shared_desk}
use Rattle.lb_shared.specs.declared.locked.HandedBack.{HandedBack}

-- A desk's stake in the Site: its part of the ledger and the amount that it counts, the receipts with their room and how many
-- were forgotten, the pairs that are held, and its seat at the lock.
pub record StakeState : Type 0 where
  pub parts : ℕ
  pub amount : ℕ
  pub receipts : List Receipt
  pub room : ℕ
  pub forgotten : ℕ
  pub held : List (ℕ × ℕ)
  pub seat : SeatNote

-- A desk with this stake and these counts, as each desk is told.
abbrev pub told_of : (sizes : List ℕ) → StakeState → (strays fulls wides : ℕ) → (met : Option Stray) → DeskState
told_of sizes stake strays fulls wides met = shared_desk sizes stake.parts stake.receipts stake.held stake.amount strays fulls wides met

-- A hold keeps the part of the ledger, forgets no receipt, and is at the same Site.
abbrev pub KeepsStake : (old new : StakeState) → Type 0
KeepsStake old new = (new.parts ≡ old.parts) × (new.forgotten ≡ old.forgotten) × (new.seat.starts ≡ old.seat.starts)

-- As `KeepsStake`, of a hold that chooses or commands: it adds two receipts at most, and its seat has seen this cut as its own.
pub record KeepsInCall (old new : StakeState) (cut : Option (ℕ × Segment)) : Type 0 where
  pub stake : KeepsStake old new
  pub two : length new.receipts ≤ length old.receipts + 2
  pub marks : MayCut old.seat new.seat cut

-- The desk chose.
abbrev pub StakeChooses : (sizes : List ℕ) → (old new : StakeState) → Occasion → Ask → Choice LeaseNote → Type 0
StakeChooses sizes old new on ask c =
    (s f w : ℕ) (m : Option Stray) → Chooses (λ lease. lease) (told_of sizes old s f w m) (told_of sizes new s f w m) on.lb on.session on.at ask c

-- An ask was refused, or the Maintain before it.
abbrev pub StakeDenies : (sizes : List ℕ) → (old new : StakeState) → Occasion → RoomError MarkNote → Type 0
StakeDenies sizes old new on e =
    (s f w f' w' : ℕ) (m : Option Stray) → GainsDue (told_of sizes old s f w m) (told_of sizes new s f' w' m) on.lb on.session on.at
    (e ≡ room.NoMemory) (IsAskRefusal (λ mark. mark.numbers) on.at e)

-- A command was done.
abbrev pub StakeCommands : (sizes : List ℕ) → (old new : StakeState) → Occasion → Command → Type 0
StakeCommands sizes old new on command =
    (s f w : ℕ) (m : Option Stray) → Commands (told_of sizes old s f w m) (told_of sizes new s f w m) on.lb on.session on.at command

-- A command was refused, or the Maintain before it.
abbrev pub StakeRefuses : (sizes : List ℕ) → (old new : StakeState) → Occasion → Command → AdminError MarkNote → Type 0
StakeRefuses sizes old new on command e =
    (s f w f' w' : ℕ) (m : Option Stray) → GainsDue (told_of sizes old s f w m) (told_of sizes new s f' w' m) on.lb on.session on.at
    (e ≡ admin.NoMemory) (IsCommandRefusal (λ mark. mark.numbers) on.at command e)

-- A lease came back.
abbrev pub StakeTakesBack : {L : Type 0} → (sizes : List ℕ) → (old new : StakeState) → HandedBack L → Type 0
StakeTakesBack sizes old new back =
    (s f w : ℕ) (m : Option Stray)
    → TakesBack (told_of sizes old s f w m) (told_of sizes new s f w m) back.session back.at back.lease back.outcome
