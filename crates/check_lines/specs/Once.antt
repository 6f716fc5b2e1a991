-- How one exchange over a desk ends.
use Rattle.std.specs.Prelude.{◌≡◌, ℕ, ◌+◌, ◌<◌, ◌⊎◌, Bool, false, true, List, [], ◌∷◌, ◌++◌, length, slice_index}
use Rattle.lb_model.specs.Free.{is_in}
use Rattle.lb_model.specs.declared.ask.Ask.{Ask}
use Rattle.lb_model.specs.declared.journal.Answer.TheVariants as answer
use Rattle.lb_model.specs.declared.journal.Call.TheVariants as call
use Rattle.lb_model.specs.declared.journal.How.{How}
use Rattle.lb_model.specs.declared.journal.Outcome.{Outcome}
use Rattle.lb_model.specs.declared.refusal.RoomError.{RoomError}
use Rattle.lb_model.specs.declared.refusal.RoomError.TheVariants as room
use Rattle.lb_book.specs.Desks.{DeskState, RisesByOne, first_stray}
use Rattle.lb_book.specs.ToldBooks.{IsNoneDue, WhereTold}
use Rattle.lb_book.specs.declared.receipt.Receipt.{Receipt}
use Rattle.check_lines.specs.declared.callers.Once.{Once}
use Rattle.check_lines.specs.declared.callers.Once.TheVariants as once

-- Each entry that was added has its receipt.
abbrev pub GainsAsMany : DeskState → DeskState → Type 0
GainsAsMany old new = new.added + length old.receipts ≡ old.added + length new.receipts

-- The last two entries are the choice of this member and the Return of its ticket with this outcome.
pub record ReturnsOnce (old new : DeskState) (lb : ℕ) (ask : Ask) (outcome : Outcome) (m : ℕ) : Type 0 where
  pub before : List Receipt
  pub chosen : Receipt
  pub back : Receipt
  pub gained : new.receipts ≡ old.receipts ++ before ++ chosen ∷ back ∷ []
  pub balancer : (chosen.lb ≡ lb) × (back.lb ≡ lb)
  pub asked : chosen.entry.call ≡ call.Select ask
  pub answered : (how : How) × (probe : Bool) × (chosen.entry.answer ≡ answer.Chosen m chosen.entry.seq how probe)
  pub returned : back.entry.call ≡ call.Return chosen.entry.seq outcome
  pub done : back.entry.answer ≡ answer.Done

-- The last entry is an ask that was answered without a member.
pub record HasNoChoice (old new : DeskState) (ask : Ask) : Type 0 where
  pub before : List Receipt
  pub last : Receipt
  pub gained : new.receipts ≡ old.receipts ++ before ++ last ∷ []
  pub asked : last.entry.call ≡ call.Select ask
  pub unchosen : (last.entry.answer ≡ answer.NoMember) ⊎ (last.entry.answer ≡ answer.Forced)

abbrev pub EndsCall : {M : Type 0} → (old new : DeskState) → (lb : ℕ) → Ask → Outcome → Once M → Type 0
EndsCall old new lb ask outcome (once.Returned m) =
    ReturnsOnce old new lb ask outcome m × (m < slice_index old.sizes lb) × (is_in ask.tried m ≡ false)
EndsCall old new lb ask outcome once.Unchosen =
    HasNoChoice old new ask × (new.strays ≡ old.strays) × (new.met ≡ old.met) × (new.fulls ≡ old.fulls)
EndsCall old new lb ask outcome (once.Refused error) =
    (new.strays ≡ old.strays) × (new.met ≡ old.met) × (error ≡ room.NoMemory → new.fulls ≡ old.fulls)
EndsCall old new lb ask outcome (once.Stray stray) = RisesByOne old.strays new.strays × (new.met ≡ first_stray old.met stray)

-- A fact of the refusal, where the exchange was refused.
abbrev pub WhereRefused : {M : Type 0} → Once M → (RoomError M → Type 0) → Type 0
WhereRefused (once.Returned m) P = Unit {0}
WhereRefused once.Unchosen P = Unit {0}
WhereRefused (once.Refused error) P = P error
WhereRefused (once.Stray stray) P = Unit {0}

-- No Maintain is due for a call on balancer lb at this moment, where its Book is told.
abbrev pub IsUpToDate : DeskState → (lb at : ℕ) → Type 0
IsUpToDate desk lb at = WhereTold desk.books lb (λ b. IsNoneDue b at)

-- After an exchange that was not refused no Maintain is due.
abbrev pub LeavesNoneDue : {M : Type 0} → DeskState → (lb at : ℕ) → Once M → Type 0
LeavesNoneDue new lb at (once.Returned m) = IsUpToDate new lb at
LeavesNoneDue new lb at once.Unchosen = IsUpToDate new lb at
LeavesNoneDue new lb at (once.Refused error) = Unit {0}
LeavesNoneDue new lb at (once.Stray stray) = IsUpToDate new lb at
