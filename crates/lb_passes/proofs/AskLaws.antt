-- A turn that asked for a member, by the entries that its call gained.
use Rattle.std.proofs.Common.{◌≡◌, ℕ, ◌-◌, List, ◌∷◌, ◌++◌, [], length, Result, Ok, Err, ap, ◌∙◌}
use Rattle.std.specs.Prelude.{IfOk, IfErr}
use Rattle.atomic_table.specs.Table.{Me, rest}
use Rattle.lb_model.specs.declared.ask.Ask.{Ask}
use Rattle.lb_model.specs.declared.journal.Call.TheVariants as call
use Rattle.lb_model.specs.declared.refusal.FullMark.{FullMark}
use Rattle.lb_model.specs.declared.refusal.RoomError.{RoomError}
use Rattle.lb_book.specs.Desks.{IsAskRefusal}
use Rattle.lb_book.specs.Journal.{Journal}
use Rattle.lb_book.specs.Leases.{IsLeaseOf}
use Rattle.lb_book.specs.PlainDesks.{BookGainsDue, BookGainsLast, Picks, receipt_of}
use Rattle.lb_book.specs.declared.book.Picked.{Picked}
use Rattle.lb_book.specs.declared.desk.Occasion.{Occasion}
use Rattle.lb_book.specs.declared.receipt.Receipt.{Receipt}
use Rattle.lb_passes.specs.Plays.{Took}
use Rattle.lb_passes.specs.declared.pass_view.PassView.{PassView}
use Rattle.lb_passes.specs.Holds.{Denies, Ended, IsIdle, IsTold, Selects, TakesTurn, gained_in}
use Rattle.lb_passes.proofs.GainLaws.{Adds, GivesOwn, adds_of, due_gives, idle_after, select_gives, takes_turn, told_by, with_book}

-- A call added entries that give back nothing but what the caller got.
pub record Gained (v : PassView) (b new : Journal) (before now : List Receipt) (lb session at : ℕ) : Type 0 where
  pub gained : List Receipt
  pub adds : Adds b new before now lb session at gained
  pub gives : GivesOwn v gained

pub ask_gained : (v : PassView) (b new : Journal) (before now : List Receipt) (on : Occasion) (ask : Ask) (r : Result Picked (RoomError FullMark))
    → IfOk r (λ picked. BookGainsLast b new before now on.lb on.session on.at (receipt_of on picked.entry))
    → IfOk r (λ picked. picked.entry.call ≡ call.Select ask)
    → IfErr r (λ e. BookGainsDue b new before now on.lb on.session on.at (IsAskRefusal (λ mark. mark) on.at e b))
    → Gained v b new before now on.lb on.session on.at
ask_gained v b new before now on ask (Ok picked) ok asked err = record {
  gained = ok.due ++ receipt_of on picked.entry ∷ [];
  adds = adds_of b new before now on.lb on.session on.at (ok.due ++ receipt_of on picked.entry ∷ []) ok.gains;
  gives = select_gives v ok.due (receipt_of on picked.entry) ask ok.is_due asked;
}
ask_gained v b new before now on ask (Err e) ok asked err = record {
  gained = err.due;
  adds = adds_of b new before now on.lb on.session on.at err.due err.gains;
  gives = due_gives v err.due err.is_due;
}

-- How many receipts more.
pub many_of : (now before : List Receipt) (n m : ℕ) → n ≡ length now → m ≡ length before → n - m ≡ length now - length before
many_of now before n m is was = ap (λ (k : ℕ). k - m) is ∙ ap (λ (k : ℕ). length now - k) was

-- The turn, for whatever its call added.
module _ (me m1 : Me Journal PassView) (t : ℕ) (took : Took me t m1) (idle : IsIdle me) (b new : Journal) (lent : m1.1 ≡ (0, b) ∷ rest m1.1)
    (before now : List Receipt) (lb session at : ℕ) (g : Gained me.0 b new before now lb session at) (caller : session ≡ me.0.number)
    (k : ℕ) (many : k ≡ length now - length before) where
  pub told_gained : IsTold k (with_book m1 new)
  told_gained = told_by me m1 t took idle b new lent before now lb session at g.gained g.adds caller g.gives k many

  pub turn_gained : (after : Me Journal PassView) → Ended k (with_book m1 new) after → TakesTurn me.0 after.0 b (gained_in before now)
  turn_gained after ended = takes_turn me m1 t took idle b new lent before now lb session at g.gained g.adds caller g.gives k many after ended

  pub idle_gained : (after : Me Journal PassView) → Ended k (with_book m1 new) after → IsIdle after
  idle_gained after ended = idle_after me m1 t took idle b new lent before now lb session at g.gained g.adds caller g.gives k many after ended

pub selects_of : (v w : PassView) (b new : Journal) (before now : List Receipt) (on : Occasion) (ask : Ask) (r : Result Picked (RoomError FullMark))
    → TakesTurn v w b (gained_in before now)
    → IfOk r (λ picked. BookGainsLast b new before now on.lb on.session on.at (receipt_of on picked.entry))
    → IfOk r (λ picked. picked.entry.call ≡ call.Select ask)
    → IfOk r (λ picked. IsLeaseOf picked.entry.answer picked.lease)
    → IfOk r (λ picked. Picks b new ask picked.entry.seq picked.entry.answer)
    → IfOk r (Selects v w before now on ask)
selects_of v w b new before now on ask (Ok picked) turn ok asked lease picks =
    record { book = b; new = new; turn = turn; gains = ok; asked = asked; lease = lease; picks = picks }
selects_of v w b new before now on ask (Err e) turn ok asked lease picks = tt

pub denies_of : (v w : PassView) (b new : Journal) (before now : List Receipt) (on : Occasion) (r : Result Picked (RoomError FullMark))
    → TakesTurn v w b (gained_in before now)
    → IfErr r (λ e. BookGainsDue b new before now on.lb on.session on.at (IsAskRefusal (λ mark. mark) on.at e b))
    → IfErr r (Denies v w before now on)
denies_of v w b new before now on (Ok picked) turn err = tt
denies_of v w b new before now on (Err e) turn err = record { book = b; new = new; turn = turn; gains = err }
