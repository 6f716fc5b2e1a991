-- Refusals for want of numbers, and a maintenance that is due, over the values that a Book keeps.
use Rattle.std.proofs.Common.{◌≡◌, ℕ, ◌+◌, ◌<◌, ◌≤◌, ◌^◌, List, [], ◌∷◌, ◌++◌, length, reverse, Option, Ok, Err, OnErr, refl, sym, ◌∙◌, ap, subst, arith}
use Rattle.std.specs.Prelude.{Result, max}
use Rattle.std.specs.Result.{IsErr, IsErrAnd}
use Rattle.lb_model.specs.declared.journal.Answer.{Answer}
use Rattle.lb_model.specs.declared.journal.Call.{Call}
use Rattle.lb_model.specs.declared.journal.Entry.{Entry}
use Rattle.lb_model.specs.declared.opening.Opening.{Opening}
use Rattle.lb_model.specs.declared.refusal.FullMark.{FullMark}
use Rattle.lb_model.specs.declared.refusal.RoomError.{RoomError}
use Rattle.lb_model.specs.declared.refusal.RoomError.TheVariants as Room
use Rattle.lb_book.specs.declared.present.Present.{Present}
use Rattle.lb_book.specs.Due.{IsMaintenance, due_moment, entry_moment}
use Rattle.lb_book.specs.Journal.{AddsEntry, IsFullUnless, IsMarked, Journal, next_number, tickets_out}
use Rattle.lb_book.specs.Kept.{IsNow}
use Rattle.lb_book.proofs.AdminLaws.{journal_of}
use Rattle.lb_book.proofs.KeptLaws.{next_is}
use Rattle.lb_model.proofs.ListFacts.{reverse_snoc}

module _ (v : ℕ) (o : Opening) (h : List Entry) (now : Present) (added seq more : ℕ) (is : IsNow v o (reverse h) now) (number : seq ≡ o.next + length h) where
  -- The numbers of a refusal.
  pub full_marked : IsMarked (next_number (journal_of v o h added)) (tickets_out (journal_of v o h added)) (record { next = seq; out = now.out })
  full_marked = (number ∙ next_is o h, is.tickets)

  -- This many numbers are wanted, or are left.
  pub full_past : 2 ^ 48 < seq + now.out + more → 2 ^ 48 < next_number (journal_of v o h added) + tickets_out (journal_of v o h added) + more
  full_past full = omega (arith, number, next_is o h, is.tickets, full)

  pub room_left : seq + now.out + more ≤ 2 ^ 48 → next_number (journal_of v o h added) + tickets_out (journal_of v o h added) + more ≤ 2 ^ 48
  room_left room = omega (arith, number, next_is o h, is.tickets, room)

-- A maintenance is due.
pub due_past : (v : ℕ) (o : Opening) (h : List Entry) (now : Present) (added at moment : ℕ) → IsNow v o (reverse h) now → moment ≡ max at now.at
    → now.maintained + o.config.maintain ≤ moment → due_moment (journal_of v o h added) ≤ entry_moment (journal_of v o h added) at
due_past v o h now added at moment is later due = omega (arith, is.maintained, is.moment, later, due)

-- None is due.
pub early_past : (v : ℕ) (o : Opening) (h : List Entry) (now : Present) (added at moment : ℕ) → IsNow v o (reverse h) now → moment ≡ max at now.at
    → (now.maintained + o.config.maintain ≤ moment → ⊥) → entry_moment (journal_of v o h added) at < due_moment (journal_of v o h added)
early_past v o h now added at moment is later early = omega (arith, is.maintained, is.moment, later, early)

-- The entry is added to what is kept.
pub entry_added : (v : ℕ) (o : Opening) (h xs : List Entry) (now : Present) (added seq session at moment : ℕ) (call : Call) (a : Answer) → IsNow v o (reverse h) now → seq ≡ o.next + length h → moment ≡ max at now.at
    → xs ≡ h ++ record { seq = seq; session = session; at = moment; call = call; answer = a } ∷ []
    → AddsEntry (journal_of v o h added) (journal_of v o xs (added + 1)) session at call (record { seq = seq; session = session; at = moment; call = call; answer = a })
entry_added v o h xs now added seq session at moment call a is number later items = record {
  number = number ∙ next_is o h;
  caller = refl;
  moment = later ∙ ap (λ (m : ℕ). max at m) is.moment;
  asked = refl;
  grown = ap (λ (ys : List Entry). journal_of v o ys (added + 1)) items;
  newest = ap (λ (ys : List Entry). reverse ys) items ∙ reverse_snoc h _;
}

pub anyway : {T E : Type 0} (r : Result T E) (P : Type 0) → P → OnErr r P
anyway (Ok x) P h = tt
anyway (Err e) P h = h

-- Want of memory is a refusal where there are numbers.
pub full_by : {T : Type 0} (next out more : ℕ) (r : Result T (RoomError FullMark)) → IsErr r → IsErrAnd r (λ e. e ≡ Room.NoMemory)
    → next + out + more ≤ 2 ^ 48 → IsFullUnless next out more r
full_by {T} next out more (Ok x) fails same room = room
full_by {T} next out more (Err e) fails same room =
    subst (λ (y : RoomError FullMark). IsFullUnless {T = T} next out more (Err y)) (sym same) room

pub maintenance_by : (b : Journal) (at : ℕ) (r : Result (Option Entry) (RoomError FullMark)) → IsErr r → IsErrAnd r (λ e. e ≡ Room.NoMemory)
    → due_moment b ≤ entry_moment b at → next_number b + tickets_out b + 1 ≤ 2 ^ 48 → IsMaintenance b at r
maintenance_by b at (Ok x) fails same due room = cc
maintenance_by b at (Err e) fails same due room =
    subst (λ (y : RoomError FullMark). IsMaintenance b at (Err y)) (sym same) (due, room)
