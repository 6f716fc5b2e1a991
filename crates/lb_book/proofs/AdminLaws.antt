-- A command refused, or found doable, over the values that a Book keeps.
use Rattle.std.proofs.Common.{◌≡◌, ℕ, ◌+◌, ◌<◌, ◌≤◌, ◌^◌, List, length, reverse, Option, Ok, Err, sym, ◌∙◌, subst, arith}
use Rattle.std.specs.Prelude.{Result}
use Rattle.std.specs.Result.{IsErr, IsErrAnd}
use Rattle.lb_model.specs.Journal.{members}
use Rattle.lb_model.specs.Legal.{IsDoable}
use Rattle.lb_model.specs.Settings.{common_after}
use Rattle.lb_model.specs.declared.change.Command.{Command}
use Rattle.lb_model.specs.declared.journal.Call.{Call}
use Rattle.lb_model.specs.declared.journal.Entry.{Entry}
use Rattle.lb_model.specs.declared.opening.Opening.{Opening}
use Rattle.lb_model.specs.declared.refusal.AdminError.{AdminError}
use Rattle.lb_model.specs.declared.refusal.AdminError.TheVariants as Admin
use Rattle.lb_model.specs.declared.refusal.FullMark.{FullMark}
use Rattle.lb_book.specs.declared.present.Present.{Present}
use Rattle.lb_rules.specs.declared.standing.Standing.{Standing}
use Rattle.lb_book.specs.Commanded.{IsCommanded, IsJudgedCommand, IsKnown, common_commanded}
use Rattle.lb_book.specs.Journal.{IsMarked, Journal, next_number, tickets_out}
use Rattle.lb_book.specs.Kept.{IsKept}
use Rattle.lb_book.proofs.ChoiceLaws.{nobody}
use Rattle.lb_book.proofs.CommandLaws.{common-now}
use Rattle.lb_book.proofs.KeptLaws.{next_is}

abbrev pub journal_of : ℕ → Opening → List Entry → ℕ → Journal
journal_of v o h added = record { rules = v; opening = o; entries = h; added = added }

-- A refusal that is handed on, or made of another error.
pub commanded_by : (b : Journal) (c : Command) (r : Result Entry (AdminError FullMark)) (x : AdminError FullMark) → IsErr r
    → IsErrAnd r (λ e. e ≡ x) → IsCommanded b c (Err x) → IsCommanded b c r
commanded_by b c (Ok e) x fails same is = cc
commanded_by b c (Err e) x fails same is = subst (λ (y : AdminError FullMark). IsCommanded b c (Err y)) (sym same) is

-- The Book at a refusal without a number.
refused : (b : Journal) (c : Command) (mark : FullMark) (common : ℕ) (e : AdminError FullMark) (n : ℕ) (rows : List Standing)
    → n ≡ members b.opening → common_commanded c rows nobody ≡ common_after b.opening (reverse b.entries) (Call.Admin c)
    → IsMarked (next_number b) (tickets_out b) mark
    → IsJudgedCommand n rows nobody c mark (Err e) → IsCommanded b c (Err e)
refused b c mark common Admin.UnknownMember n rows whole same marks judged = subst (λ (k : ℕ). ¬ IsKnown k c) whole judged
refused b c mark common Admin.BadValue n rows whole same marks judged = (subst (λ (k : ℕ). IsKnown k c) whole judged.0, judged.1)
refused b c mark common (Admin.TooWide wide) n rows whole same marks judged = (
  subst (λ (k : ℕ). IsKnown k c) whole judged.0,
  judged.1,
  omega (arith, same, judged.2),
  subst (λ (m : FullMark). IsMarked (next_number b) (tickets_out b) m) (sym judged.3) marks,
)
refused b c mark common (Admin.Full full) n rows whole same marks judged = absurd judged
refused b c mark common Admin.NoMemory n rows whole same marks judged = absurd judged

module _ (v : ℕ) (o : Opening) (h : List Entry) (now : Present) (kept early : List (Option ℕ)) (added cap cap' : ℕ)
    (is : IsKept v o h now kept early added cap cap') (c : Command) (seq : ℕ) (number : seq ≡ o.next + length h)
    (rows : List Standing) (same : rows ≡ now.rows.items) where
  abbrev pub mark_now : FullMark
  mark_now = record { next = seq; out = now.out }

  marked_now : IsMarked (next_number (journal_of v o h added)) (tickets_out (journal_of v o h added)) mark_now
  marked_now = (number ∙ next_is o h, is.present.tickets)

  -- It may be done, and L is then what the rows say.
  pub judged_doable : (common : ℕ) → ((d : Standing) → IsJudgedCommand (length rows) rows d c mark_now (Ok common)) → IsDoable o (reverse h) c
  judged_doable common judged =
      let here : IsJudgedCommand (length now.rows.items) now.rows.items nobody c mark_now (Ok common) =
      subst (λ (xs : List Standing). IsJudgedCommand (length xs) xs nobody c mark_now (Ok common)) same (judged nobody) in
      let known : IsKnown (members o) c = subst (λ (k : ℕ). IsKnown k c) is.present.whole here.0 in
      record {
        member = known.0;
        target = known.1;
        values = here.1;
        narrow = omega (arith, common-now v o (reverse h) now c is.present, here.2);
      }

  pub judged_common : (common : ℕ) → ((d : Standing) → IsJudgedCommand (length rows) rows d c mark_now (Ok common))
      → common ≡ common_after o (reverse h) (Call.Admin c)
  judged_common common judged =
      let here : IsJudgedCommand (length now.rows.items) now.rows.items nobody c mark_now (Ok common) =
      subst (λ (xs : List Standing). IsJudgedCommand (length xs) xs nobody c mark_now (Ok common)) same (judged nobody) in
      here.3 ∙ common-now v o (reverse h) now c is.present

  pub judged_refused : (e : AdminError FullMark) → ((d : Standing) → IsJudgedCommand (length rows) rows d c mark_now (Err e))
      → IsCommanded (journal_of v o h added) c (Err e)
  judged_refused e judged =
      let here : IsJudgedCommand (length now.rows.items) now.rows.items nobody c mark_now (Err e) =
      subst (λ (xs : List Standing). IsJudgedCommand (length xs) xs nobody c mark_now (Err e)) same (judged nobody) in
      refused (journal_of v o h added) c mark_now 0 e (length now.rows.items) now.rows.items is.present.whole
      (common-now v o (reverse h) now c is.present) marked_now here

  -- There is no number left, or there is one.
  pub judged_full : (common : ℕ) → ((d : Standing) → IsJudgedCommand (length rows) rows d c mark_now (Ok common))
      → 2 ^ 48 < seq + now.out + 1 → IsCommanded (journal_of v o h added) c (Err (Admin.Full mark_now))
  judged_full common judged full =
      (judged_doable common judged, omega (arith, number, next_is o h, is.present.tickets, full), marked_now)

  pub judged_room : (common : ℕ) → ((d : Standing) → IsJudgedCommand (length rows) rows d c mark_now (Ok common))
      → seq + now.out + 1 ≤ 2 ^ 48 → IsCommanded (journal_of v o h added) c (Err Admin.NoMemory)
  judged_room common judged room =
      (judged_doable common judged, omega (arith, number, next_is o h, is.present.tickets, room))
