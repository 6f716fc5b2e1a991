-- How many entries and cuts a seat has seen as its own, after one hold more.
use Rattle.std.proofs.Common.{◌≡◌, ℕ, ◌+◌, List, [], ◌∷◌, ◌++◌, length, drop, Option, Some, None, ap, sym, ◌∙◌, arith}
use Rattle.std.specs.Prelude.{OnErr, OnOk, Result, Ok, Err, is_some}
use Rattle.std.proofs.lemmas.List.{length-append, length-drop, length-map}
use Rattle.atomic_table.specs.Seated.{TableId}
use Rattle.atomic_table.specs.Table.{Me}
use Rattle.lb_model.specs.declared.journal.Entry.{Entry}
use Rattle.lb_model.specs.declared.opening.Opening.{Opening}
use Rattle.lb_model.specs.declared.segment.Segment.{Segment}
use Rattle.lb_book.specs.declared.receipt.Receipt.{Receipt}
use Rattle.lb_shared.specs.declared.view.View.{View}
use Rattle.lb_shared.specs.Histories.{MayCut, SeatNote, SeatSees, Step, cut_count, cuts_seen, gained_in, number_of, own_count, own_in, seat_note, seen_of}
use Rattle.lb_shared.specs.Holds.{with_cut}
use Rattle.lb_shared.proofs.GoneLaws.{Adds}
use Rattle.lb_shared.proofs.LeftLaws.{drop_front, own_sees}

-- The receipts that were added, where they were added to.
gained_count : (rs rs' more : List Receipt) → rs' ≡ rs ++ more → length rs' ≡ length rs + length (gained_in rs rs')
gained_count rs rs' more grown =
    let gained : gained_in rs rs' ≡ gained_in rs (rs ++ more) = ap (λ (xs : List Receipt). gained_in rs xs) grown in
    omega (
      arith,
      ap (λ (xs : List Receipt). length xs) grown,
      length-append rs more,
      ap (λ (es : List (ℕ × Entry)). length es) gained,
      length-map {B = ℕ × Entry} (drop (length rs) (rs ++ more)) (λ (r : Receipt). (r.lb, r.entry)),
      ap (λ (xs : List Receipt). length xs) (drop_front rs more),
    )

-- The seat has seen as its own as many as there are, where it has seen what the desk was told.
pub count_sees : {S : Type 0} (starts : List Opening) (lock lock' : TableId) (old new : Me (Option S) (View Step)) (rs rs' : List Receipt) (a a' f : ℕ)
    → SeatSees starts old new (gained_in rs rs') → Adds rs rs' → a ≡ length rs + f → a' ≡ length rs' + f
    → own_count (seat_note starts lock old) ≡ a → own_count (seat_note starts lock' new) ≡ a'
count_sees starts lock lock' old new rs rs' a a' f sees adds was is counted =
    let own : own_in (number_of new.0) (seen_of new.0) ≡ own_in (number_of old.0) (seen_of old.0) ++ gained_in rs rs' =
    ap (λ (n : ℕ). own_in n (seen_of new.0)) sees.number ∙ own_sees starts (number_of old.0) (seen_of old.0) (seen_of new.0) (gained_in rs rs') sees.sees in
    omega (
      arith,
      ap (λ (es : List (ℕ × Entry)). length es) own,
      length-append (own_in (number_of old.0) (seen_of old.0)) (gained_in rs rs'),
      gained_count rs rs' adds.0 adds.1,
      was,
      is,
      counted,
    )

-- A look.
pub count_looked : {S : Type 0} (starts : List Opening) (lock lock' : TableId) (old new : Me (Option S) (View Step)) (a a' : ℕ)
    → SeatSees starts old new [] → a' ≡ a → own_count (seat_note starts lock old) ≡ a → own_count (seat_note starts lock' new) ≡ a'
count_looked starts lock lock' old new a a' sees same counted =
    let own : own_in (number_of new.0) (seen_of new.0) ≡ own_in (number_of old.0) (seen_of old.0) ++ [] =
    ap (λ (n : ℕ). own_in n (seen_of new.0)) sees.number ∙ own_sees starts (number_of old.0) (seen_of old.0) (seen_of new.0) [] sees.sees in
    omega (arith, ap (λ (es : List (ℕ × Entry)). length es) own, length-append (own_in (number_of old.0) (seen_of old.0)) [], same, counted)

-- One receipt more, or none, by the length of the list and the share's amount.
pub count_back : {S : Type 0} (starts : List Opening) (lock lock' : TableId) (old new : Me (Option S) (View Step)) (rs rs' : List Receipt) (a a' k : ℕ)
    → SeatSees starts old new (gained_in rs rs') → length rs' ≡ length rs + k → a' ≡ a + k
    → own_count (seat_note starts lock old) ≡ a → own_count (seat_note starts lock' new) ≡ a'
count_back starts lock lock' old new rs rs' a a' k sees longer more counted =
    let own : own_in (number_of new.0) (seen_of new.0) ≡ own_in (number_of old.0) (seen_of old.0) ++ gained_in rs rs' =
    ap (λ (n : ℕ). own_in n (seen_of new.0)) sees.number ∙ own_sees starts (number_of old.0) (seen_of old.0) (seen_of new.0) (gained_in rs rs') sees.sees in
    omega (
      arith,
      ap (λ (es : List (ℕ × Entry)). length es) own,
      length-append (own_in (number_of old.0) (seen_of old.0)) (gained_in rs rs'),
      length-map {B = ℕ × Entry} (drop (length rs) rs') (λ (r : Receipt). (r.lb, r.entry)),
      length-drop (length rs) rs',
      longer,
      more,
      counted,
    )

-- By what the hold answered.
pub count_returned : {S E : Type 0} (starts : List Opening) (lock lock' : TableId) (old new : Me (Option S) (View Step)) (rs rs' : List Receipt) (a a' : ℕ) (r : Result (Unit {0}) E)
    → SeatSees starts old new (gained_in rs rs') → OnOk r (length rs' ≡ length rs + 1) → OnOk r (a' ≡ a + 1) → OnErr r ((rs' ≡ rs) × (a' ≡ a))
    → own_count (seat_note starts lock old) ≡ a → own_count (seat_note starts lock' new) ≡ a'
count_returned starts lock lock' old new rs rs' a a' (Ok x) sees one more none counted = count_back starts lock lock' old new rs rs' a a' 1 sees one more counted
count_returned starts lock lock' old new rs rs' a a' (Err e) sees one more none counted =
    count_back starts lock lock' old new rs rs' a a' 0 sees (omega (arith, ap (λ (xs : List Receipt). length xs) none.0)) (omega (arith, none.1)) counted

-- The cuts, by what the hold cut.
pub count_cuts : (old new : SeatNote) (cut : Option (ℕ × Segment)) (a a' : ℕ) → MayCut old new cut → a' ≡ with_cut (is_some cut) a → cut_count old ≡ a → cut_count new ≡ a'
count_cuts old new None a a' same is was = ap (λ (l : List (ℕ × List (ℕ × Step))). length l) same ∙ was ∙ sym is
count_cuts old new (Some s) a a' cuts is was =
    omega (
      arith,
      ap (λ (l : List (ℕ × List (ℕ × Step))). length l) cuts.told,
      length-append (cuts_seen old) ((s.0, cuts.before) ∷ []),
      is,
      was,
    )
