-- A seat after a hold of the Site's lock, with all that it has then seen.
use Rattle.std.proofs.Common.{◌≡◌, ℕ, ◌-◌, Bool, true, false, List, [], ◌∷◌, ◌++◌, length, Option, Some, None, sym, ap, ◌∙◌, subst, append-nil}
use Rattle.std.specs.Prelude.{IfSome, is_some}
use Rattle.atomic_table.specs.Seated.{TableId}
use Rattle.atomic_table.specs.Table.{Me, rest}
use Rattle.lb_model.specs.declared.journal.Entry.{Entry}
use Rattle.lb_model.specs.declared.opening.Opening.{Opening}
use Rattle.lb_model.specs.declared.segment.Segment.{Segment}
use Rattle.lb_book.specs.declared.receipt.Receipt.{Receipt}
use Rattle.lb_shared.specs.Seats.{IsClaim, IsToldLast, Took, by_seat, caught_up, seated}
use Rattle.lb_shared.specs.declared.view.Claim.{Claim}
use Rattle.lb_shared.specs.declared.view.View.{View}
use Rattle.lb_shared.specs.Histories.{DeskSees, IsMadeBy, IsResting, IsSegmentAfter, MayCut, SeatSees, Step, added_steps, all_cuts, cut_mark, cuts_from, gained_in, last_in, log_in, number_of, own_cuts, seat_note, seen_of, steps_of}
use Rattle.lb_shared.specs.Holds.{IsToldBy, LockedState, last_steps, with_cut}
use Rattle.lb_shared.proofs.JournalLaws.{Grew}
use Rattle.lb_shared.proofs.StepLaws.{count-hold, cuts-append, cuts-foreign, cuts-hold, cuts-mark, hold_steps, log-append, log-foreign, log-hold}
use mathlib.Core.Option.{some}
use lib.ListN.{get_elem?}

-- The value of the first slot in hand.
abbrev slot_in : {A : Type 0} → List (ℕ × A) → A → A
slot_in [] d = d
slot_in (x ∷ xs) d = x.1

abbrev some_in : {A : Type 0} → Option A → A → A
some_in None d = d
some_in (Some x) d = x

abbrev pub Seat : Type 0
Seat = Me (Option LockedState) (View Step)

-- The cuts that a hold by this desk added to those that it has seen.
pub cuts_more : (n lb : ℕ) (first later : List (ℕ × Step)) (cut : Bool) (es : List (ℕ × Entry)) → cuts_from n first later ≡ []
    → own_cuts n ((first ++ later) ++ by_seat n (hold_steps lb cut es)) ≡ own_cuts n first ++ cuts_from n (first ++ later) (by_seat n (cut_mark lb cut))
cuts_more n lb first later cut es others =
    cuts-append n [] (first ++ later) (by_seat n (hold_steps lb cut es))
    ∙ ap (λ (l : List (ℕ × List (ℕ × Step))). l ++ cuts_from n (first ++ later) (by_seat n (hold_steps lb cut es)))
    (cuts-append n [] first later ∙ ap (λ (l : List (ℕ × List (ℕ × Step))). own_cuts n first ++ l) others ∙ append-nil (own_cuts n first))
    ∙ ap (λ (l : List (ℕ × List (ℕ × Step))). own_cuts n first ++ l) (cuts-hold n lb (first ++ later) cut es)

module _ (starts : List Opening) where
  abbrev Tells : List (ℕ × Step) → LockedState → Type 0
  Tells steps x = IsToldBy starts steps x

  module _ (me me1 : Seat) (rests : IsResting me) (took : Took Tells me.0 me.1 me1) (found : Option LockedState) (there : me1.1 ≡ (0, found) ∷ rest me1.1)
      (told : LockedState) (is_told : found ≡ Some told) where
    value_is : took.value ≡ told
    value_is =
        let same : Some took.value ≡ found = ap (λ (xs : List (ℕ × Option LockedState)). slot_in xs (Some took.value)) (ap (λ (m : Seat). m.1) (sym took.after_is) ∙ there) in
        ap (λ (x : Option LockedState). some_in x took.value) (same ∙ is_told)

    found_told : IsToldBy starts took.log told
    found_told = subst (λ (x : LockedState). IsToldBy starts took.log x) value_is took.told

    pub found_made : IsMadeBy starts took.log told.books
    found_made = found_told.0

    module _ (new : LockedState) (rs rs' : List Receipt) (lb : ℕ) (cut : Option (ℕ × Segment))
        (tells : (new.lb ≡ lb) × (new.count ≡ length rs' - length rs) × (new.cut ≡ is_some cut) × (new.cuts ≡ with_cut (is_some cut) told.cuts))
        (grows : (n : ℕ) (steps : List (ℕ × Step)) → IsMadeBy starts steps told.books → Grew starts n steps rs rs' lb cut new.books) where
      grew : Grew starts (number_of me.0) took.log rs rs' lb cut new.books
      grew = grows (number_of me.0) took.log found_made

      news_is : last_steps new ≡ hold_steps lb (is_some cut) (gained_in rs rs')
      news_is =
          ap (λ (k : ℕ). cut_mark k new.cut ++ added_steps (last_in new.books k new.count)) tells.0
          ∙ ap (λ (k : ℕ). cut_mark lb new.cut ++ added_steps (last_in new.books lb k)) tells.1
          ∙ ap (λ (b : Bool). cut_mark lb b ++ added_steps (last_in new.books lb (length rs' - length rs))) tells.2
          ∙ ap (λ (es : List (ℕ × Entry)). cut_mark lb (is_some cut) ++ added_steps es) grew.last

      grown : IsMadeBy starts (took.log ++ by_seat (number_of me.0) (last_steps new)) new.books
      grown = subst (λ (l : List Step). IsMadeBy starts (took.log ++ by_seat (number_of me.0) l) new.books) (sym news_is) grew.made

      counted : new.cuts ≡ length (all_cuts (took.log ++ by_seat (number_of me.0) (last_steps new)))
      counted =
          tells.3
          ∙ ap (λ (k : ℕ). with_cut (is_some cut) k) found_told.1
          ∙ sym (count-hold (number_of me.0) lb took.log (is_some cut) (gained_in rs rs'))
          ∙ ap (λ (l : List Step). length (all_cuts (took.log ++ by_seat (number_of me.0) l))) (sym news_is)

      abbrev written : Seat
      written = (me1.0, (0, Some new) ∷ rest me1.1)

      written_is : ◌≡◌ {A = Seat} written (seated true (number_of me.0) took.log, (0, Some new) ∷ [])
      written_is =
          ap (λ (m : Seat). (m.0, (0, Some new) ∷ rest m.1)) took.after_is
          ∙ ap (λ (m : Seat). (record { holds = true; claims = caught_up took.log m.0.claims }, (0, Some new) ∷ m.1)) rests

      pub told_last : IsToldLast Tells last_steps written
      told_last = record { number = number_of me.0; seen = took.log; value = new; is = written_is; told = (grown, counted) }

      module _ (me2 : Seat) (left : (number : ℕ) (seen : List (ℕ × Step)) (y : LockedState) → ◌≡◌ {A = Seat} written (seated true number seen, (0, Some y) ∷ [])
          → ◌≡◌ {A = Seat} me2 (seated false number (seen ++ by_seat number (last_steps y)), [])) where
        left_is : ◌≡◌ {A = Seat} me2 (seated false (number_of me.0) (took.log ++ by_seat (number_of me.0) (last_steps new)), [])
        left_is = left (number_of me.0) took.log new written_is

        abbrev claim : Claim Step
        claim = record { number = number_of me.0; seen = steps_of me.0 }

        is_claim : IsClaim took.log claim
        is_claim =
            let mine : get_elem? me.0.claims 0 ≡ some claim = ap (λ (m : Seat). get_elem? m.0.claims 0) rests in
            took.claims 0 claim mine

        steps_are : steps_of me2.0 ≡ (steps_of me.0 ++ is_claim.later) ++ by_seat (number_of me.0) (hold_steps lb (is_some cut) (gained_in rs rs'))
        steps_are =
            ap (λ (m : Seat). steps_of m.0) left_is
            ∙ ap (λ (l : List Step). took.log ++ by_seat (number_of me.0) l) news_is
            ∙ ap (λ (l : List (ℕ × Step)). l ++ by_seat (number_of me.0) (hold_steps lb (is_some cut) (gained_in rs rs'))) is_claim.whole

        seen_is : seen_of me2.0 ≡ (seen_of me.0 ++ log_in is_claim.later) ++ by_seat (number_of me.0) (gained_in rs rs')
        seen_is =
            ap (λ (l : List (ℕ × Step)). log_in l) steps_are
            ∙ log-append (steps_of me.0 ++ is_claim.later) (by_seat (number_of me.0) (hold_steps lb (is_some cut) (gained_in rs rs')))
            ∙ ap (λ (l : List (ℕ × (ℕ × Entry))). l ++ log_in (by_seat (number_of me.0) (hold_steps lb (is_some cut) (gained_in rs rs')))) (log-append (steps_of me.0) is_claim.later)
            ∙ ap (λ (l : List (ℕ × (ℕ × Entry))). (seen_of me.0 ++ log_in is_claim.later) ++ l) (log-hold (number_of me.0) lb (is_some cut) (gained_in rs rs'))

        -- The history that was seen last.
        pub seen_last : IsMadeBy starts (steps_of me2.0) new.books
        seen_last = subst (λ (l : List (ℕ × Step)). IsMadeBy starts l new.books) (sym (ap (λ (m : Seat). steps_of m.0) left_is)) grown

        pub seat_sees : SeatSees starts me me2 (gained_in rs rs')
        seat_sees = record {
          rests = left_is ∙ sym (ap (λ (m : Seat). (seated false (number_of m.0) (steps_of m.0), [])) left_is);
          number = ap (λ (m : Seat). number_of m.0) left_is;
          sees = record {
            others = log_in is_claim.later;
            foreign = log-foreign (number_of me.0) is_claim.later is_claim.others;
            is = seen_is;
            books = new.books;
            history = seen_last.history;
          };
        }

        cuts_are : own_cuts (number_of me2.0) (steps_of me2.0)
            ≡ own_cuts (number_of me.0) (steps_of me.0) ++ cuts_from (number_of me.0) took.log (by_seat (number_of me.0) (cut_mark lb (is_some cut)))
        cuts_are =
            ap (λ (n : ℕ). own_cuts n (steps_of me2.0)) (ap (λ (m : Seat). number_of m.0) left_is)
            ∙ ap (λ (l : List (ℕ × Step)). own_cuts (number_of me.0) l) steps_are
            ∙ cuts_more (number_of me.0) lb (steps_of me.0) is_claim.later (is_some cut) (gained_in rs rs')
            (cuts-foreign (number_of me.0) (steps_of me.0) is_claim.later is_claim.others)
            ∙ ap (λ (l : List (ℕ × Step)). own_cuts (number_of me.0) (steps_of me.0) ++ cuts_from (number_of me.0) l (by_seat (number_of me.0) (cut_mark lb (is_some cut)))) (sym is_claim.whole)

        pub seat_cuts : (lock lock' : TableId) → MayCut (seat_note starts lock me) (seat_note starts lock' me2) cut
        seat_cuts lock lock' = may_cut cut grew.segment cuts_are
          where
            may_cut : (c : Option (ℕ × Segment)) → IfSome c (λ s. (s.0 ≡ lb) × IsSegmentAfter starts took.log s)
                → own_cuts (number_of me2.0) (steps_of me2.0)
                ≡ own_cuts (number_of me.0) (steps_of me.0) ++ cuts_from (number_of me.0) took.log (by_seat (number_of me.0) (cut_mark lb (is_some c)))
                → MayCut (seat_note starts lock me) (seat_note starts lock' me2) c
            may_cut None segment are = are ∙ append-nil (own_cuts (number_of me.0) (steps_of me.0))
            may_cut (Some s) segment are = record {
              before = took.log;
              told = are
                  ∙ ap (λ (l : List (ℕ × List (ℕ × Step))). own_cuts (number_of me.0) (steps_of me.0) ++ l)
                  (cuts-mark (number_of me.0) lb took.log ∙ ap (λ (k : ℕ). (k, took.log) ∷ []) (sym segment.0));
              is = segment.1;
            }

pub desk_sees : (starts begun begun' : List Opening) (lock lock' : TableId) (old new : Seat) (gained : List (ℕ × Entry)) → lock' ≡ lock
    → SeatSees starts old new gained → DeskSees starts (seat_note begun lock old) (seat_note begun' lock' new) gained
desk_sees starts begun begun' lock lock' old new gained same sees = record { lock = same; number = sees.number; sees = sees.sees }
