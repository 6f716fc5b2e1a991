-- Where each ticket came back, after an entry.
use Rattle.std.proofs.Common.{◌≡◌, ℕ, ◌+◌, ◌<◌, false, ◌&&◌, List, [], ◌∷◌, ◌++◌, length, Option, Some, None, get_or, refl, sym, ◌∙◌, ap, subst, inl, inr, arith}
use Rattle.std.specs.Prelude.{◌==◌, slice_get}
use Rattle.std.specs.List.{list_any}
use Rattle.std.proofs.lemmas.Bool.{cases_eq, cases_lt, eq-eqb, ne_eqb, or_right, or_left, or_from}
use Rattle.std.proofs.Math.ListN.{set}
use Rattle.std.proofs.lemmas.List.{length-set, get_or-set_same, get_or-set_other}
use Rattle.std.proofs.lemmas.List.{length_push, get_or_push, get_or_append_left}
use Rattle.std.proofs.lemmas.Option.{slice_get_within, get_or_from_slice_get}
use Rattle.lb_model.specs.Journal.{next_of}
use Rattle.lb_model.specs.Tickets.{gives_back, is_returned}
use Rattle.lb_model.specs.Legal.{IsLegalPast}
use Rattle.lb_model.specs.Validity.{IsOpening}
use Rattle.lb_model.proofs.OutFacts.{legal_opening, next_not_returned}
use Rattle.lb_model.specs.declared.journal.Outcome.{Outcome}
use Rattle.lb_model.specs.declared.journal.Entry.{Entry}
use Rattle.lb_model.specs.declared.opening.Opening.{Opening}
use Rattle.lb_rules.specs.declared.tickets.Spot.{Spot}
use Rattle.lb_rules.specs.Returns.{AreReturns, IsReturnedAt}
use Rattle.lb_rules.specs.Spots.{IsSpot, IsPlaced, kept_noted, early_noted}
use Rattle.lb_rules.proofs.SpotLaws.{opening_rising, opening_below}
use Rattle.lb_book.proofs.StepLaws.{return_entry}

-- A ticket that the entry doesn't return.
returned-kept : (p : List Entry) (e : Entry) (t : ℕ) (x : Option ℕ) → IsReturnedAt p t x → gives_back t e.call ≡ false
    → IsReturnedAt (e ∷ p) t x
returned-kept p e t None is other = or_from (gives_back t e.call) (is_returned t p) other is
returned-kept p e t (Some n) is other =
    or_right (e.seq == n && gives_back t e.call) (list_any (λ (x : Entry). x.seq == n && gives_back t x.call) p) is

pushed-below : (xs : List (Option ℕ)) (k : ℕ) → k < length xs → get_or (xs ++ None ∷ []) k None ≡ get_or xs k None
pushed-below xs k lt = get_or_append_left xs (None ∷ []) None k lt

-- An entry that returns no ticket: its own place is empty.
pub returns-pushed : (v : ℕ) (o : Opening) (p : List Entry) (e : Entry) (kept early : List (Option ℕ)) → IsLegalPast v o p
    → AreReturns o p kept early → ((t : ℕ) → gives_back t e.call ≡ false) → AreReturns o (e ∷ p) (kept ++ None ∷ []) early
returns-pushed v o p e kept early legal are none_back = record {
  whole = omega (arith, are.whole, length_push kept None);
  own = λ k lt.
      elim (cases_eq k (length p)) [
        | inl last ↦
            let empty : get_or (kept ++ None ∷ []) k None ≡ None = get_or_push kept None None k (omega (arith, are.whole, last)) in
            let never : is_returned (o.next + k) p ≡ false =
            ap (λ (j : ℕ). is_returned (o.next + j) p) last ∙ next_not_returned v o p legal in
            subst (λ (x : Option ℕ). IsReturnedAt (e ∷ p) (o.next + k) x) (sym empty)
            (returned-kept p e (o.next + k) None never (none_back (o.next + k)))
        | inr other ↦
            let within : k < length kept = omega (arith, are.whole, lt, other) in
            subst (λ (x : Option ℕ). IsReturnedAt (e ∷ p) (o.next + k) x) (sym (pushed-below kept k within))
            (returned-kept p e (o.next + k) (get_or kept k None) (are.own k (omega (arith, lt, other))) (none_back (o.next + k)))
      ];
  early_whole = are.early_whole;
  older = λ i x is. returned-kept p e x.0 (get_or early i None) (are.older i x is) (none_back x.0);
}

-- The ticket that the entry returns.
returned-now : (p : List Entry) (seq session at t u : ℕ) (outcome : Outcome) → u ≡ t
    → IsReturnedAt (return_entry seq session at t outcome ∷ p) u (Some seq)
returned-now p seq session at t u outcome same =
    or_left (seq == seq && u == t) (list_any (λ (x : Entry). x.seq == seq && gives_back u x.call) p)
    (rw (eq-eqb seq seq refl, eq-eqb u t same) refl)

-- The tables before the push of the entry's own place.
record AreNoted (o : Opening) (p : List Entry) (e : Entry) (kept early : List (Option ℕ)) : Type 0 where
  whole : length kept ≡ length p
  own : (k : ℕ) → k < length p → IsReturnedAt (e ∷ p) (o.next + k) (get_or kept k None)
  early_whole : length early ≡ length o.out
  older : (i : ℕ) (x : ℕ × ℕ) → slice_get o.out i ≡ Some x → IsReturnedAt (e ∷ p) x.0 (get_or early i None)

noted-own : (o : Opening) (p : List Entry) (kept early : List (Option ℕ)) (place seq session at t : ℕ) (outcome : Outcome)
    → IsOpening o → AreReturns o p kept early → place < length kept → t ≡ o.next + place
    → AreNoted o p (return_entry seq session at t outcome) (set kept place (Some seq)) early
noted-own o p kept early place seq session at t outcome valid are placed number = record {
  whole = length-set kept place (Some seq) ∙ are.whole;
  own = λ k lt.
      elim (cases_eq k place) [
        | inl same ↦
            let noted : get_or (set kept place (Some seq)) k None ≡ Some seq =
            ap (λ (j : ℕ). get_or (set kept place (Some seq)) j None) same ∙ get_or-set_same kept place (Some seq) None placed in
            subst (λ (x : Option ℕ). IsReturnedAt (return_entry seq session at t outcome ∷ p) (o.next + k) x) (sym noted)
            (returned-now p seq session at t (o.next + k) outcome (omega arith))
        | inr other ↦
            subst (λ (x : Option ℕ). IsReturnedAt (return_entry seq session at t outcome ∷ p) (o.next + k) x)
            (sym (get_or-set_other kept place k (Some seq) None other))
            (returned-kept p (return_entry seq session at t outcome) (o.next + k) (get_or kept k None) (are.own k lt)
            (ne_eqb (o.next + k) t (λ same. other (omega arith))))
      ];
  early_whole = are.early_whole;
  older = λ i x is.
      let within : i < length o.out = slice_get_within o.out i x is in
      let below : (get_or o.out i x).0 < o.next = opening_below o valid i x within in
      let x_below : x.0 < o.next = subst (λ (y : ℕ × ℕ). y.0 < o.next) (get_or_from_slice_get o.out i x x is) below in
      returned-kept p (return_entry seq session at t outcome) x.0 (get_or early i None) (are.older i x is)
      (ne_eqb x.0 t (λ same. absurd (omega arith)));
}

noted-older : (o : Opening) (p : List Entry) (kept early : List (Option ℕ)) (place m seq session at t : ℕ) (outcome : Outcome)
    → IsOpening o → AreReturns o p kept early → slice_get o.out place ≡ Some (t, m)
    → AreNoted o p (return_entry seq session at t outcome) kept (set early place (Some seq))
noted-older o p kept early place m seq session at t outcome valid are found =
    let inside : place < length o.out = slice_get_within o.out place (t, m) found in
    let here : get_or o.out place (t, m) ≡ (t, m) = get_or_from_slice_get o.out place (t, m) (t, m) found in
    let below : t < o.next = subst (λ (y : ℕ × ℕ). y.0 < o.next) here (opening_below o valid place (t, m) inside) in
    record {
      whole = are.whole;
      own = λ k lt.
          returned-kept p (return_entry seq session at t outcome) (o.next + k) (get_or kept k None) (are.own k lt)
          (ne_eqb (o.next + k) t (λ same. absurd (omega arith)));
      early_whole = length-set early place (Some seq) ∙ are.early_whole;
      older = λ i x is.
          elim (cases_eq i place) [
            | inl same ↦
                let noted : get_or (set early place (Some seq)) i None ≡ Some seq =
                ap (λ (j : ℕ). get_or (set early place (Some seq)) j None) same
                ∙ get_or-set_same early place (Some seq) None (omega (arith, are.early_whole, inside)) in
                let at_place : slice_get o.out place ≡ Some x = ap (λ (j : ℕ). slice_get o.out j) (sym same) ∙ is in
                let equal : x ≡ (t, m) = sym (get_or_from_slice_get o.out place x (t, m) at_place) ∙ here in
                subst (λ (y : Option ℕ). IsReturnedAt (return_entry seq session at t outcome ∷ p) x.0 y) (sym noted)
                (returned-now p seq session at t x.0 outcome (ap (λ (y : ℕ × ℕ). y.0) equal))
            | inr other ↦
                let within : i < length o.out = slice_get_within o.out i x is in
                let x_here : get_or o.out i (t, m) ≡ x = get_or_from_slice_get o.out i x (t, m) is in
                let differ : x.0 ≡ t → ⊥ = λ same.
                elim (cases_lt i place) [
                  | inl less ↦
                      let rises : (get_or o.out i (t, m)).0 < (get_or o.out place (t, m)).0 =
                      opening_rising o valid i place (t, m) less inside in
                      let x_less : x.0 < t = subst (λ (y : ℕ × ℕ). y.0 < t) x_here (subst (λ (y : ℕ × ℕ). (get_or o.out i (t, m)).0 < y.0) here rises) in
                      absurd (omega arith)
                  | inr more ↦
                      let rises : (get_or o.out place (t, m)).0 < (get_or o.out i (t, m)).0 =
                      opening_rising o valid place i (t, m) (omega (arith, other, more)) within in
                      let x_more : t < x.0 = subst (λ (y : ℕ × ℕ). t < y.0) x_here (subst (λ (y : ℕ × ℕ). y.0 < (get_or o.out i (t, m)).0) here rises) in
                      absurd (omega arith)
                ] in
                subst (λ (y : Option ℕ). IsReturnedAt (return_entry seq session at t outcome ∷ p) x.0 y)
                (sym (get_or-set_other early place i (Some seq) None other))
                (returned-kept p (return_entry seq session at t outcome) x.0 (get_or early i None) (are.older i x is) (ne_eqb x.0 t differ))
          ];
    }

noted-pushed : (v : ℕ) (o : Opening) (p : List Entry) (e : Entry) (kept early : List (Option ℕ)) → IsLegalPast v o p
    → gives_back (next_of o p) e.call ≡ false → AreNoted o p e kept early → AreReturns o (e ∷ p) (kept ++ None ∷ []) early
noted-pushed v o p e kept early legal not_own are = record {
  whole = omega (arith, are.whole, length_push kept None);
  own = λ k lt.
      elim (cases_eq k (length p)) [
        | inl last ↦
            let empty : get_or (kept ++ None ∷ []) k None ≡ None = get_or_push kept None None k (omega (arith, are.whole, last)) in
            subst (λ (x : Option ℕ). IsReturnedAt (e ∷ p) (o.next + k) x) (sym empty)
            (ap (λ (j : ℕ). is_returned (o.next + j) (e ∷ p)) last
            ∙ or_from (gives_back (next_of o p) e.call) (is_returned (next_of o p) p) not_own (next_not_returned v o p legal))
        | inr other ↦
            subst (λ (x : Option ℕ). IsReturnedAt (e ∷ p) (o.next + k) x)
            (sym (pushed-below kept k (omega (arith, are.whole, lt, other)))) (are.own k (omega (arith, lt, other)))
      ];
  early_whole = are.early_whole;
  older = are.older;
}

-- After the Return of the ticket of a spot.
pub returns-noted : (v : ℕ) (o : Opening) (p h : List Entry) (kept early : List (Option ℕ)) (spot : Spot) (m seq session at t : ℕ) (outcome : Outcome)
    → IsLegalPast v o p → AreReturns o p kept early → IsSpot o h t m spot → IsPlaced spot kept early → t < next_of o p
    → AreReturns o (return_entry seq session at t outcome ∷ p) (kept_noted spot seq kept ++ None ∷ []) (early_noted spot seq early)
returns-noted v o p h kept early (Spot.Entry place) m seq session at t outcome legal are is placed below =
    noted-pushed v o p (return_entry seq session at t outcome) (set kept place (Some seq)) early legal
    (ne_eqb (next_of o p) t (λ same. absurd (omega arith)))
    (noted-own o p kept early place seq session at t outcome (legal_opening v o p legal) are placed is.1)
returns-noted v o p h kept early (Spot.Opening place) m seq session at t outcome legal are is placed below =
    noted-pushed v o p (return_entry seq session at t outcome) kept (set early place (Some seq)) legal
    (ne_eqb (next_of o p) t (λ same. absurd (omega arith)))
    (noted-older o p kept early place m seq session at t outcome (legal_opening v o p legal) are is)
