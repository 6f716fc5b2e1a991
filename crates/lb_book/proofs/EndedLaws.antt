-- The steps that make the opening at a journal's end.
use Rattle.std.proofs.Common.{◌≡◌, ℕ, zero, suc, ◌+◌, ◌-◌, ◌^◌, ◌<◌, Bool, true, not, List, [], ◌∷◌, ◌++◌, length, reverse, take, get_or, Option, Some, None, refl, sym, subst, ap, ◌∙◌, inl, inr, arith, append_assoc}
use Rattle.std.specs.Prelude.{slice_get}
use Rattle.std.specs.List.{cons_option, filter, filter_map}
use Rattle.std.proofs.lemmas.List.{get_or_default, get_or-reverse, length-map, length-reverse, take_all, take_more}
use Rattle.std.proofs.lemmas.List.Elements.{filter-append, filter_map-append}
use Rattle.std.proofs.lemmas.Option.{slice_get_cases, slice_get_within, slice_get-get_or, get_or_from_slice_get}
use Rattle.lb_model.specs.Journal.{each}
use Rattle.lb_model.specs.Legal.{IsLegal, IsLegalPast}
use Rattle.lb_model.specs.Multiple.{multiple_of}
use Rattle.lb_model.specs.Ranges.{AreInRange, IsInRange, factors_in}
use Rattle.lb_model.specs.Settings.{setting_in}
use Rattle.lb_model.specs.Tickets.{Ticket, is_returned, ticket_in}
use Rattle.lb_model.proofs.ListFacts.{each-slice_get}
use Rattle.lb_model.specs.declared.journal.Answer.{Answer}
use Rattle.lb_model.specs.declared.journal.Entry.{Entry}
use Rattle.lb_model.specs.declared.member.MemberConfig.{MemberConfig}
use Rattle.lb_model.specs.declared.opening.Opening.{Opening}
use Rattle.lb_rules.specs.declared.standing.Standing.{Standing}
use Rattle.lb_book.specs.Ending.{AreEarly, AreOwn, AreSettled, ending_member, still_out}
use Rattle.lb_rules.specs.Returns.{AreReturns, IsReturnedAt}
use Rattle.lb_rules.proofs.TableLaws.{any-returned}
use Rattle.lb_book.proofs.CallLaws.{each-agree}
use Rattle.lb_book.proofs.ChoiceLaws.{nobody}

-- One ticket, if it didn't come back.
out-one : (p : List Entry) (x : Ticket) (r : Option ℕ) → IsReturnedAt p x.0 r
    → filter (λ (y : Ticket). not (is_returned y.0 p)) (x ∷ []) ≡ still_out r (Some x)
out-one p x None is = rw is refl
out-one p x (Some n) is = let back : is_returned x.0 p ≡ true = any-returned x.0 n p is in rw back refl

out-none : (r : Option ℕ) → [] ≡ still_out r None
out-none None = refl
out-none (Some n) = refl

out-given : (p : List Entry) (seq : ℕ) (a : Answer) (r : Option ℕ) → IsReturnedAt p seq r
    → filter (λ (y : Ticket). not (is_returned y.0 p)) (cons_option (ticket_in seq a) []) ≡ still_out r (ticket_in seq a)
out-given p seq (Answer.Chosen m t h probe) r is = out-one p (seq, m) r is
out-given p seq Answer.NoMember r is = out-none r
out-given p seq Answer.Forced r is = out-none r
out-given p seq Answer.Done r is = out-none r

pub early-step : (p : List Entry) (out : List Ticket) (early : List (Option ℕ)) (i : ℕ) (items items' : List Ticket) (x : Ticket) (r : Option ℕ)
    → AreEarly p out early → i < length out → items ≡ filter (λ (y : Ticket). not (is_returned y.0 p)) (take i out)
    → x ≡ get_or out i x → r ≡ get_or early i None → items' ≡ items ++ still_out r (Some x)
    → items' ≡ filter (λ (y : Ticket). not (is_returned y.0 p)) (take (i + 1) out)
early-step p out early i items items' x r are lt is x_is r_is put =
    let q : Ticket → Bool = λ (y : Ticket). not (is_returned y.0 p) in
    let back : IsReturnedAt p x.0 r =
    subst (λ (y : Ticket). IsReturnedAt p y.0 r) (sym x_is) (subst (λ (z : Option ℕ). IsReturnedAt p (get_or out i x).0 z) (sym r_is) (are.at i x lt)) in
    put ∙ ap (λ (xs : List Ticket). xs ++ still_out r (Some x)) is
    ∙ ap (λ (ys : List Ticket). filter q (take i out) ++ ys) (sym (out-one p x r back))
    ∙ sym (filter-append q (take i out) (x ∷ []))
    ∙ ap (λ (y : Ticket). filter q (take i out ++ y ∷ [])) x_is
    ∙ ap (filter q) (sym (take_more out i x lt))

pub own-step : (p h : List Entry) (kept : List (Option ℕ)) (k : ℕ) (start items items' : List Ticket) (e : Entry) (r : Option ℕ)
    → AreOwn p h kept → k < length h
    → items ≡ start ++ filter (λ (y : Ticket). not (is_returned y.0 p)) (filter_map (λ (x : Entry). ticket_in x.seq x.answer) (take k h))
    → e ≡ get_or h k e → r ≡ get_or kept k None → items' ≡ items ++ still_out r (ticket_in e.seq e.answer)
    → items' ≡ start ++ filter (λ (y : Ticket). not (is_returned y.0 p)) (filter_map (λ (x : Entry). ticket_in x.seq x.answer) (take (k + 1) h))
own-step p h kept k start items items' e r are lt is e_is r_is put =
    let q : Ticket → Bool = λ (y : Ticket). not (is_returned y.0 p) in
    let f : Entry → Option Ticket = λ (x : Entry). ticket_in x.seq x.answer in
    let back : IsReturnedAt p e.seq r =
    subst (λ (y : Entry). IsReturnedAt p y.seq r) (sym e_is) (subst (λ (z : Option ℕ). IsReturnedAt p (get_or h k e).seq z) (sym r_is) (are.at k e lt)) in
    put ∙ ap (λ (xs : List Ticket). xs ++ still_out r (f e)) is
    ∙ append_assoc start (filter q (filter_map f (take k h))) (still_out r (f e))
    ∙ ap (λ (ys : List Ticket). start ++ (filter q (filter_map f (take k h)) ++ ys)) (sym (out-given p e.seq e.answer r back))
    ∙ ap (λ (ys : List Ticket). start ++ ys)
    (sym (filter-append q (filter_map f (take k h)) (filter_map f (e ∷ [])))
    ∙ ap (filter q) (sym (filter_map-append f (take k h) (e ∷ []))))
    ∙ ap (λ (y : Entry). start ++ filter q (filter_map f (take k h ++ y ∷ []))) e_is
    ∙ ap (λ (xs : List Entry). start ++ filter q (filter_map f xs)) (sym (take_more h k e lt))

-- The same with the defaults of reads.
pub early-read : (p : List Entry) (out : List Ticket) (early : List (Option ℕ)) (i : ℕ) (items items' : List Ticket) (d : Ticket) (d' : Option ℕ)
    → AreEarly p out early → i < length out → i < length early
    → items ≡ filter (λ (y : Ticket). not (is_returned y.0 p)) (take i out)
    → items' ≡ items ++ still_out (get_or early i d') (Some (get_or out i d))
    → items' ≡ filter (λ (y : Ticket). not (is_returned y.0 p)) (take (i + 1) out)
early-read p out early i items items' d d' are lt lt' is put =
    early-step p out early i items items' (get_or out i d) (get_or early i d') are lt is (get_or_default out i d (get_or out i d) lt)
    (get_or_default early i d' None lt') put

pub own-read : (p h : List Entry) (kept : List (Option ℕ)) (k : ℕ) (start items items' : List Ticket) (d : Entry) (d' : Option ℕ) (t : Option Ticket)
    → AreOwn p h kept → k < length h → k < length kept
    → items ≡ start ++ filter (λ (y : Ticket). not (is_returned y.0 p)) (filter_map (λ (x : Entry). ticket_in x.seq x.answer) (take k h))
    → t ≡ ticket_in (get_or h k d).seq (get_or h k d).answer
    → items' ≡ items ++ still_out (get_or kept k d') t
    → items' ≡ start ++ filter (λ (y : Ticket). not (is_returned y.0 p)) (filter_map (λ (x : Entry). ticket_in x.seq x.answer) (take (k + 1) h))
own-read p h kept k start items items' d d' t are lt lt' is t_is put =
    own-step p h kept k start items items' (get_or h k d) (get_or kept k d') are lt is (get_or_default h k d (get_or h k d) lt)
    (get_or_default kept k d' None lt') (put ∙ ap (λ (x : Option Ticket). items ++ still_out (get_or kept k d') x) t_is)

-- The numbers of a legal journal's entries.
past_seq : (v : ℕ) (o : Opening) (p : List Entry) (k : ℕ) (d : Entry) → IsLegalPast v o p → k < length p
    → (get_or p k d).seq + 1 + k ≡ o.next + length p
past_seq v o [] k d legal lt = absurd (omega arith)
past_seq v o (e ∷ p) zero d legal lt = omega (arith, legal.0.number)
past_seq v o (e ∷ p) (suc k) d legal lt = omega (arith, past_seq v o p k d legal.1 (omega arith))

entry_seq : (v : ℕ) (o : Opening) (h : List Entry) (k : ℕ) (d : Entry) → IsLegal v o h → k < length h → (get_or h k d).seq ≡ o.next + k
entry_seq v o h k d legal lt =
    let count : length (reverse h) ≡ length h = length-reverse h in
    let place : length h - 1 - (length h - 1 - k) ≡ k = omega arith in
    let here : get_or (reverse h) (length h - 1 - k) d ≡ get_or h k d =
    get_or-reverse h (length h - 1 - k) d (omega arith) ∙ ap (λ (j : ℕ). get_or h j d) place in
    let number : (get_or (reverse h) (length h - 1 - k) d).seq + 1 + (length h - 1 - k) ≡ o.next + length (reverse h) =
    past_seq v o (reverse h) (length h - 1 - k) d legal (omega (arith, lt, count)) in
    let same : (get_or (reverse h) (length h - 1 - k) d).seq ≡ (get_or h k d).seq = ap (λ (e : Entry). e.seq) here in
    omega (arith, lt, count, number, same)

pub early_of : (o : Opening) (p : List Entry) (kept early : List (Option ℕ)) → AreReturns o p kept early → AreEarly p o.out early
early_of o p kept early are = record { at = λ i d lt. are.older i (get_or o.out i d) (slice_get-get_or o.out i d lt) }

pub own_of : (v : ℕ) (o : Opening) (h : List Entry) (kept early : List (Option ℕ)) → IsLegal v o h → AreReturns o (reverse h) kept early
    → AreOwn (reverse h) h kept
own_of v o h kept early legal are = record {
  at = λ k d lt.
      subst (λ (n : ℕ). IsReturnedAt (reverse h) n (get_or kept k None)) (sym (entry_seq v o h k d legal lt))
      (are.own k (omega (arith, lt, length-reverse h)));
}

-- The settled members are in their ranges.
module _ (members : List MemberConfig) (rows : List Standing) (new : List MemberConfig) (are : AreSettled members rows (length members) new)
    (whole : length rows ≡ length members) where
  settled_at : (m : ℕ) (c d : MemberConfig) → slice_get new m ≡ Some c → c ≡ ending_member (get_or members m d) (get_or rows m nobody)
  settled_at m c d found =
      let lt : m < length members = omega (arith, are.whole, slice_get_within new m c found) in
      sym (get_or_from_slice_get new m c c found) ∙ are.each m d nobody c lt

  pub settled_ranges : ((m : ℕ) (c : MemberConfig) (d : Standing) → m < length rows
      → IsInRange (length rows) m (ending_member (get_or members m c) (get_or rows m d))) → AreInRange new
  settled_ranges ranges = record {
    at = λ m c found.
        let lt : m < length rows = omega (arith, are.whole, whole, slice_get_within new m c found) in
        let count : length new ≡ length rows = are.whole ∙ sym whole in
        subst (λ (x : MemberConfig). IsInRange (length new) m x) (sym (settled_at m c c found))
        (subst (λ (n : ℕ). IsInRange n m (ending_member (get_or members m c) (get_or rows m nobody))) (sym count) (ranges m c nobody lt));
  }

  settled_factor : (m : ℕ) → m < length new → (setting_in (slice_get new m)).factor ≡ (get_or rows m nobody).factor
  settled_factor m lt =
      elim (slice_get_cases new m).1 [
        | inl found ↦
            ap (λ (x : Option MemberConfig). (setting_in x).factor) found.2
            ∙ ap (λ (x : MemberConfig). x.factor) (settled_at m found.0 found.0 found.2)
        | inr past ↦ absurd (omega arith)
      ]

  pub settled_narrow : multiple_of (each (length rows) (λ m. (get_or rows m nobody).factor)) < 2 ^ 32 → multiple_of (factors_in new) < 2 ^ 32
  settled_narrow narrow =
      let n : ℕ = length new in
      let table : each n (λ m. (setting_in (slice_get new m)).factor) ≡ take n (factors_in new) =
      each-slice_get (λ (m : MemberConfig). m.factor) (λ (found : Option MemberConfig). (setting_in found).factor) (λ m. refl) new n (omega arith) in
      let all : take n (factors_in new) ≡ factors_in new = take_all n (factors_in new) (omega (arith, length-map new (λ (m : MemberConfig). m.factor))) in
      let same : each n (λ m. (setting_in (slice_get new m)).factor) ≡ each n (λ m. (get_or rows m nobody).factor) =
      each-agree n (λ m. (setting_in (slice_get new m)).factor) (λ m. (get_or rows m nobody).factor) settled_factor in
      let count : n ≡ length rows = are.whole ∙ sym whole in
      let whole_is : factors_in new ≡ each (length rows) (λ m. (get_or rows m nobody).factor) =
      sym all ∙ sym table ∙ same ∙ ap (λ (k : ℕ). each k (λ m. (get_or rows m nobody).factor)) count in
      subst (λ (xs : List ℕ). multiple_of xs < 2 ^ 32) (sym whole_is) narrow
