-- Where tickets were made, and which of them are out.
use Rattle.std.proofs.Common.{◌≡◌, ℕ, zero, suc, ◌+◌, ◌-◌, ◌<◌, ◌≤◌, Bool, true, false, ◌&&◌, ◌||◌, not, List, [], ◌∷◌, ◌++◌, length, reverse, Option, Some, None, get_or, refl, sym, ◌∙◌, ap, subst, inl, inr, arith}
use Rattle.std.specs.Prelude.{◌==◌, slice_get, option_and_then}
use Rattle.std.specs.List.{list_any}
use Rattle.std.proofs.lemmas.Bool.{cases_Bool, cases_eq, cases_lt, eqb-true, eq-eqb, ne_eqb, or_right, or_left, or_from, true≢false}
use Rattle.std.proofs.lemmas.List.{get_or-reverse, length-reverse, reverse-append, reverse-reverse}
use Rattle.std.proofs.lemmas.Option.{slice_get_past}
use Rattle.std.proofs.lemmas.Map.Views.{any-filter_same}
use Rattle.lb_model.specs.Journal.{members, next_of, chosen_in}
use Rattle.lb_model.specs.Tickets.{Ticket, gives_back, is_returned, made, is_out, is_on}
use Rattle.lb_model.specs.Validity.{AreTickets, IsOpening}
use Rattle.lb_model.specs.Legal.{IsLegalPast, IsLegal, IsAnswered}
use Rattle.lb_model.proofs.ListFacts.{list_any-reverse}
use Rattle.lb_model.proofs.TicketFacts.{ticket_below}
use Rattle.lb_model.proofs.OutFacts.{legal_opening, out_not_returned, on_some}
use Rattle.lb_model.specs.declared.journal.Answer.{Answer}
use Rattle.lb_model.specs.declared.journal.Call.{Call}
use Rattle.lb_model.specs.declared.journal.Entry.{Entry}
use Rattle.lb_model.specs.declared.opening.Opening.{Opening}
use Rattle.lb_rules.specs.declared.tickets.Spot.{Spot}
use Rattle.lb_rules.specs.Spots.{chosen_at, AreRising, IsSpot, IsNoSpot}

-- Tickets, newest first: each is below the bound, and later places have smaller ones.
tickets_at : (n next : ℕ) (xs : List Ticket) → AreTickets n next xs → (i : ℕ) (d : Ticket) → i < length xs → (get_or xs i d).0 < next
tickets_at n next [] are i d lt = absurd (omega arith)
tickets_at n next (x ∷ xs) are zero d lt = are.0
tickets_at n next (x ∷ xs) are (suc i) d lt =
    let rest : (get_or xs i d).0 < x.0 = tickets_at n x.0 xs are.2 i d (omega arith) in
    let first : x.0 < next = are.0 in
    omega arith

tickets_fall : (n next : ℕ) (xs : List Ticket) → AreTickets n next xs → (i j : ℕ) (d : Ticket) → i < j → j < length xs
    → (get_or xs j d).0 < (get_or xs i d).0
tickets_fall n next [] are i j d less lt = absurd (omega arith)
tickets_fall n next (x ∷ xs) are i zero d less lt = absurd (omega arith)
tickets_fall n next (x ∷ xs) are zero (suc j) d less lt = tickets_at n x.0 xs are.2 j d (omega arith)
tickets_fall n next (x ∷ xs) are (suc i) (suc j) d less lt = tickets_fall n x.0 xs are.2 i j d (omega arith) (omega arith)

from_end : (xs : List Ticket) (i : ℕ) (d : Ticket) → i < length xs → get_or xs i d ≡ get_or (reverse xs) (length xs - 1 - i) d
from_end xs i d lt =
    let place : length xs - 1 - (length xs - 1 - i) ≡ i = omega arith in
    sym (get_or-reverse xs (length xs - 1 - i) d (omega arith) ∙ ap (λ (k : ℕ). get_or xs k d) place)

pub opening_rising : (o : Opening) → IsOpening o → AreRising o.out
opening_rising o valid = λ i j d less lt.
    rw (from_end o.out i d (omega arith), from_end o.out j d lt)
    (tickets_fall (members o) o.next (reverse o.out) valid.tickets (length o.out - 1 - j) (length o.out - 1 - i) d (omega arith)
    (omega (arith, length-reverse o.out)))

pub opening_below : (o : Opening) → IsOpening o → (i : ℕ) (d : Ticket) → i < length o.out → (get_or o.out i d).0 < o.next
opening_below o valid i d lt =
    rw (from_end o.out i d lt)
    (tickets_at (members o) o.next (reverse o.out) valid.tickets (length o.out - 1 - i) d (omega (arith, length-reverse o.out)))

-- Entries by place, the newest last.
reverse-cons : {A : Type 0} (x : A) (xs : List A) → reverse (x ∷ xs) ≡ reverse xs ++ x ∷ []
reverse-cons x xs = reverse-append (x ∷ []) xs

slice_get-snoc_below : {A : Type 0} (xs : List A) (x : A) (k : ℕ) → k < length xs → slice_get (xs ++ x ∷ []) k ≡ slice_get xs k
slice_get-snoc_below [] x k lt = absurd (omega arith)
slice_get-snoc_below (y ∷ ys) x zero lt = refl
slice_get-snoc_below (y ∷ ys) x (suc k) lt = slice_get-snoc_below ys x k (omega arith)

slice_get-snoc_at : {A : Type 0} (xs : List A) (x : A) → slice_get (xs ++ x ∷ []) (length xs) ≡ Some x
slice_get-snoc_at [] x = refl
slice_get-snoc_at (y ∷ ys) x = slice_get-snoc_at ys x

chosen-below : (e : Entry) (q : List Entry) (k : ℕ) → k < length q → chosen_at (reverse (e ∷ q)) k ≡ chosen_at (reverse q) k
chosen-below e q k lt =
    ap (λ (h : List Entry). chosen_at h k) (reverse-cons e q)
    ∙ ap (λ (found : Option Entry). option_and_then (λ (x : Entry). chosen_in x.answer) found)
    (slice_get-snoc_below (reverse q) e k (omega (arith, length-reverse q)))

chosen-last : (e : Entry) (q : List Entry) → chosen_at (reverse (e ∷ q)) (length q) ≡ chosen_in e.answer
chosen-last e q =
    ap (λ (h : List Entry). chosen_at h (length q)) (reverse-cons e q)
    ∙ ap (λ (k : ℕ). chosen_at (reverse q ++ e ∷ []) k) (sym (length-reverse q))
    ∙ ap (λ (found : Option Entry). option_and_then (λ (x : Entry). chosen_in x.answer) found) (slice_get-snoc_at (reverse q) e)

-- The ticket of an entry with this number and answer is t, on m.
makes : (seq : ℕ) → Answer → (t m : ℕ) → Bool
makes seq (Answer.Chosen j u how probe) t m = seq == t && j == m
makes seq Answer.NoMember t m = false
makes seq Answer.Forced t m = false
makes seq Answer.Done t m = false

is_on-with : (o : Opening) (q : List Entry) (e : Entry) (a : Answer) (t m : ℕ) → e.answer ≡ a
    → is_on o (e ∷ q) t m ≡ (makes e.seq a t m || is_on o q t m)
unfolding makes
is_on-with o q e (Answer.Chosen j u how probe) t m is = rw is refl
is_on-with o q e Answer.NoMember t m is = rw is refl
is_on-with o q e Answer.Forced t m is = rw is refl
is_on-with o q e Answer.Done t m is = rw is refl

makes-chosen : (seq : ℕ) (a : Answer) (t m : ℕ) → chosen_in a ≡ Some m → seq ≡ t → makes seq a t m ≡ true
unfolding makes
makes-chosen seq (Answer.Chosen j u how probe) t m is number =
    let same : j ≡ m = cc in rw (eq-eqb seq t number, eq-eqb j m same) refl
makes-chosen seq Answer.NoMember t m is number = absurd cc
makes-chosen seq Answer.Forced t m is number = absurd cc
makes-chosen seq Answer.Done t m is number = absurd cc

-- The entry at a place that chose made its ticket.
pub chosen_made : (v : ℕ) (o : Opening) (p : List Entry) (k m : ℕ) → IsLegalPast v o p → chosen_at (reverse p) k ≡ Some m
    → is_on o p (o.next + k) m ≡ true
chosen_made v o [] k m legal is = absurd cc
chosen_made v o (e ∷ q) k m legal is =
    elim (cases_eq k (length q)) [
      | inl last ↦
          let number : e.seq ≡ o.next + k = omega (arith, legal.0.number) in
          let chose : chosen_in e.answer ≡ Some m =
          sym (chosen-last e q) ∙ ap (λ (j : ℕ). chosen_at (reverse (e ∷ q)) j) (sym last) ∙ is in
          is_on-with o q e e.answer (o.next + k) m refl
          ∙ or_left (makes e.seq e.answer (o.next + k) m) (is_on o q (o.next + k) m)
          (makes-chosen e.seq e.answer (o.next + k) m chose number)
      | inr other ↦
          elim (cases_lt k (length q)) [
            | inl below ↦
                let before : is_on o q (o.next + k) m ≡ true =
                chosen_made v o q k m legal.1 (sym (chosen-below e q k below) ∙ is) in
                is_on-with o q e e.answer (o.next + k) m refl
                ∙ or_right (makes e.seq e.answer (o.next + k) m) (is_on o q (o.next + k) m) before
            | inr above ↦
                let none : slice_get (reverse (e ∷ q)) k ≡ None =
                slice_get_past (reverse (e ∷ q)) k (omega (arith, length-reverse (e ∷ q), above, other)) in
                let no_choice : chosen_at (reverse (e ∷ q)) k ≡ None =
                ap (λ (found : Option Entry). option_and_then (λ (x : Entry). chosen_in x.answer) found) none in
                absurd cc
          ]
    ]

-- An item at a place of a list is found in it.
any-at : {A : Type 0} (test : A → Bool) (xs : List A) (i : ℕ) (x : A) → slice_get xs i ≡ Some x → test x ≡ true → list_any test xs ≡ true
any-at test [] i x is passes = absurd cc
any-at test (y ∷ ys) zero x is passes =
    let same : y ≡ x = cc in or_left (test y) (list_any test ys) (rw same passes)
any-at test (y ∷ ys) (suc i) x is passes = or_right (test y) (list_any test ys) (any-at test ys i x is passes)

any-none : {A : Type 0} (test : A → Bool) (xs : List A) → ((i : ℕ) (d : A) → i < length xs → test (get_or xs i d) ≡ false) → list_any test xs ≡ false
any-none test [] fails = refl
any-none test (y ∷ ys) fails =
    or_from (test y) (list_any test ys) (fails 0 y (omega arith)) (any-none test ys (λ i d lt. fails (suc i) d (omega arith)))

-- A ticket of the opening was made.
pub opening_made : (v : ℕ) (o : Opening) (p : List Entry) (i t m : ℕ) → slice_get o.out i ≡ Some (t, m) → is_on o p t m ≡ true
opening_made v o [] i t m is =
    list_any-reverse (λ (x : Ticket). x.0 == t && x.1 == m) o.out
    ∙ any-at (λ (x : Ticket). x.0 == t && x.1 == m) o.out i (t, m) is (rw (eq-eqb t t refl, eq-eqb m m refl) refl)
opening_made v o (e ∷ q) i t m is =
    is_on-with o q e e.answer t m refl
    ∙ or_right (makes e.seq e.answer t m) (is_on o q t m) (opening_made v o q i t m is)

-- Whether any ticket of this number was made.
abbrev pub is_made : Opening → List Entry → ℕ → Bool
is_made o p t = list_any (λ x. x.0 == t) (made o p)

makes_any : (seq : ℕ) → Answer → (t : ℕ) → Bool
makes_any seq (Answer.Chosen j u how probe) t = seq == t
makes_any seq Answer.NoMember t = false
makes_any seq Answer.Forced t = false
makes_any seq Answer.Done t = false

is_made-with : (o : Opening) (q : List Entry) (e : Entry) (a : Answer) (t : ℕ) → e.answer ≡ a
    → is_made o (e ∷ q) t ≡ (makes_any e.seq a t || is_made o q t)
unfolding makes_any
is_made-with o q e (Answer.Chosen j u how probe) t is = rw is refl
is_made-with o q e Answer.NoMember t is = rw is refl
is_made-with o q e Answer.Forced t is = rw is refl
is_made-with o q e Answer.Done t is = rw is refl

makes-none : (seq : ℕ) (a : Answer) (t : ℕ) → (seq ≡ t → chosen_in a ≡ None) → makes_any seq a t ≡ false
unfolding makes_any
makes-none seq (Answer.Chosen j u how probe) t none_is = ne_eqb seq t (λ same. let none : Some j ≡ None = none_is same in cc)
makes-none seq Answer.NoMember t none_is = refl
makes-none seq Answer.Forced t none_is = refl
makes-none seq Answer.Done t none_is = refl

-- A ticket that no spot has was never made.
no_own : (v : ℕ) (o : Opening) (p : List Entry) (t : ℕ) → IsLegalPast v o p
    → list_any (λ x. x.0 == t) (reverse o.out) ≡ false
    → ((k : ℕ) → t ≡ o.next + k → chosen_at (reverse p) k ≡ None) → is_made o p t ≡ false
no_own v o [] t legal older own = older
no_own v o (e ∷ q) t legal older own =
    let number : e.seq ≡ next_of o q = legal.0.number in
    let here : e.seq ≡ t → chosen_in e.answer ≡ None = λ same.
    sym (chosen-last e q) ∙ own (length q) (omega arith) in
    let below : (k : ℕ) → t ≡ o.next + k → chosen_at (reverse q) k ≡ None = λ k is.
    elim (cases_lt k (length q)) [
      | inl lt ↦ sym (chosen-below e q k lt) ∙ own k is
      | inr ge ↦ ap (λ (found : Option Entry). option_and_then (λ (x : Entry). chosen_in x.answer) found)
          (slice_get_past (reverse q) k (omega (arith, length-reverse q, ge)))
    ] in
    is_made-with o q e e.answer t refl
    ∙ or_from (makes_any e.seq e.answer t) (is_made o q t) (makes-none e.seq e.answer t here)
    (no_own v o q t legal.1 older below)

none_older : (o : Opening) → IsOpening o → (t : ℕ) → o.next ≤ t → list_any (λ x. x.0 == t) (reverse o.out) ≡ false
none_older o valid t le =
    elim (cases_Bool (list_any (λ (x : Ticket). x.0 == t) (reverse o.out))) [
      | inl is ↦ let below : t < o.next = ticket_below (members o) o.next t (reverse o.out) valid.tickets is in absurd (omega arith)
      | inr is ↦ is
    ]

pub never_made : (v : ℕ) (o : Opening) (p : List Entry) (t : ℕ) → IsLegalPast v o p → IsNoSpot o (reverse p) t → is_made o p t ≡ false
never_made v o p t legal none_is =
    elim (cases_lt t o.next) [
      | inl before ↦
          let older : list_any (λ (x : Ticket). x.0 == t) (reverse o.out) ≡ false =
          list_any-reverse (λ (x : Ticket). x.0 == t) o.out
          ∙ any-none (λ (x : Ticket). x.0 == t) o.out (λ i d lt. ne_eqb (get_or o.out i d).0 t (none_is.older before i d lt)) in
          no_own v o p t legal older (λ k is. absurd (omega arith))
      | inr from ↦
          no_own v o p t legal (none_older o (legal_opening v o p legal) t from)
          (λ k is. ap (λ (j : ℕ). chosen_at (reverse p) j) (omega arith) ∙ none_is.own from)
    ]

any-weaker : (t m : ℕ) (xs : List Ticket) → list_any (λ x. x.0 == t && x.1 == m) xs ≡ true → list_any (λ x. x.0 == t) xs ≡ true
any-weaker t m [] is = is
any-weaker t m (x ∷ xs) is =
    elim (cases_Bool (x.0 == t)) [
      | inl this ↦ or_left (x.0 == t) (list_any (λ (y : Ticket). y.0 == t) xs) this
      | inr other ↦
          let rest : list_any (λ (y : Ticket). y.0 == t && y.1 == m) xs ≡ true = rw other at is in
          or_right (x.0 == t) (list_any (λ (y : Ticket). y.0 == t) xs) (any-weaker t m xs rest)
    ]

-- A ticket that was made and didn't come back is out.
pub made_is_out : (o : Opening) (p : List Entry) (t m : ℕ) → is_on o p t m ≡ true → is_returned t p ≡ false → is_out o p t ≡ true
made_is_out o p t m on_m not_back =
    any-filter_same (λ (x : Ticket). x.0 == t) (λ (x : Ticket). not (is_returned x.0 p)) true
    (λ x this. ap (λ (b : Bool). not b) (subst (λ (k : ℕ). is_returned k p ≡ false) (sym (eqb-true x.0 t this)) not_back))
    (made o p)
    ∙ any-weaker t m (made o p) on_m

pub returned_is_not_out : (o : Opening) (p : List Entry) (t : ℕ) → is_returned t p ≡ true → is_out o p t ≡ false
returned_is_not_out o p t back =
    elim (cases_Bool (is_out o p t)) [
      | inl is ↦ absurd (true≢false (sym back ∙ out_not_returned o p t is))
      | inr is ↦ is
    ]

pub unmade_is_not_out : (o : Opening) (p : List Entry) (t : ℕ) → is_made o p t ≡ false → is_out o p t ≡ false
unmade_is_not_out o p t unmade =
    elim (cases_Bool (is_out o p t)) [
      | inl is ↦
          let mine : (m : ℕ) × (is_on o p t m ≡ true) = on_some o p t is in
          absurd (true≢false (sym (any-weaker t mine.0 (made o p) mine.1) ∙ unmade))
      | inr is ↦ is
    ]

returned-made_by : (v : ℕ) (o : Opening) (q : List Entry) (e : Entry) (c : Call) (t : ℕ) → IsAnswered v o q e c
    → gives_back t c ≡ true → is_made o q t ≡ true
returned-made_by v o q e (Call.Select ask) t answered is = cc
returned-made_by v o q e (Call.Return u w) t answered is =
    let mine : (m : ℕ) × (is_on o q u m ≡ true) = on_some o q u answered.0 in
    subst (λ (k : ℕ). is_made o q k ≡ true) (sym (eqb-true t u is)) (any-weaker u mine.0 (made o q) mine.1)
returned-made_by v o q e Call.Maintain t answered is = cc
returned-made_by v o q e (Call.Admin command) t answered is = cc

-- Only a ticket that was made came back.
pub returned_made : (v : ℕ) (o : Opening) (p : List Entry) (t : ℕ) → IsLegalPast v o p → is_returned t p ≡ true → is_made o p t ≡ true
returned_made v o [] t legal is = cc
returned_made v o (e ∷ q) t legal is =
    let before : is_made o q t ≡ true =
    elim (cases_Bool (gives_back t e.call)) [
      | inl this ↦ returned-made_by v o q e e.call t legal.0.answered this
      | inr other ↦ returned_made v o q t legal.1 (rw other at is)
    ] in
    is_made-with o q e e.answer t refl ∙ or_right (makes_any e.seq e.answer t) (is_made o q t) before

pub unmade_is_not_returned : (v : ℕ) (o : Opening) (p : List Entry) (t : ℕ) → IsLegalPast v o p → is_made o p t ≡ false → is_returned t p ≡ false
unmade_is_not_returned v o p t legal unmade =
    elim (cases_Bool (is_returned t p)) [
      | inl is ↦ absurd (true≢false (sym (returned_made v o p t legal is) ∙ unmade))
      | inr is ↦ is
    ]

-- A spot of the history h, oldest entry first, made its ticket.
pub spot_made : (v : ℕ) (o : Opening) (h : List Entry) (t m : ℕ) (spot : Spot) → IsLegal v o h → IsSpot o h t m spot
    → is_on o (reverse h) t m ≡ true
spot_made v o h t m (Spot.Entry place) legal is =
    let chose : chosen_at (reverse (reverse h)) place ≡ Some m =
    ap (λ (xs : List Entry). chosen_at xs place) (reverse-reverse h) ∙ is.0 in
    subst (λ (k : ℕ). is_on o (reverse h) k m ≡ true) (sym is.1) (chosen_made v o (reverse h) place m legal chose)
spot_made v o h t m (Spot.Opening place) legal is = opening_made v o (reverse h) place t m is

pub no_spot : (v : ℕ) (o : Opening) (h : List Entry) (t : ℕ) → IsLegal v o h → IsNoSpot o h t → is_made o (reverse h) t ≡ false
no_spot v o h t legal none_is =
    never_made v o (reverse h) t legal (subst (λ (xs : List Entry). IsNoSpot o xs t) (sym (reverse-reverse h)) none_is)
