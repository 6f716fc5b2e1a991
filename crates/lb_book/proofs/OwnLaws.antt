-- The entries of one caller in a history, and the tickets that it made and gave back.
use Rattle.std.proofs.Common.{◌≡◌, ◌≢◌, ◌⊎◌, ℕ, ◌<◌, Bool, true, false, cond, List, [], ◌∷◌, ◌++◌, reverse, refl, sym, ap, ◌∙◌, subst, inl, inr, ⊎_elim, arith, eq-eqb, ne_eqb}
use Rattle.std.specs.Prelude.{◌==◌, ◌||◌}
use Rattle.std.specs.List.{cons_option, filter_map, list_any}
use Rattle.std.proofs.lemmas.Bool.{cases_Bool}
use Rattle.std.proofs.lemmas.Bool.Decides.{nat_tests}
use Rattle.std.proofs.lemmas.List.{append-nil}
use Rattle.std.proofs.lemmas.List.Elements.{filter-append, filter_map-append}
use Rattle.std.proofs.lemmas.List.Folds.{list_any-append}
use Rattle.lb_model.specs.Journal.{next_of}
use Rattle.lb_model.specs.Legal.{IsLegal, IsLegalPast}
use Rattle.lb_model.specs.Tickets.{Ticket, gives_back, is_returned, ticket_in}
use Rattle.lb_model.proofs.ListFacts.{list_any-reverse}
use Rattle.lb_model.specs.declared.journal.Answer.{Answer}
use Rattle.lb_model.specs.declared.journal.Answer.TheVariants as answer
use Rattle.lb_model.specs.declared.journal.Entry.{Entry}
use Rattle.lb_model.specs.declared.opening.Opening.{Opening}
use Rattle.lb_book.proofs.EndingLaws.{filter-reverse, filter_map-reverse}
use Rattle.lb_book.specs.Histories.{AreOf, AreOwnReturns, has_made, own_of}

pub own-same : (n : ℕ) (es : List Entry) → AreOf n es → own_of n es ≡ es
own-same n [] are = refl
own-same n (e ∷ es) are =
    ap (λ (b : Bool). cond b (e ∷ own_of n es) (own_of n es)) (eq-eqb e.session n are.0) ∙ ap (λ (xs : List Entry). e ∷ xs) (own-same n es are.1)

pub own-others : (n m : ℕ) (es : List Entry) → AreOf n es → m ≢ n → own_of m es ≡ []
own-others n m [] are other = refl
own-others n m (e ∷ es) are other =
    ap (λ (b : Bool). cond b (e ∷ own_of m es) (own_of m es)) (ne_eqb e.session m (λ is. other (sym is ∙ are.0))) ∙ own-others n m es are.1 other

pub own-append : (n : ℕ) (h es : List Entry) → own_of n (h ++ es) ≡ own_of n h ++ own_of n es
own-append n h es = filter-append (λ (e : Entry). e.session == n) h es

-- After entries of caller n: it has these more, and every other caller what it had.
pub own-more : (n : ℕ) (h es : List Entry) → AreOf n es → own_of n (h ++ es) ≡ own_of n h ++ es
own-more n h es are = own-append n h es ∙ ap (λ (xs : List Entry). own_of n h ++ xs) (own-same n es are)

pub own-kept : (n m : ℕ) (h es : List Entry) → AreOf n es → m ≢ n → own_of m (h ++ es) ≡ own_of m h
own-kept n m h es are other =
    own-append m h es ∙ ap (λ (xs : List Entry). own_of m h ++ xs) (own-others n m es are other) ∙ append-nil (own_of m h)

pub made-append : (t : ℕ) (g h : List Entry) → has_made t (g ++ h) ≡ (has_made t g || has_made t h)
made-append t g h =
    ap (λ (xs : List Ticket). list_any (λ x. x.0 == t) xs) (filter_map-append (λ (e : Entry). ticket_in e.seq e.answer) g h)
    ∙ list_any-append (λ (x : Ticket). x.0 == t) (filter_map (λ (e : Entry). ticket_in e.seq e.answer) g) (filter_map (λ (e : Entry). ticket_in e.seq e.answer) h)

pub returned-append : (t : ℕ) (g h : List Entry) → is_returned t (g ++ h) ≡ (is_returned t g || is_returned t h)
returned-append t g h = list_any-append (λ (e : Entry). gives_back t e.call) g h

or_true : (b : Bool) → (b || true) ≡ true
or_true true = refl
or_true false = refl

pub made_longer : (t : ℕ) (g h : List Entry) → has_made t g ≡ true → has_made t (g ++ h) ≡ true
made_longer t g h is = made-append t g h ∙ ap (λ (b : Bool). b || has_made t h) is

-- Tickets have the numbers of their entries.
ticket_seq : (t seq : ℕ) (a : Answer) (more : List Ticket) → list_any (λ (x : Ticket). x.0 == t) (cons_option (ticket_in seq a) more) ≡ true
    → (seq ≡ t) ⊎ (list_any (λ (x : Ticket). x.0 == t) more ≡ true)
ticket_seq t seq (answer.Chosen m u how probe) more is =
    elim (cases_Bool (seq == t)) [
      | inl this ↦ inl (grind (arith, nat_tests))
      | inr other ↦ inr (sym (ap (λ (b : Bool). b || list_any (λ (x : Ticket). x.0 == t) more) other) ∙ is)
    ]
ticket_seq t seq answer.NoMember more is = inr is
ticket_seq t seq answer.Forced more is = inr is
ticket_seq t seq answer.Done more is = inr is

-- The maker of a ticket among these entries and one before them: the one, and of caller n, or an older one.
made_step : (n t : ℕ) (e : Entry) (p : List Entry) → has_made t (own_of n (e ∷ p)) ≡ true
    → ((e.seq ≡ t) × (e.session ≡ n)) ⊎ (has_made t (own_of n p) ≡ true)
made_step n t e p is =
    elim (cases_Bool (e.session == n)) [
      | inl mine ↦
          let here : has_made t (e ∷ own_of n p) ≡ true = subst (λ (b : Bool). has_made t (cond b (e ∷ own_of n p) (own_of n p)) ≡ true) mine is in
          let caller : e.session ≡ n = grind (arith, nat_tests) in
          ⊎_elim (λ (this : e.seq ≡ t). inl (this, caller)) (λ (older : has_made t (own_of n p) ≡ true). inr older)
          (ticket_seq t e.seq e.answer (filter_map (λ (x : Entry). ticket_in x.seq x.answer) (own_of n p)) here)
      | inr other ↦ inr (subst (λ (b : Bool). has_made t (cond b (e ∷ own_of n p) (own_of n p)) ≡ true) other is)
    ]

-- In a legal history a ticket has a number below the next.
made_below : (v : ℕ) (o : Opening) (p : List Entry) (n t : ℕ) → IsLegalPast v o p → has_made t (own_of n p) ≡ true → t < next_of o p
made_below v o [] n t legal is = absurd cc
made_below v o (e ∷ p) n t legal is =
    elim (made_step n t e p is) [
      | inl this ↦ let number : e.seq ≡ next_of o p = legal.0.number in let same : e.seq ≡ t = this.0 in omega arith
      | inr older ↦ let below : t < next_of o p = made_below v o p n t legal.1 older in omega arith
    ]

-- A ticket has one maker.
one_past : (v : ℕ) (o : Opening) (p : List Entry) (n m t : ℕ) → IsLegalPast v o p → has_made t (own_of n p) ≡ true → has_made t (own_of m p) ≡ true → n ≡ m
one_past v o [] n m t legal is also = absurd cc
one_past v o (e ∷ p) n m t legal is also =
    let number : e.seq ≡ next_of o p = legal.0.number in
    elim (made_step n t e p is) [
      | inl this ↦
          elim (made_step m t e p also) [
            | inl same ↦ sym this.1 ∙ same.1
            | inr older ↦ let below : t < next_of o p = made_below v o p m t legal.1 older in let seq : e.seq ≡ t = this.0 in absurd (omega arith)
          ]
      | inr old ↦
          elim (made_step m t e p also) [
            | inl same ↦ let below : t < next_of o p = made_below v o p n t legal.1 old in let seq : e.seq ≡ t = same.0 in absurd (omega arith)
            | inr older ↦ one_past v o p n m t legal.1 old older
          ]
    ]

pub own-reverse : (n : ℕ) (h : List Entry) → own_of n (reverse h) ≡ reverse (own_of n h)
own-reverse n h = filter-reverse (λ (e : Entry). e.session == n) h

pub made-reverse : (t : ℕ) (h : List Entry) → has_made t (reverse h) ≡ has_made t h
made-reverse t h =
    ap (λ (xs : List Ticket). list_any (λ x. x.0 == t) xs) (filter_map-reverse (λ (e : Entry). ticket_in e.seq e.answer) h)
    ∙ list_any-reverse (λ (x : Ticket). x.0 == t) (filter_map (λ (e : Entry). ticket_in e.seq e.answer) h)

made_own : (n t : ℕ) (h : List Entry) → has_made t (own_of n h) ≡ true → has_made t (own_of n (reverse h)) ≡ true
made_own n t h is = ap (λ (xs : List Entry). has_made t xs) (own-reverse n h) ∙ made-reverse t (own_of n h) ∙ is

pub own_below : (v : ℕ) (o : Opening) (h : List Entry) (n t : ℕ) → IsLegal v o h → has_made t (own_of n h) ≡ true → t < next_of o (reverse h)
own_below v o h n t legal is = made_below v o (reverse h) n t legal (made_own n t h is)

pub one_maker : (v : ℕ) (o : Opening) (h : List Entry) (n m t : ℕ) → IsLegal v o h → has_made t (own_of n h) ≡ true → has_made t (own_of m h) ≡ true → n ≡ m
one_maker v o h n m t legal is also = one_past v o (reverse h) n m t legal (made_own n t h is) (made_own m t h also)

-- Who returned a ticket is some caller.
some_caller : (t : ℕ) (h : List Entry) → is_returned t h ≡ true → (n : ℕ) × (is_returned t (own_of n h) ≡ true)
some_caller t [] is = absurd cc
some_caller t (e ∷ h) is =
    elim (cases_Bool (gives_back t e.call)) [
      | inl this ↦
          let mine : own_of e.session (e ∷ h) ≡ e ∷ own_of e.session h =
          ap (λ (b : Bool). cond b (e ∷ own_of e.session h) (own_of e.session h)) (eq-eqb e.session e.session refl) in
          (e.session, ap (λ (xs : List Entry). is_returned t xs) mine ∙ ap (λ (b : Bool). b || is_returned t (own_of e.session h)) this)
      | inr other ↦
          let rest = some_caller t h (sym (ap (λ (b : Bool). b || is_returned t h) other) ∙ is) in
          (rest.0, longer rest.0 t e h rest.1)
    ]
  where
    longer : (n t : ℕ) (e : Entry) (h : List Entry) → is_returned t (own_of n h) ≡ true → is_returned t (own_of n (e ∷ h)) ≡ true
    longer n t e h is =
        elim (e.session == n) as (λ b. is_returned t (cond b (e ∷ own_of n h) (own_of n h)) ≡ true) [
          | true ↦ ap (λ (b : Bool). gives_back t e.call || b) is ∙ or_true (gives_back t e.call)
          | false ↦ is
        ]

-- A ticket that a caller made and didn't return is returned by nobody.
pub not_returned : (v : ℕ) (o : Opening) (h : List Entry) (n t : ℕ) → IsLegal v o h → AreOwnReturns h
    → has_made t (own_of n h) ≡ true → is_returned t (own_of n h) ≡ false → is_returned t h ≡ false
not_returned v o h n t legal returns made still =
    elim (cases_Bool (is_returned t h)) [
      | inl back ↦
          let by = some_caller t h back in
          let same : by.0 ≡ n = one_maker v o h by.0 n t legal (returns by.0 t by.1) made in
          let twice : is_returned t (own_of n h) ≡ true = subst (λ (m : ℕ). is_returned t (own_of m h) ≡ true) same by.1 in
          absurd cc
      | inr not_back ↦ not_back
    ]
