-- Tickets along a legal history: which are out after each entry, and how many on each member.
use Rattle.std.proofs.Common.{◌≡◌, ℕ, ◌+◌, ◌<◌, ◌≤◌, ◌^◌, Bool, true, false, ◌&&◌, ◌||◌, not, cond, List, [], ◌∷◌, ◌++◌, length, reverse, Option, Some, None, refl, sym, subst, ap, ◌∙◌, inl, inr, arith}
use Rattle.std.specs.Prelude.{◌==◌, nat_lt}
use Rattle.std.specs.List.{list_any, filter, filter_map, count_by, cons_option}
use Rattle.std.proofs.lemmas.Bool.{and_parts, cases_Bool, eqb-true}
use Rattle.std.proofs.lemmas.Bool.Decides.{nat_tests}
use Rattle.std.proofs.lemmas.List.Elements.{filter_agree}
use Rattle.std.proofs.lemmas.List.{length-reverse}
use Rattle.std.proofs.lemmas.Map.Views.{any-filter_same}
use Rattle.lb_model.proofs.ListFacts.{count_by-cons, filter_all, filter_fewer, filter-filter}
use Rattle.lb_model.proofs.SettingFacts.{setting_in_range}
use Rattle.lb_model.proofs.TicketFacts.{AreTickets-weaken, AreTickets-filter, ticket_below, count_by-without, length-without, one_member, some_member}
use Rattle.lb_model.specs.Choice.{IsChosen, IsPick, member_within, redirected, routed, routed_member, routed_choice, serves}
use Rattle.lb_model.specs.Journal.{members, next_of}
use Rattle.lb_model.specs.Legal.{IsLegalPast, IsAnswered, taken_by}
use Rattle.lb_model.specs.Ranges.{redirects_within}
use Rattle.lb_model.specs.Settings.{redirect_of}
use Rattle.lb_model.specs.Tickets.{Ticket, ticket_in, gives_back, is_returned, made, out, is_out, is_on, busy_of}
use Rattle.lb_model.specs.Validity.{AreTickets, IsOpening}
use Rattle.lb_model.specs.declared.ask.Ask.{Ask}
use Rattle.lb_model.specs.declared.journal.Answer.{Answer}
use Rattle.lb_model.specs.declared.journal.Answer.TheVariants as answer
use Rattle.lb_model.specs.declared.journal.Call.{Call}
use Rattle.lb_model.specs.declared.journal.Call.TheVariants as call
use Rattle.lb_model.specs.declared.journal.Entry.{Entry}
use Rattle.lb_model.specs.declared.journal.How.{How}
use Rattle.lb_model.specs.declared.journal.How.TheVariants as how
use Rattle.lb_model.specs.declared.journal.Outcome.{Outcome}
use Rattle.lb_model.specs.declared.opening.Opening.{Opening}

pub first_in : ℕ → Option (ℕ × How) → ℕ
first_in d None = d
first_in d (Some x) = x.0

pub same_first : (i j : ℕ) (h k : How) (x y : Option (ℕ × How)) → x ≡ Some (i, h) → y ≡ Some (j, k) → x ≡ y → i ≡ j
unfolding first_in
same_first i j h k x y is_x is_y is = ap (first_in i) (sym is_x ∙ is ∙ is_y)

-- A member that the route decides on is a member.
within_some : (n : ℕ) (asked : Option ℕ) (m : ℕ) → member_within n asked ≡ Some m → m < n
within_some n None m is = cc
within_some n (Some j) m is =
    elim (cases_Bool (nat_lt j n)) [
      | inl lt ↦
          let found : Some j ≡ Some m = rw lt at is in
          let same : j ≡ m = cc in
          grind (arith, nat_tests)
      | inr ge ↦ let none : None ≡ Some m = rw ge at is in cc
    ]

routed_within : (o : Opening) (ask : Ask) (m : ℕ) → routed_member o ask ≡ Some m → m < members o
routed_within o ask m is =
    elim (cases_Bool o.config.sticky) [
      | inl sticky ↦ within_some (members o) ask.routed m (rw sticky at is)
      | inr not_sticky ↦ let none : None ≡ Some m = rw not_sticky at is in absurd cc
    ]

redirected_to : (serving : ℕ → Bool) (target : Option ℕ) (m : ℕ) (h : How) → redirected serving target ≡ Some (m, h) → target ≡ Some m
redirected_to serving None m h is = cc
redirected_to serving (Some r) m h is =
    elim (cases_Bool (serving r)) [
      | inl yes' ↦ let same : r ≡ m = same_first r m how.Redirect h (redirected serving (Some r)) (Some (m, h)) (rw yes' refl) refl is in ap (λ (k : ℕ). Some k) same
      | inr no' ↦ let none : None ≡ Some (m, h) = rw no' at is in cc
    ]

redirect_within : (n m t : ℕ) (target : Option ℕ) → redirects_within n m target ≡ true → target ≡ Some t → t < n
redirect_within n m t None is some = absurd cc
redirect_within n m t (Some r) is some = let same : r ≡ t = cc in grind (arith, nat_tests)

route_within : (n : ℕ) (serving : ℕ → Bool) (redirect : ℕ → Option ℕ) (home : Option ℕ) (m : ℕ) (h : How)
    → ((j : ℕ) → home ≡ Some j → j < n) → ((j t : ℕ) → j < n → redirect j ≡ Some t → t < n)
    → routed serving redirect home ≡ Some (m, h) → m < n
route_within n serving redirect None m h homes targets is = absurd cc
route_within n serving redirect (Some j) m h homes targets is =
    elim (cases_Bool (serving j)) [
      | inl yes' ↦
          let same : j ≡ m = same_first j m how.Sticky h (routed serving redirect (Some j)) (Some (m, h)) (rw yes' refl) refl is in
          homes m (ap (λ (k : ℕ). Some k) same)
      | inr no' ↦
          let further : redirected serving (redirect j) ≡ Some (m, h) = rw no' at is in
          targets j m (homes j refl) (redirected_to serving (redirect j) m h further)
    ]

choice_within : (v : ℕ) (o : Opening) (p : List Entry) (ask : Ask) (m : ℕ) (h : How) → IsLegalPast v o p
    → routed_choice v o p ask ≡ Some (m, h) → m < members o
choice_within v o p ask m h legal is =
    route_within (members o) (λ j. serves v o p ask j) (λ j. redirect_of o p j) (routed_member o ask) m h
    (routed_within o ask)
    (λ j t lt some. redirect_within (members o) j t (redirect_of o p j) (setting_in_range v o p j legal lt).redirect some)
    is

chosen_within : (v : ℕ) (o : Opening) (p : List Entry) (ask : Ask) (h : How) (m : ℕ) → IsLegalPast v o p
    → IsChosen v o p ask h m → m < members o
chosen_within v o p ask how.Sticky m legal is = choice_within v o p ask m how.Sticky legal is
chosen_within v o p ask how.Redirect m legal is = choice_within v o p ask m how.Redirect legal is
chosen_within v o p ask how.Balanced m legal is = is.1.within

answered_within : (v : ℕ) (o : Opening) (p : List Entry) (e : Entry) (c : Call) (m t : ℕ) (h : How) (probe : Bool) → IsLegalPast v o p
    → IsAnswered v o p e c → e.answer ≡ answer.Chosen m t h probe → m < members o
answered_within v o p e (call.Select ask) m t h probe legal answered is =
    let pick : IsPick v o p ask (answer.Chosen m t h probe) = subst (λ (a : Answer). IsPick v o p ask a) is answered.0 in
    chosen_within v o p ask h m legal pick.0
answered_within v o p e (call.Return u w) m t h probe legal answered is =
    let done : e.answer ≡ answer.Done = answered.2 in absurd cc
answered_within v o p e call.Maintain m t h probe legal answered is =
    let done : e.answer ≡ answer.Done = answered.1 in absurd cc
answered_within v o p e (call.Admin c) m t h probe legal answered is =
    let done : e.answer ≡ answer.Done = answered.1 in absurd cc

-- A chosen member is a member.
pub chosen_member : (v : ℕ) (o : Opening) (p : List Entry) (e : Entry) (m t : ℕ) (h : How) (probe : Bool)
    → IsLegalPast v o (e ∷ p) → e.answer ≡ answer.Chosen m t h probe → m < members o
chosen_member v o p e m t h probe legal is = answered_within v o p e e.call m t h probe legal.1 legal.0.answered is

-- All tickets ever made, newest first: each number once, each on a member, and below the next number.
made_with : (v : ℕ) (o : Opening) (p : List Entry) (e : Entry) (a : Answer) → e.answer ≡ a → IsLegalPast v o (e ∷ p)
    → AreTickets (members o) (next_of o p) (made o p)
    → AreTickets (members o) (next_of o (e ∷ p)) (cons_option (ticket_in e.seq a) (filter_map (λ (x : Entry). ticket_in x.seq x.answer) p) ++ reverse o.out)
made_with v o p e (answer.Chosen m t h probe) is legal made_before =
    let number : e.seq ≡ next_of o p = legal.0.number in (
      omega arith,
      chosen_member v o p e m t h probe legal is,
      AreTickets-weaken (members o) (next_of o p) e.seq (made o p) (omega arith) made_before,
    )
made_with v o p e answer.NoMember is legal made_before =
    AreTickets-weaken (members o) (next_of o p) (next_of o (e ∷ p)) (made o p) (omega arith) made_before
made_with v o p e answer.Forced is legal made_before =
    AreTickets-weaken (members o) (next_of o p) (next_of o (e ∷ p)) (made o p) (omega arith) made_before
made_with v o p e answer.Done is legal made_before =
    AreTickets-weaken (members o) (next_of o p) (next_of o (e ∷ p)) (made o p) (omega arith) made_before

pub made_tickets : (v : ℕ) (o : Opening) (p : List Entry) → IsLegalPast v o p → AreTickets (members o) (next_of o p) (made o p)
made_tickets v o [] legal = AreTickets-weaken (members o) o.next (next_of o []) (reverse o.out) (omega arith) legal.tickets
made_tickets v o (e ∷ p) legal = made_with v o p e e.answer refl legal (made_tickets v o p legal.1)

pub out_tickets : (v : ℕ) (o : Opening) (p : List Entry) → IsLegalPast v o p → AreTickets (members o) (next_of o p) (out o p)
out_tickets v o p legal =
    AreTickets-filter (members o) (next_of o p) (λ x. not (is_returned x.0 p)) (made o p) (made_tickets v o p legal)

-- A ticket that is out is below the next number.
pub out_below : (v : ℕ) (o : Opening) (p : List Entry) (t : ℕ) → IsLegalPast v o p → is_out o p t ≡ true → t < next_of o p
out_below v o p t legal is = ticket_below (members o) (next_of o p) t (out o p) (out_tickets v o p legal) is

returned_by : (v : ℕ) (o : Opening) (p : List Entry) (e : Entry) (c : Call) (t : ℕ) → IsLegalPast v o p → IsAnswered v o p e c
    → gives_back t c ≡ true → t < next_of o p
returned_by v o p e (call.Select ask) t legal answered is = cc
returned_by v o p e (call.Return u w) t legal answered is =
    let same : t ≡ u = eqb-true t u is in
    subst (λ (k : ℕ). k < next_of o p) (sym same) (out_below v o p u legal answered.0)
returned_by v o p e call.Maintain t legal answered is = cc
returned_by v o p e (call.Admin c) t legal answered is = cc

-- A ticket that came back is below the next number.
pub returned_below : (v : ℕ) (o : Opening) (p : List Entry) (t : ℕ) → IsLegalPast v o p → is_returned t p ≡ true → t < next_of o p
returned_below v o [] t legal is = cc
returned_below v o (e ∷ p) t legal is =
    elim (cases_Bool (gives_back t e.call)) [
      | inl this ↦
          let below : t < next_of o p = returned_by v o p e e.call t legal.1 legal.0.answered this in omega arith
      | inr other ↦
          let before : is_returned t p ≡ true = rw other at is in
          let below : t < next_of o p = returned_below v o p t legal.1 before in omega arith
    ]

-- The next number isn't that of a ticket that came back.
pub next_not_returned : (v : ℕ) (o : Opening) (p : List Entry) → IsLegalPast v o p → is_returned (next_of o p) p ≡ false
next_not_returned v o p legal =
    elim (cases_Bool (is_returned (next_of o p) p)) [
      | inl is ↦ let below : next_of o p < next_of o p = returned_below v o p (next_of o p) legal is in absurd (omega arith)
      | inr is ↦ is
    ]

-- The tickets that are out after an entry with this number, answer and call.
abbrev out_with : Opening → List Entry → ℕ → Answer → Call → List Ticket
out_with o p seq a c =
    filter (λ x. not (gives_back x.0 c || is_returned x.0 p))
    (cons_option (ticket_in seq a) (filter_map (λ (x : Entry). ticket_in x.seq x.answer) p) ++ reverse o.out)

out-with : (o : Opening) (p : List Entry) (e : Entry) (a : Answer) (c : Call) → e.answer ≡ a → e.call ≡ c
    → out o (e ∷ p) ≡ out_with o p e.seq a c
out-with o p e a c answers calls =
    ap (λ (x : Answer). out_with o p e.seq x e.call) answers ∙ ap (λ (x : Call). out_with o p e.seq a x) calls

-- A Select that chooses member m puts its ticket in front.
pub out-chosen : (v : ℕ) (o : Opening) (p : List Entry) (e : Entry) (ask : Ask) (m t : ℕ) (h : How) (probe : Bool)
    → IsLegalPast v o p → e.seq ≡ next_of o p → e.call ≡ call.Select ask → e.answer ≡ answer.Chosen m t h probe
    → out o (e ∷ p) ≡ (e.seq, m) ∷ out o p
out-chosen v o p e ask m t h probe legal number calls answers =
    let fresh : is_returned e.seq p ≡ false =
    subst (λ (k : ℕ). is_returned k p ≡ false) (sym number) (next_not_returned v o p legal) in
    out-with o p e (answer.Chosen m t h probe) (call.Select ask) answers calls
    ∙ ap (λ (b : Bool). cond (not b) ((e.seq, m) ∷ out o p) (out o p)) fresh

kept_with : (o : Opening) (p : List Entry) (seq : ℕ) (a : Answer) (c : Call) → ticket_in seq a ≡ None
    → ((t : ℕ) → gives_back t c ≡ false) → out_with o p seq a c ≡ out o p
kept_with o p seq a c no_ticket_made returns_none =
    ap (λ (x : Option Ticket). filter (λ y. not (gives_back y.0 c || is_returned y.0 p))
    (cons_option x (filter_map (λ (y : Entry). ticket_in y.seq y.answer) p) ++ reverse o.out)) no_ticket_made
    ∙ filter_agree (λ (x : Ticket). not (gives_back x.0 c || is_returned x.0 p)) (λ (x : Ticket). not (is_returned x.0 p))
    (λ x. ap (λ (b : Bool). not (b || is_returned x.0 p)) (returns_none x.0)) (made o p)

-- Neither makes a ticket nor returns one: as it was.
pub out-kept : (o : Opening) (p : List Entry) (e : Entry) → ticket_in e.seq e.answer ≡ None
    → ((t : ℕ) → gives_back t e.call ≡ false) → out o (e ∷ p) ≡ out o p
out-kept o p e no_ticket_made returns_none = kept_with o p e.seq e.answer e.call no_ticket_made returns_none

without_both : (a b : Bool) → not (a || b) ≡ (not b && not a)
without_both true true = refl
without_both true false = refl
without_both false true = refl
without_both false false = refl

-- A Return of ticket t takes it out.
pub out-returned : (o : Opening) (p : List Entry) (e : Entry) (t : ℕ) (w : Outcome) → ticket_in e.seq e.answer ≡ None
    → e.call ≡ call.Return t w → out o (e ∷ p) ≡ filter (λ x. not (x.0 == t)) (out o p)
out-returned o p e t w no_ticket_made calls =
    ap (λ (x : Option Ticket). filter (λ y. not (gives_back y.0 e.call || is_returned y.0 p))
    (cons_option x (filter_map (λ (y : Entry). ticket_in y.seq y.answer) p) ++ reverse o.out)) no_ticket_made
    ∙ ap (λ (c : Call). filter (λ y. not (gives_back y.0 c || is_returned y.0 p)) (made o p)) calls
    ∙ filter_agree (λ (x : Ticket). not (x.0 == t || is_returned x.0 p)) (λ (x : Ticket). not (is_returned x.0 p) && not (x.0 == t))
    (λ x. without_both (x.0 == t) (is_returned x.0 p)) (made o p)
    ∙ sym (filter-filter (λ (x : Ticket). not (x.0 == t)) (λ (x : Ticket). not (is_returned x.0 p)) (made o p))

-- A ticket that is out didn't come back.
pub out_not_returned : (o : Opening) (p : List Entry) (t : ℕ) → is_out o p t ≡ true → is_returned t p ≡ false
out_not_returned o p t is =
    elim (cases_Bool (is_returned t p)) [
      | inl back ↦
          let none : list_any (λ x. x.0 == t) (out o p) ≡ false =
          any-filter_same (λ (x : Ticket). x.0 == t) (λ (x : Ticket). not (is_returned x.0 p)) false
          (λ x this. ap (λ (b : Bool). not b) (subst (λ (k : ℕ). is_returned k p ≡ true) (sym (eqb-true x.0 t this)) back))
          (made o p) in
          absurd cc
      | inr not_back ↦ not_back
    ]

-- Where ticket t is out, it is on the member that it was made on.
pub out_is_on : (o : Opening) (p : List Entry) (t m : ℕ) → is_out o p t ≡ true
    → list_any (λ x. x.0 == t && x.1 == m) (out o p) ≡ is_on o p t m
out_is_on o p t m is =
    any-filter_same (λ (x : Ticket). x.0 == t && x.1 == m) (λ (x : Ticket). not (is_returned x.0 p)) true
    (λ x on. ap (λ (b : Bool). not b)
    (subst (λ (k : ℕ). is_returned k p ≡ false) (sym (eqb-true x.0 t (and_parts (x.0 == t) (x.1 == m) on).0)) (out_not_returned o p t is)))
    (made o p)

-- Busy counts after a choice of member m.
pub busy-chosen : (v : ℕ) (o : Opening) (p : List Entry) (e : Entry) (ask : Ask) (m t : ℕ) (h : How) (probe : Bool) (j : ℕ)
    → IsLegalPast v o p → e.seq ≡ next_of o p → e.call ≡ call.Select ask → e.answer ≡ answer.Chosen m t h probe
    → busy_of o (e ∷ p) j ≡ cond (m == j) 1 0 + busy_of o p j
busy-chosen v o p e ask m t h probe j legal number calls answers =
    ap (λ (xs : List Ticket). count_by (λ x. x.1 == j) xs) (out-chosen v o p e ask m t h probe legal number calls answers)
    ∙ count_by-cons (λ (x : Ticket). x.1 == j) (e.seq, m) (out o p)

-- Busy counts before a Return of ticket t: one less afterwards on its member.
pub busy-returned : (v : ℕ) (o : Opening) (p : List Entry) (e : Entry) (t : ℕ) (w : Outcome) (j : ℕ) → IsLegalPast v o p
    → ticket_in e.seq e.answer ≡ None → e.call ≡ call.Return t w → is_out o p t ≡ true
    → busy_of o p j ≡ cond (is_on o p t j) 1 0 + busy_of o (e ∷ p) j
busy-returned v o p e t w j legal no_ticket_made calls is =
    count_by-without (members o) (next_of o p) t (λ x. x.1 == j) (out o p) (out_tickets v o p legal)
    ∙ ap (λ (b : Bool). cond b 1 0 + count_by (λ x. x.1 == j) (filter (λ x. not (x.0 == t)) (out o p))) (out_is_on o p t j is)
    ∙ ap (λ (xs : List Ticket). cond (is_on o p t j) 1 0 + count_by (λ x. x.1 == j) xs) (sym (out-returned o p e t w no_ticket_made calls))

-- The count of all tickets before a Return.
pub length-returned : (v : ℕ) (o : Opening) (p : List Entry) (e : Entry) (t : ℕ) (w : Outcome) → IsLegalPast v o p
    → ticket_in e.seq e.answer ≡ None → e.call ≡ call.Return t w → is_out o p t ≡ true
    → length (out o p) ≡ 1 + length (out o (e ∷ p))
length-returned v o p e t w legal no_ticket_made calls is =
    length-without (members o) (next_of o p) t (out o p) (out_tickets v o p legal) is
    ∙ ap (λ (xs : List Ticket). 1 + length xs) (sym (out-returned o p e t w no_ticket_made calls))

-- A ticket has one member.
pub on_one : (v : ℕ) (o : Opening) (p : List Entry) (t i j : ℕ) → IsLegalPast v o p
    → is_on o p t i ≡ true → is_on o p t j ≡ true → i ≡ j
on_one v o p t i j legal on_i on_j = one_member (members o) (next_of o p) t i j (made o p) (made_tickets v o p legal) on_i on_j

-- A ticket that is out has a member.
pub on_some : (o : Opening) (p : List Entry) (t : ℕ) → is_out o p t ≡ true → (m : ℕ) × (is_on o p t m ≡ true)
on_some o p t is =
    let found : (m : ℕ) × (list_any (λ x. x.0 == t && x.1 == m) (out o p) ≡ true) = some_member t (out o p) is in
    (found.0, sym (out_is_on o p t found.0 is) ∙ found.1)

stricter_with : (g r : Bool) → not (g || r) ≡ true → not r ≡ true
stricter_with true true is = is
stricter_with true false is = refl
stricter_with false r is = is

length_with : (o : Opening) (p : List Entry) (c : Call)
    → length (filter (λ (x : Ticket). not (gives_back x.0 c || is_returned x.0 p)) (made o p)) ≤ length (out o p)
length_with o p c =
    filter_fewer (λ (x : Ticket). not (gives_back x.0 c || is_returned x.0 p)) (λ (x : Ticket). not (is_returned x.0 p)) (made o p)
    (λ x. stricter_with (gives_back x.0 c) (is_returned x.0 p))

more_with : (o : Opening) (p : List Entry) (seq : ℕ) (a : Answer) (c : Call) → length (out_with o p seq a c) ≤ 1 + length (out o p)
more_with o p seq (answer.Chosen m t h probe) c =
    let rest : length (filter (λ (x : Ticket). not (gives_back x.0 c || is_returned x.0 p)) (made o p)) ≤ length (out o p) =
    length_with o p c in
    elim (not (gives_back seq c || is_returned seq p)) as (λ b.
    length (cond b ((seq, m) ∷ filter (λ (x : Ticket). not (gives_back x.0 c || is_returned x.0 p)) (made o p))
    (filter (λ (x : Ticket). not (gives_back x.0 c || is_returned x.0 p)) (made o p))) ≤ 1 + length (out o p)) [
      | true ↦ omega arith
      | false ↦ omega arith
    ]
more_with o p seq answer.NoMember c = omega (arith, length_with o p c)
more_with o p seq answer.Forced c = omega (arith, length_with o p c)
more_with o p seq answer.Done c = omega (arith, length_with o p c)

-- An entry puts at most one ticket out.
pub out_one_more : (o : Opening) (p : List Entry) (e : Entry) → length (out o (e ∷ p)) ≤ 1 + length (out o p)
out_one_more o p e = more_with o p e.seq e.answer e.call

-- One without a ticket of its own puts none out.
pub out_none_more : (o : Opening) (p : List Entry) (e : Entry) → ticket_in e.seq e.answer ≡ None
    → length (out o (e ∷ p)) ≤ length (out o p)
out_none_more o p e no_ticket_made =
    subst (λ (x : Option Ticket). length (filter (λ (y : Ticket). not (gives_back y.0 e.call || is_returned y.0 p))
    (cons_option x (filter_map (λ (y : Entry). ticket_in y.seq y.answer) p) ++ reverse o.out)) ≤ length (out o p))
    (sym no_ticket_made) (length_with o p e.call)

-- There is always a number for each Return: the next number and the tickets that are out.
room_with : (v : ℕ) (o : Opening) (p : List Entry) (e : Entry) (c : Call) → IsLegalPast v o (e ∷ p) → e.call ≡ c
    → IsAnswered v o p e c → next_of o p + length (out o p) ≤ 2 ^ 48 → next_of o (e ∷ p) + length (out o (e ∷ p)) ≤ 2 ^ 48
room_with v o p e (call.Select ask) legal calls answered before =
    let room : e.seq + length (out o p) + 2 ≤ 2 ^ 48 =
    subst (λ (c : Call). e.seq + length (out o p) + taken_by c ≤ 2 ^ 48) calls legal.0.room in
    let number : e.seq ≡ next_of o p = legal.0.number in
    let more : length (out o (e ∷ p)) ≤ 1 + length (out o p) = out_one_more o p e in
    omega arith
room_with v o p e (call.Return t w) legal calls answered before =
    let no_ticket_made : ticket_in e.seq e.answer ≡ None = ap (ticket_in e.seq) answered.2 in
    let less : length (out o p) ≡ 1 + length (out o (e ∷ p)) = length-returned v o p e t w legal.1 no_ticket_made calls answered.0 in
    omega arith
room_with v o p e call.Maintain legal calls answered before =
    let room : e.seq + length (out o p) + 1 ≤ 2 ^ 48 =
    subst (λ (c : Call). e.seq + length (out o p) + taken_by c ≤ 2 ^ 48) calls legal.0.room in
    let number : e.seq ≡ next_of o p = legal.0.number in
    let same : length (out o (e ∷ p)) ≤ length (out o p) = out_none_more o p e (ap (ticket_in e.seq) answered.1) in
    omega arith
room_with v o p e (call.Admin c) legal calls answered before =
    let room : e.seq + length (out o p) + 1 ≤ 2 ^ 48 =
    subst (λ (c : Call). e.seq + length (out o p) + taken_by c ≤ 2 ^ 48) calls legal.0.room in
    let number : e.seq ≡ next_of o p = legal.0.number in
    let same : length (out o (e ∷ p)) ≤ length (out o p) = out_none_more o p e (ap (ticket_in e.seq) answered.1) in
    omega arith

-- Before any entry the tickets that are out are the opening's.
pub out-opening : (o : Opening) → out o [] ≡ reverse o.out
out-opening o = filter_all (reverse o.out)

pub legal_room : (v : ℕ) (o : Opening) (p : List Entry) → IsLegalPast v o p → next_of o p + length (out o p) ≤ 2 ^ 48
legal_room v o [] legal =
    let count : length (out o []) ≡ length o.out = ap length (out-opening o) ∙ length-reverse o.out in
    let room : o.next + length o.out ≤ 2 ^ 48 = legal.room in
    omega arith
legal_room v o (e ∷ p) legal = room_with v o p e e.call legal refl legal.0.answered (legal_room v o p legal.1)

-- The opening of a legal history is valid.
pub legal_opening : (v : ℕ) (o : Opening) (p : List Entry) → IsLegalPast v o p → IsOpening o
legal_opening v o [] legal = legal
legal_opening v o (e ∷ p) legal = legal_opening v o p legal.1

-- The number of the next entry.
pub next-cons : (o : Opening) (p : List Entry) (e : Entry) → next_of o (e ∷ p) ≡ next_of o p + 1
next-cons o p e = omega arith
