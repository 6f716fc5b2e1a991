-- A ticket is out from the entry that makes it to its Return, and what an epoch gave, told over the whole history.
use Rattle.std.proofs.Common.{◌≡◌, ℕ, ◌+◌, ◌*◌, ◌/◌, ◌<◌, ◌≤◌, ◌^◌, Bool, true, false, ◌&&◌, ◌||◌, not, cond, List, [], ◌∷◌, ◌++◌, reverse, Option, refl, sym, ap, ◌∙◌, inl, inr, eq-eqb, arith}
use Rattle.std.specs.Prelude.{◌==◌, sum_by}
use Rattle.std.specs.List.{cons_option, filter_map, list_any}
use Rattle.std.proofs.lemmas.Bool.{and_parts, cases_Bool, eqb-true}
use Rattle.std.proofs.lemmas.List.Folds.{list_any-append}
use Rattle.std.proofs.lemmas.List.Sums.{sum_by-cons}
use Rattle.std.proofs.lemmas.Map.Views.{any-filter_same}
use Rattle.std.proofs.lemmas.Nat.{pow-add, pow_pos, le-div}
use Rattle.std.proofs.Math.Nat.{div-div-eq-div-mul, div-mul-le_self}
use Rattle.lb_model.proofs.OutFacts.{out-chosen, out_below, returned_below}
use Rattle.lb_model.specs.Journal.{next_of}
use Rattle.lb_model.specs.Laws.{BeginsTicket}
use Rattle.lb_model.specs.Legal.{IsAnswered, IsLegalPast}
use Rattle.lb_model.specs.Loads.{epoch, halved, is_cut, units_by, units_of, units_returned}
use Rattle.lb_model.specs.Tickets.{Ticket, gives_back, is_on, is_out, is_returned, made, ticket_in}
use Rattle.lb_model.specs.declared.ask.Ask.{Ask}
use Rattle.lb_model.specs.declared.journal.Answer.{Answer}
use Rattle.lb_model.specs.declared.journal.Answer.TheVariants as answer
use Rattle.lb_model.specs.declared.journal.Call.{Call}
use Rattle.lb_model.specs.declared.journal.Call.TheVariants as call
use Rattle.lb_model.specs.declared.journal.Entry.{Entry}
use Rattle.lb_model.specs.declared.journal.How.{How}
use Rattle.lb_model.specs.declared.opening.Opening.{Opening}

-- Ticket t was made by an entry, or was out at the opening.
abbrev pub is_made : Opening → List Entry → ℕ → Bool
is_made o p t = list_any (λ x. x.0 == t) (made o p)

-- A ticket is out exactly where it was made and didn't come back.
pub out-is : (o : Opening) (p : List Entry) (t : ℕ) → is_out o p t ≡ (not (is_returned t p) && is_made o p t)
out-is o p t =
    any-filter_same (λ (x : Ticket). x.0 == t) (λ (x : Ticket). not (is_returned x.0 p)) (not (is_returned t p))
    (λ x this. ap (λ (k : ℕ). not (is_returned k p)) (eqb-true x.0 t this)) (made o p)

-- Only a Select chooses.
chosen_by : (v : ℕ) (o : Opening) (p : List Entry) (e : Entry) (c : Call) (m t : ℕ) (h : How) (probe : Bool)
    → IsAnswered v o p e c → e.answer ≡ answer.Chosen m t h probe → (ask : Ask) × (c ≡ call.Select ask)
chosen_by v o p e (call.Select ask) m t h probe answered is = (ask, refl)
chosen_by v o p e (call.Return u w) m t h probe answered is = let done : e.answer ≡ answer.Done = answered.2 in absurd cc
chosen_by v o p e call.Maintain m t h probe answered is = let done : e.answer ≡ answer.Done = answered.1 in absurd cc
chosen_by v o p e (call.Admin c) m t h probe answered is = let done : e.answer ≡ answer.Done = answered.1 in absurd cc

pub chosen_select : (v : ℕ) (o : Opening) (p : List Entry) (e : Entry) (m t : ℕ) (h : How) (probe : Bool)
    → IsLegalPast v o (e ∷ p) → e.answer ≡ answer.Chosen m t h probe → (ask : Ask) × (e.call ≡ call.Select ask)
chosen_select v o p e m t h probe legal is = chosen_by v o p e e.call m t h probe legal.0.answered is

-- Before the entry that makes it the ticket isn't out, and after it it is.
pub not_out_before : (v : ℕ) (o : Opening) (p : List Entry) (e : Entry) → IsLegalPast v o (e ∷ p) → is_out o p e.seq ≡ false
not_out_before v o p e legal =
    let number : e.seq ≡ next_of o p = legal.0.number in
    elim (cases_Bool (is_out o p e.seq)) [
      | inl is ↦ let below : e.seq < next_of o p = out_below v o p e.seq legal.1 is in absurd (omega arith)
      | inr is ↦ is
    ]

pub out_after : (v : ℕ) (o : Opening) (p : List Entry) (e : Entry) (m t : ℕ) (h : How) (probe : Bool)
    → IsLegalPast v o (e ∷ p) → e.answer ≡ answer.Chosen m t h probe → is_out o (e ∷ p) e.seq ≡ true
out_after v o p e m t h probe legal is =
    let select : (ask : Ask) × (e.call ≡ call.Select ask) = chosen_select v o p e m t h probe legal is in
    ap (λ (xs : List Ticket). list_any (λ x. x.0 == e.seq) xs)
    (out-chosen v o p e select.0 m t h probe legal.1 legal.0.number select.1 is)
    ∙ rw (eq-eqb e.seq e.seq refl) refl

made_more : (o : Opening) (p : List Entry) (seq : ℕ) (a : Answer) (t : ℕ) → is_made o p t ≡ true
    → list_any (λ x. x.0 == t) (cons_option (ticket_in seq a) (filter_map (λ (x : Entry). ticket_in x.seq x.answer) p) ++ reverse o.out) ≡ true
made_more o p seq (answer.Chosen m u h probe) t is = rw is (elim (seq == t) as (λ b. (b || true) ≡ true) [ true ↦ refl | false ↦ refl ])
made_more o p seq answer.NoMember t is = is
made_more o p seq answer.Forced t is = is
made_more o p seq answer.Done t is = is

-- It stays out through every entry that doesn't return it.
pub stays_out : (o : Opening) (p : List Entry) (e : Entry) (t : ℕ) → is_out o p t ≡ true → gives_back t e.call ≡ false
    → is_out o (e ∷ p) t ≡ true
stays_out o p e t is other =
    let both : (not (is_returned t p) ≡ true) × (is_made o p t ≡ true) =
    and_parts (not (is_returned t p)) (is_made o p t) (sym (out-is o p t) ∙ is) in
    out-is o (e ∷ p) t ∙ rw (other, both.0, made_more o p e.seq e.answer t both.1) refl

-- After its Return it is never out again.
pub not_out_again : (o : Opening) (later : List Entry) (e : Entry) (p : List Entry) (t : ℕ) → gives_back t e.call ≡ true
    → is_out o (later ++ e ∷ p) t ≡ false
not_out_again o later e p t this =
    let back : is_returned t (later ++ e ∷ p) ≡ true =
    list_any-append (λ (x : Entry). gives_back t x.call) later (e ∷ p)
    ∙ rw this (elim (is_returned t later) as (λ b. (b || true) ≡ true) [ true ↦ refl | false ↦ refl ]) in
    out-is o (later ++ e ∷ p) t ∙ rw back refl

-- The units of an entry, judged by a later history, where its ticket isn't the newer entry's.
on_with : (o : Opening) (p : List Entry) (e : Entry) (a : Answer) (t m : ℕ) → (e.seq == t) ≡ false
    → list_any (λ x. (x.0 == t) && (x.1 == m)) (cons_option (ticket_in e.seq a) (filter_map (λ (x : Entry). ticket_in x.seq x.answer) p) ++ reverse o.out) ≡ is_on o p t m
on_with o p e (answer.Chosen j u h probe) t m other = rw other refl
on_with o p e answer.NoMember t m other = refl
on_with o p e answer.Forced t m other = refl
on_with o p e answer.Done t m other = refl

units_with : (o : Opening) (p : List Entry) (e x : Entry) (c : Call) (m : ℕ)
    → ((t : ℕ) → gives_back t c ≡ true → (e.seq == t) ≡ false) → units_by o (e ∷ p) x c m ≡ units_by o p x c m
units_with o p e x (call.Select ask) m other = refl
units_with o p e x (call.Return t w) m other =
    ap (λ (b : Bool). cond b (units_returned o.config.method w.bytes) 0) (on_with o p e e.answer t m (other t (eq-eqb t t refl)))
units_with o p e x call.Maintain m other = refl
units_with o p e x (call.Admin c) m other = refl

-- The sum of what the entries of an epoch gave, judged by the whole history p.
sum_with : (o : Opening) (p : List Entry) (e : Entry) (m : ℕ) (q : List Entry)
    → ((t : ℕ) → is_returned t q ≡ true → (e.seq == t) ≡ false)
    → sum_by (λ (x : Entry). units_by o (e ∷ p) x x.call m) (epoch q) ≡ sum_by (λ (x : Entry). units_by o p x x.call m) (epoch q)
sum_with o p e m [] other = refl
sum_with o p e m (x ∷ q) other =
    elim (cases_Bool (is_cut x.call)) [
      | inl cuts ↦ rw cuts refl
      | inr not_cut ↦
          let first : units_by o (e ∷ p) x x.call m ≡ units_by o p x x.call m =
          units_with o p e x x.call m (λ t this. other t (rw this refl)) in
          let rest : sum_by (λ (y : Entry). units_by o (e ∷ p) y y.call m) (epoch q) ≡ sum_by (λ (y : Entry). units_by o p y y.call m) (epoch q) =
          sum_with o p e m q (λ t back. other t (rw back (elim (gives_back t x.call) as (λ b. (b || true) ≡ true) [ true ↦ refl | false ↦ refl ]))) in
          rw (not_cut, sum_by-cons (λ (y : Entry). units_by o (e ∷ p) y y.call m) x (epoch q), sum_by-cons (λ (y : Entry). units_by o p y y.call m) x (epoch q)) (omega (arith, first, rest))
    ]

not_returned_number : (v : ℕ) (o : Opening) (p : List Entry) (e : Entry) (t : ℕ) → IsLegalPast v o (e ∷ p)
    → is_returned t p ≡ true → (e.seq == t) ≡ false
not_returned_number v o p e t legal back =
    let number : e.seq ≡ next_of o p = legal.0.number in
    let below : t < next_of o p = returned_below v o p t legal.1 back in
    elim (cases_Bool (e.seq == t)) [
      | inl same ↦ let equal : e.seq ≡ t = eqb-true e.seq t same in absurd (omega arith)
      | inr differs ↦ differs
    ]

-- A Return doesn't give back the ticket of its own entry, which none has.
own_units : (v : ℕ) (o : Opening) (p : List Entry) (e : Entry) (c : Call) (m : ℕ) → IsLegalPast v o (e ∷ p) → IsAnswered v o p e c
    → units_by o (e ∷ p) e c m ≡ units_by o p e c m
own_units v o p e (call.Select ask) m legal answered = refl
own_units v o p e (call.Return t w) m legal answered =
    ap (λ (b : Bool). cond b (units_returned o.config.method w.bytes) 0)
    (ap (λ (x : Option Ticket). list_any (λ y. (y.0 == t) && (y.1 == m)) (cons_option x (filter_map (λ (y : Entry). ticket_in y.seq y.answer) p) ++ reverse o.out))
    (ap (ticket_in e.seq) answered.2))
own_units v o p e call.Maintain m legal answered = refl
own_units v o p e (call.Admin c) m legal answered = refl

-- The units of the present epoch for member m are the sum of those of its entries, each judged by the whole history.
pub units-epoch : (v : ℕ) (o : Opening) (p : List Entry) (m : ℕ) → IsLegalPast v o p
    → units_of o p m ≡ sum_by (λ (x : Entry). units_by o p x x.call m) (epoch p)
units-epoch v o [] m legal = refl
units-epoch v o (e ∷ p) m legal =
    elim (cases_Bool (is_cut e.call)) [
      | inl cuts ↦ rw cuts refl
      | inr not_cut ↦
          let before : units_of o p m ≡ sum_by (λ (x : Entry). units_by o p x x.call m) (epoch p) = units-epoch v o p m legal.1 in
          let rest : sum_by (λ (x : Entry). units_by o (e ∷ p) x x.call m) (epoch p) ≡ sum_by (λ (x : Entry). units_by o p x x.call m) (epoch p) =
          sum_with o p e m p (λ t back. not_returned_number v o p e t legal back) in
          let own : units_by o (e ∷ p) e e.call m ≡ units_by o p e e.call m = own_units v o p e e.call m legal legal.0.answered in
          rw (not_cut, sum_by-cons (λ (x : Entry). units_by o (e ∷ p) x x.call m) e (epoch p)) (omega (arith, before, rest, own))
    ]

-- Halving i times and then j times is halving i + j times.
pub halved-twice : (x i j : ℕ) → halved (halved x i) j ≡ halved x (i + j)
halved-twice x i j = div-div-eq-div-mul x (2 ^ i) (2 ^ j) ∙ ap (λ (d : ℕ). x / d) (sym (pow-add 2 i j))

-- Halving keeps order.
pub halved-order : (x y k : ℕ) → x ≤ y → halved x k ≤ halved y k
halved-order x y k le =
    let down : x / 2 ^ k * 2 ^ k ≤ x = div-mul-le_self x (2 ^ k) in
    le-div (x / 2 ^ k) y (2 ^ k) (pow_pos k) (omega arith)

pub begins_ticket : (v : ℕ) (o : Opening) (p : List Entry) (e : Entry) (m t : ℕ) (h : How) (probe : Bool)
    → IsLegalPast v o (e ∷ p) → e.answer ≡ answer.Chosen m t h probe → BeginsTicket o p e m
begins_ticket v o p e m t h probe legal is = record {
  before = not_out_before v o p e legal;
  after = out_after v o p e m t h probe legal is;
  member =
      ap (λ (a : Answer). list_any (λ x. (x.0 == e.seq) && (x.1 == m)) (cons_option (ticket_in e.seq a) (filter_map (λ (x : Entry). ticket_in x.seq x.answer) p) ++ reverse o.out)) is
      ∙ rw (eq-eqb e.seq e.seq refl, eq-eqb m m refl) refl;
}
