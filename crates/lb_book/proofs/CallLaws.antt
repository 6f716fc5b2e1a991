-- A call that neither makes a ticket nor returns one, over what a Book keeps; and tables over all members.
use Rattle.std.proofs.Common.{◌≡◌, ℕ, zero, suc, ◌+◌, ◌<◌, ◌≤◌, max, false, List, [], ◌∷◌, ◌++◌, length, reverse, Option, None, refl, sym, ◌∙◌, ap, subst, arith, add-one}
use Rattle.std.proofs.lemmas.List.{length_push}
use Rattle.lb_model.specs.Journal.{each}
use Rattle.lb_model.specs.Loads.{greatest, load_by}
use Rattle.lb_model.specs.Legal.{IsLegalPast, IsNext}
use Rattle.lb_model.specs.Tickets.{gives_back, out, ticket_in}
use Rattle.lb_model.proofs.ListFacts.{reverse_snoc}
use Rattle.lb_model.proofs.OutFacts.{out_none_more}
use Rattle.lb_model.specs.declared.journal.Entry.{Entry}
use Rattle.lb_model.specs.declared.member.Method.{Method}
use Rattle.lb_model.specs.declared.opening.Opening.{Opening}
use Rattle.lb_book.specs.declared.present.Present.{Present}
use Rattle.lb_rules.specs.Returns.{AreReturns}
use Rattle.lb_book.specs.Kept.{IsKept, IsNow}
use Rattle.lb_book.proofs.ReturnLaws.{returns-pushed}

pub each-agree : {A : Type 0} (n : ℕ) (f g : ℕ → A) → ((j : ℕ) → j < n → f j ≡ g j) → each n f ≡ each n g
each-agree zero f g same = refl
each-agree (suc n) f g same =
    ap (λ (xs : List _). xs ++ f n ∷ []) (each-agree n f g (λ j lt. same j (omega arith)))
    ∙ ap (λ (x : _). each n g ++ x ∷ []) (same n (omega arith))

pub greatest-agree : (n : ℕ) (f g : ℕ → ℕ) → ((j : ℕ) → j < n → f j ≡ g j) → greatest n f ≡ greatest n g
greatest-agree zero f g same = refl
greatest-agree (suc n) f g same =
    let rest : greatest n f ≡ greatest n g = greatest-agree n f g (λ j lt. same j (omega arith)) in
    let last : f n ≡ g n = same n (omega arith) in
    rw (rest, last) refl

-- One value more.
pub greatest-more : (n : ℕ) (f : ℕ → ℕ) (old new here : ℕ) → old ≡ greatest n f → new ≡ max old here → here ≡ f n → new ≡ greatest (n + 1) f
greatest-more n f old new here is step at =
    let both : max old here ≡ max (greatest n f) (f n) = rw (is, at) refl in
    step ∙ both ∙ ap (λ (k : ℕ). greatest k f) (sym (add-one n))

pub greatest_below : (n : ℕ) (f : ℕ → ℕ) (b : ℕ) → ((j : ℕ) → j < n → f j ≤ b) → greatest n f ≤ b
greatest_below zero f b below = omega arith
greatest_below (suc n) f b below =
    let rest : greatest n f ≤ b = greatest_below n f b (λ j lt. below j (omega arith)) in
    let last : f n ≤ b = below n (omega arith) in
    omega arith

-- A bound of what runs and of what is kept.
pub light-by : (method : Method) (running kept bound : ℕ) → running ≤ bound → kept ≤ bound → load_by method running kept ≤ bound
light-by Method.Request running kept bound le le' = le'
light-by Method.Session running kept bound le le' = le'
light-by Method.Traffic running kept bound le le' = le'
light-by Method.Busyness running kept bound le le' = le

-- After an entry that is answered without a ticket, and returns none.
pub kept-called : (v : ℕ) (o : Opening) (h : List Entry) (now new : Present) (kept early : List (Option ℕ)) (added c r c' r' : ℕ) (e : Entry)
    → IsKept v o h now kept early added c r → IsNext v o (reverse h) e → IsNow v o (e ∷ reverse h) new
    → ticket_in e.seq e.answer ≡ None → ((t : ℕ) → gives_back t e.call ≡ false)
    → length h + (length (out o (reverse h)) + 1) ≤ c' → length h + (length (out o (reverse h)) + 1) ≤ r'
    → IsKept v o (h ++ e ∷ []) new (kept ++ None ∷ []) early (added + 1) c' r'
kept-called v o h now new kept early added c r c' r' e is next present no_ticket_made returns_none fits fits' =
    let p : List Entry = reverse h in
    let past : reverse (h ++ e ∷ []) ≡ e ∷ p = reverse_snoc h e in
    let same : length (out o (e ∷ p)) ≤ length (out o p) = out_none_more o p e no_ticket_made in
    record {
      legal = subst (λ (q : List Entry). IsLegalPast v o q) (sym past) (next, is.legal);
      present = subst (λ (q : List Entry). IsNow v o q new) (sym past) present;
      returns = subst (λ (q : List Entry). AreReturns o q (kept ++ None ∷ []) early) (sym past)
          (returns-pushed v o p e kept early is.legal is.returns returns_none);
      room = subst (λ (q : List Entry). length (h ++ e ∷ []) + length (out o q) ≤ c') (sym past) (omega (arith, length_push h e, same, fits));
      returns_room = subst (λ (q : List Entry). length (h ++ e ∷ []) + length (out o q) ≤ r') (sym past) (omega (arith, length_push h e, same, fits'));
      counted = omega (arith, is.counted, length_push h e);
    }
