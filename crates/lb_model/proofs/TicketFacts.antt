-- Lists of tickets, newest first: each number stands once.
use Rattle.std.proofs.Common.{◌≡◌, ℕ, ◌+◌, ◌<◌, ◌≤◌, Bool, true, false, ◌&&◌, ◌||◌, not, cond, List, [], ◌∷◌, ◌++◌, length, refl, sym, inl, inr, arith}
use Rattle.std.specs.Prelude.{◌==◌}
use Rattle.std.specs.List.{list_any, filter, count_by}
use Rattle.std.proofs.lemmas.Bool.Decides.{nat_tests}
use Rattle.std.proofs.lemmas.Bool.{cases_Bool, eqb-true}
use Rattle.std.proofs.Common.{ap, eq-eqb, reverse, take, drop, get_or, sym, subst, ◌∙◌}
use Rattle.std.proofs.lemmas.List.{take_more, take-append-drop, reverse-append}
use Rattle.lb_model.proofs.ListFacts.{reverse_snoc}
use Rattle.lb_model.proofs.ListFacts.{count_by-cons}
use Rattle.lb_model.specs.Tickets.{Ticket}
use Rattle.lb_model.specs.Validity.{AreTickets}

pub AreTickets-weaken : (n a b : ℕ) (xs : List Ticket) → a ≤ b → AreTickets n a xs → AreTickets n b xs
AreTickets-weaken n a b [] le are = tt
AreTickets-weaken n a b (x ∷ xs) le are = (omega (arith, are.0), are.1, are.2)

pub AreTickets-filter : (n next : ℕ) (p : Ticket → Bool) (xs : List Ticket) → AreTickets n next xs → AreTickets n next (filter p xs)
AreTickets-filter n next p [] are = tt
AreTickets-filter n next p (x ∷ xs) are =
    let rest : AreTickets n x.0 (filter p xs) = AreTickets-filter n x.0 p xs are.2 in
    let first : x.0 < next = are.0 in
    elim (p x) as (λ b. AreTickets n next (cond b (x ∷ filter p xs) (filter p xs))) [
      | true ↦ (are.0, are.1, rest)
      | false ↦ AreTickets-weaken n x.0 next (filter p xs) (omega arith) rest
    ]

below_either : (a t next : ℕ) (b : Bool) → a < next → (b ≡ true → t < a) → (a == t || b) ≡ true → t < next
below_either a t next b = grind (arith, nat_tests)

-- A ticket of the list is below the number that all are below.
pub ticket_below : (n next t : ℕ) (xs : List Ticket) → AreTickets n next xs → list_any (λ x. x.0 == t) xs ≡ true → t < next
ticket_below n next t [] are any = cc
ticket_below n next t (x ∷ xs) are any =
    below_either x.0 t next (list_any (λ y. y.0 == t) xs) are.0 (ticket_below n x.0 t xs are.2) any

-- A number that isn't below another isn't among the tickets below that.
pub ticket_absent : (n next t : ℕ) (xs : List Ticket) → AreTickets n next xs → next ≤ t
    → filter (λ x. not (x.0 == t)) xs ≡ xs
ticket_absent n next t [] are le = refl
ticket_absent n next t (x ∷ xs) are le =
    let first : x.0 < next = are.0 in
    let other : (x.0 == t) ≡ false = grind (arith, nat_tests) in
    let rest : filter (λ y. not (y.0 == t)) xs ≡ xs = ticket_absent n x.0 t xs are.2 (omega arith) in
    rw other (ap (λ (ys : List Ticket). x ∷ ys) rest)

pub no_ticket : (n next t : ℕ) (q : Ticket → Bool) (xs : List Ticket) → AreTickets n next xs → next ≤ t
    → list_any (λ x. x.0 == t && q x) xs ≡ false
no_ticket n next t q [] are le = refl
no_ticket n next t q (x ∷ xs) are le =
    let first : x.0 < next = are.0 in
    let other : (x.0 == t) ≡ false = grind (arith, nat_tests) in
    let rest : list_any (λ y. y.0 == t && q y) xs ≡ false = no_ticket n x.0 t q xs are.2 (omega arith) in
    rw other rest

-- Without ticket t there is one less of what it was.
pub count_by-without : (n next t : ℕ) (q : Ticket → Bool) (xs : List Ticket) → AreTickets n next xs
    → count_by q xs ≡ cond (list_any (λ x. x.0 == t && q x) xs) 1 0 + count_by q (filter (λ x. not (x.0 == t)) xs)
count_by-without n next t q [] are = refl
count_by-without n next t q (x ∷ xs) are =
    elim (cases_Bool (x.0 == t)) [
      | inl this ↦
          let same : x.0 ≡ t = eqb-true x.0 t this in
          let gone : list_any (λ y. y.0 == t && q y) xs ≡ false = no_ticket n x.0 t q xs are.2 (omega arith) in
          let kept : filter (λ y. not (y.0 == t)) xs ≡ xs = ticket_absent n x.0 t xs are.2 (omega arith) in
          rw (count_by-cons, this, gone, kept) (elim (q x) as (λ b. cond b 1 0 + count_by q xs ≡ cond (b || false) 1 0 + count_by q xs) [ true ↦ refl | false ↦ refl ])
      | inr other ↦
          let rest : count_by q xs ≡ cond (list_any (λ y. y.0 == t && q y) xs) 1 0 + count_by q (filter (λ y. not (y.0 == t)) xs) =
          count_by-without n x.0 t q xs are.2 in
          rw (count_by-cons q x xs, other, count_by-cons q x (filter (λ y. not (y.0 == t)) xs)) (omega (arith, rest))
    ]

either_member : (a i j x t : ℕ) (b c : Bool) → (b ≡ true → c ≡ true → i ≡ j) → (b ≡ true → x ≡ t → ⊥) → (c ≡ true → x ≡ t → ⊥)
    → ((x == t && a == i) || b) ≡ true → ((x == t && a == j) || c) ≡ true → i ≡ j
either_member a i j x t b c both none_i none_j = grind (arith, nat_tests)

-- A ticket has one member.
pub one_member : (n next t i j : ℕ) (xs : List Ticket) → AreTickets n next xs
    → list_any (λ x. x.0 == t && x.1 == i) xs ≡ true → list_any (λ x. x.0 == t && x.1 == j) xs ≡ true → i ≡ j
one_member n next t i j [] are on_i on_j = cc
one_member n next t i j (x ∷ xs) are on_i on_j =
    either_member x.1 i j x.0 t (list_any (λ y. y.0 == t && y.1 == i) xs) (list_any (λ y. y.0 == t && y.1 == j) xs)
    (one_member n x.0 t i j xs are.2)
    (λ any same. let none : list_any (λ y. y.0 == t && y.1 == i) xs ≡ false = no_ticket n x.0 t (λ y. y.1 == i) xs are.2 (omega arith) in cc)
    (λ any same. let none : list_any (λ y. y.0 == t && y.1 == j) xs ≡ false = no_ticket n x.0 t (λ y. y.1 == j) xs are.2 (omega arith) in cc)
    on_i on_j

-- A ticket of the list has a member.
pub some_member : (t : ℕ) (xs : List Ticket) → list_any (λ x. x.0 == t) xs ≡ true
    → (m : ℕ) × (list_any (λ x. x.0 == t && x.1 == m) xs ≡ true)
some_member t [] any = absurd cc
some_member t (x ∷ xs) any =
    elim (cases_Bool (x.0 == t)) [
      | inl this ↦ (x.1, rw (this, eq-eqb x.1 x.1 refl) refl)
      | inr other ↦
          let rest : list_any (λ y. y.0 == t) xs ≡ true = rw other at any in
          let found : (m : ℕ) × (list_any (λ y. y.0 == t && y.1 == m) xs ≡ true) = some_member t xs rest in
          (found.0, rw other found.1)
    ]

-- Without a ticket of the list there is one less.
pub length-without : (n next t : ℕ) (xs : List Ticket) → AreTickets n next xs → list_any (λ x. x.0 == t) xs ≡ true
    → length xs ≡ 1 + length (filter (λ x. not (x.0 == t)) xs)
length-without n next t [] are any = absurd cc
length-without n next t (x ∷ xs) are any =
    elim (cases_Bool (x.0 == t)) [
      | inl this ↦
          let same : x.0 ≡ t = eqb-true x.0 t this in
          let kept : filter (λ y. not (y.0 == t)) xs ≡ xs = ticket_absent n x.0 t xs are.2 (omega arith) in
          rw (this, kept) (omega arith)
      | inr other ↦
          let rest : length xs ≡ 1 + length (filter (λ y. not (y.0 == t)) xs) = length-without n x.0 t xs are.2 (rw other at any) in
          rw other (omega (arith, rest))
    ]

-- The older end of a longer list of tickets is one too.
pub AreTickets-suffix : (n next : ℕ) (xs ys : List Ticket) → AreTickets n next (xs ++ ys) → AreTickets n next ys
AreTickets-suffix n next [] ys are = are
AreTickets-suffix n next (x ∷ xs) ys are =
    let first : x.0 < next = are.0 in
    AreTickets-weaken n x.0 next ys (omega arith) (AreTickets-suffix n x.0 xs ys are.2)

pub reverse_more : (xs : List Ticket) (i : ℕ) (d : Ticket) → i < length xs
    → reverse (take (i + 1) xs) ≡ get_or xs i d ∷ reverse (take i xs)
reverse_more xs i d lt = ap reverse (take_more xs i d lt) ∙ reverse_snoc (take i xs) (get_or xs i d)

-- One ticket more, oldest first.
pub AreTickets-more : (n from i : ℕ) (xs : List Ticket) (d : Ticket) → i < length xs
    → from ≤ (get_or xs i d).0 → (get_or xs i d).1 < n
    → AreTickets n from (reverse (take i xs)) → AreTickets n ((get_or xs i d).0 + 1) (reverse (take (i + 1) xs))
AreTickets-more n from i xs d lt le on are =
    rw (reverse_more xs i d lt) (omega arith, on, AreTickets-weaken n from (get_or xs i d).0 (reverse (take i xs)) le are)

-- No smaller number is above them.
pub AreTickets-least : (n k i : ℕ) (xs : List Ticket) (d : Ticket) → i < length xs
    → AreTickets n k (reverse (take (i + 1) xs)) → (get_or xs i d).0 + 1 ≤ k
AreTickets-least n k i xs d lt are =
    let first : AreTickets n k (get_or xs i d ∷ reverse (take i xs)) = rw (reverse_more xs i d lt) at are in
    omega (arith, first.0)

-- One ticket of a list, and those before it.
pub AreTickets-at : (n next i : ℕ) (xs : List Ticket) (d : Ticket) → i < length xs
    → AreTickets n next (reverse xs) → AreTickets n next (get_or xs i d ∷ reverse (take i xs))
AreTickets-at n next i xs d lt are =
    let parts : reverse xs ≡ reverse (drop (i + 1) xs) ++ reverse (take (i + 1) xs) =
    ap reverse (sym (take-append-drop (i + 1) xs)) ∙ reverse-append (take (i + 1) xs) (drop (i + 1) xs) in
    let front : AreTickets n next (reverse (take (i + 1) xs)) =
    AreTickets-suffix n next (reverse (drop (i + 1) xs)) (reverse (take (i + 1) xs))
    (subst (λ (ys : List Ticket). AreTickets n next ys) parts are) in
    subst (λ (ys : List Ticket). AreTickets n next ys) (reverse_more xs i d lt) front
