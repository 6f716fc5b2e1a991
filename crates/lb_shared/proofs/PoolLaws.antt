-- No more tickets are out than the pools of the members have room for.
use Rattle.std.proofs.Common.{◌≡◌, ℕ, zero, suc, ◌+◌, ◌<◌, ◌≤◌, true, cond, List, [], ◌∷◌, length, take, get_or, Some, refl, sym, ap, ◌∙◌, inl, inr, arith, add-one}
use Rattle.std.specs.Prelude.{◌==◌, count_by, slice_get, sum_by}
use Rattle.std.proofs.lemmas.Bool.{cases_Bool, cases_lt, eq-eqb, eqb-true}
use Rattle.std.proofs.lemmas.List.{take_all}
use Rattle.std.proofs.lemmas.List.Sums.{sum_by-cons, sum_by_more}
use Rattle.std.proofs.lemmas.Option.{get_or_from_slice_get}
use Rattle.lb_model.specs.Journal.{members, next_of}
use Rattle.lb_model.specs.Settings.{pool_in, pool_of}
use Rattle.lb_model.specs.Tickets.{Ticket, busy_of, out}
use Rattle.lb_model.specs.Validity.{AreTickets}
use Rattle.lb_model.specs.declared.member.MemberConfig.{MemberConfig}
use Rattle.lb_model.specs.declared.opening.Opening.{Opening}
use Rattle.lb_model.proofs.BoundFacts.{busy_within}
use Rattle.lb_model.proofs.OutFacts.{out_tickets}
use Rattle.lb_book.specs.Journal.{IsSound, Journal, past_of, tickets_out}
use Rattle.lb_book.proofs.ToldLaws.{at_place}
use Rattle.lb_shared.specs.Holds.{pools_of}

-- The sum of f at the first n numbers.
abbrev pub total : (n : ℕ) (f : ℕ → ℕ) → ℕ
total zero f = 0
total (suc n) f = total n f + f n

total-le : (n : ℕ) (f g : ℕ → ℕ) → ((m : ℕ) → m < n → f m ≤ g m) → total n f ≤ total n g
total-le zero f g le = omega arith
total-le (suc n) f g le =
    let rest : total n f ≤ total n g = total-le n f g (λ m lt. le m (omega arith)) in
    let last : f n ≤ g n = le n (omega arith) in
    omega arith

total-zero : (n : ℕ) (f : ℕ → ℕ) → ((m : ℕ) → m < n → f m ≡ 0) → total n f ≡ 0
total-zero zero f none = refl
total-zero (suc n) f none =
    let rest : total n f ≡ 0 = total-zero n f (λ m lt. none m (omega arith)) in
    let last : f n ≡ 0 = none n (omega arith) in
    omega arith

total-sum : (n : ℕ) (f g h : ℕ → ℕ) → ((m : ℕ) → h m ≡ f m + g m) → total n h ≡ total n f + total n g
total-sum zero f g h is = refl
total-sum (suc n) f g h is =
    let rest : total n h ≡ total n f + total n g = total-sum n f g h is in
    let last : h n ≡ f n + g n = is n in
    omega arith

-- One number is counted at one place.
abbrev pub one_at : (k m : ℕ) → ℕ
one_at k m = cond (k == m) 1 0

one-other : (k m : ℕ) → (k ≡ m → ⊥) → one_at k m ≡ 0
one-other k m other =
    elim (cases_Bool (k == m)) [
      | inl this ↦ absurd (other (eqb-true k m this))
      | inr no_same ↦ rw no_same refl
    ]

total-one : (n k : ℕ) → k < n → total n (λ m. one_at k m) ≡ 1
total-one zero k lt = absurd (omega arith)
total-one (suc n) k lt =
    elim (cases_Bool (k == n)) [
      | inl this ↦
          let same : k ≡ n = eqb-true k n this in
          let rest : total n (λ m. one_at k m) ≡ 0 = total-zero n (λ m. one_at k m) (λ m less. one-other k m (λ is. absurd (omega arith))) in
          rw this (omega arith)
      | inr other ↦
          let below : k < n = elim (cases_lt k n) [ inl is ↦ is | inr is ↦ let same : k ≡ n = omega arith in let yes_same : (k == n) ≡ true = eq-eqb k n same in absurd cc ] in
          let rest : total n (λ m. one_at k m) ≡ 1 = total-one n k below in
          rw other (omega arith)
    ]

-- Each of the tickets is on one member.
tickets-total : (n next : ℕ) (xs : List Ticket) → AreTickets n next xs → length xs ≡ total n (λ m. count_by (λ (x : Ticket). x.1 == m) xs)
tickets-total n next [] are = sym (total-zero n (λ m. count_by (λ (x : Ticket). x.1 == m) []) (λ m lt. refl))
tickets-total n next (x ∷ xs) are =
    let rest : length xs ≡ total n (λ m. count_by (λ (y : Ticket). y.1 == m) xs) = tickets-total n x.0 xs are.2 in
    let one : total n (λ m. one_at x.1 m) ≡ 1 = total-one n x.1 are.1 in
    let both : total n (λ m. count_by (λ (y : Ticket). y.1 == m) (x ∷ xs)) ≡ total n (λ m. one_at x.1 m) + total n (λ m. count_by (λ (y : Ticket). y.1 == m) xs) =
    total-sum n (λ m. one_at x.1 m) (λ m. count_by (λ (y : Ticket). y.1 == m) xs) (λ m. count_by (λ (y : Ticket). y.1 == m) (x ∷ xs))
    (λ m. sum_by-cons (λ (y : Ticket). one_at y.1 m) x xs) in
    omega arith

-- The pools, member by member.
pools-upto : (ms : List MemberConfig) (n : ℕ) → n ≤ length ms → total n (λ m. pool_in (slice_get ms m)) ≡ sum_by (λ c. c.pool) (take n ms)
pools-upto ms zero le = refl
pools-upto ms (suc n) le =
    let at : (c : MemberConfig) × (slice_get ms n ≡ Some c) = at_place ms n (omega arith) in
    let rest : total n (λ m. pool_in (slice_get ms m)) ≡ sum_by (λ c. c.pool) (take n ms) = pools-upto ms n (omega arith) in
    let here : pool_in (slice_get ms n) ≡ at.0.pool = ap pool_in at.1 in
    let there : (get_or ms n at.0).pool ≡ at.0.pool = ap (λ (c : MemberConfig). c.pool) (get_or_from_slice_get ms n at.0 at.0 at.1) in
    let more : sum_by (λ (c : MemberConfig). c.pool) (take (n + 1) ms) ≡ sum_by (λ (c : MemberConfig). c.pool) (take n ms) + (get_or ms n at.0).pool =
    sum_by_more (λ (c : MemberConfig). c.pool) ms n at.0 (omega arith) in
    rw (← add-one n) (omega arith)

pub pools-total : (o : Opening) → total (members o) (λ m. pool_of o m) ≡ sum_by (λ c. c.pool) o.config.members
pools-total o =
    pools-upto o.config.members (length o.config.members) (omega arith)
    ∙ ap (λ (ms : List MemberConfig). sum_by (λ (c : MemberConfig). c.pool) ms) (take_all (length o.config.members) o.config.members (omega arith))

pub out-pools : (b : Journal) → IsSound b → tickets_out b ≤ pools_of b
out-pools b sound =
    let each : total (members b.opening) (λ m. busy_of b.opening (past_of b) m) ≤ total (members b.opening) (λ m. pool_of b.opening m) =
    total-le (members b.opening) (λ m. busy_of b.opening (past_of b) m) (λ m. pool_of b.opening m)
    (λ m lt. busy_within b.rules b.opening (past_of b) m sound lt) in
    let all : tickets_out b ≡ total (members b.opening) (λ m. busy_of b.opening (past_of b) m) =
    tickets-total (members b.opening) (next_of b.opening (past_of b)) (out b.opening (past_of b))
    (out_tickets b.rules b.opening (past_of b) sound) in
    let pools : total (members b.opening) (λ m. pool_of b.opening m) ≡ pools_of b = pools-total b.opening in
    omega arith
