-- The chosen member, by the tests that it passes: usable, serving or revivable.
use Rattle.std.proofs.Common.{◌≡◌, ℕ, suc, zero, ◌<◌, Bool, true, false, ◌&&◌, ◌||◌, not, List, ◌⊎◌, Option, Some, None, refl, subst, inl, inr, arith}
use Rattle.std.specs.Prelude.{◌==◌}
use Rattle.std.proofs.lemmas.Bool.{and_parts, cases_Bool, cases_lt, eqb-true}
use Rattle.std.proofs.lemmas.Bool.Decides.{nat_tests}
use Rattle.lb_model.proofs.OutFacts.{same_first}
use Rattle.lb_model.specs.Choice.{IsChosen, any_usable, is_candidate, is_revivable, is_usable, redirected, routed, routed_choice, routed_member, serves}
use Rattle.lb_model.specs.Free.{has_room, is_error, is_ready, is_free_by, is_usable_by, serves_by, is_revivable_by, is_active, is_stopped, is_in}
use Rattle.lb_model.specs.Journal.{any_of}
use Rattle.lb_model.specs.Settings.{pool_of, redirect_of}
use Rattle.lb_model.specs.States.{counted_of, state_of}
use Rattle.lb_model.specs.Tickets.{busy_of}
use Rattle.lb_model.specs.declared.ask.Ask.{Ask}
use Rattle.lb_model.specs.declared.journal.Entry.{Entry}
use Rattle.lb_model.specs.declared.journal.How.{How}
use Rattle.lb_model.specs.declared.journal.How.TheVariants as how
use Rattle.lb_model.specs.declared.member.Activation.{Activation}
use Rattle.lb_model.specs.declared.opening.Opening.{Opening}
use Rattle.lb_model.specs.declared.state.MemberState.{MemberState}

neither : (a b : Bool) → (a || b) ≡ false → (a ≡ false) × (b ≡ false)
neither true b is = absurd cc
neither false b is = (refl, is)

-- No number of the first n passes.
pub none_of : (n : ℕ) (test : ℕ → Bool) → any_of n test ≡ false → (j : ℕ) → j < n → test j ≡ false
none_of zero test none j lt = absurd (omega arith)
none_of (suc n) test none j lt =
    let both : (any_of n test ≡ false) × (test n ≡ false) = neither (any_of n test) (test n) none in
    elim (cases_lt j n) [
      | inl below ↦ none_of n test both.0 j below
      | inr above ↦ let last : j ≡ n = omega arith in rw last both.1
    ]

pub some_of : (n : ℕ) (test : ℕ → Bool) (j : ℕ) → j < n → test j ≡ true → any_of n test ≡ true
some_of zero test j lt passes = absurd (omega arith)
some_of (suc n) test j lt passes =
    elim (cases_lt j n) [
      | inl below ↦ rw (some_of n test j below passes) refl
      | inr above ↦
          let last : j ≡ n = omega arith in
          let here : test n ≡ true = rw last at passes in
          rw here (elim (any_of n test) as (λ b. (b || true) ≡ true) [ true ↦ refl | false ↦ refl ])
    ]

-- The tests of a member, each by its parts.
pub record IsRoomy (tried : Bool) (busy pool : ℕ) : Type 0 where
  pub untried : tried ≡ false
  pub room : busy < pool

pub roomy : (tried : Bool) (busy pool : ℕ) → has_room tried busy pool ≡ true → IsRoomy tried busy pool
roomy true busy pool has = cc
roomy false busy pool has =
    let room : busy < pool = grind (arith, nat_tests) in
    record { untried = refl; room = room }

pub record IsUsable (s : MemberState) (counted : Activation) (tried : Bool) (busy pool : ℕ) : Type 0 where
  pub ready : is_ready s ≡ true
  pub active : is_active counted ≡ true
  pub roomy : IsRoomy tried busy pool

pub usable_parts : (s : MemberState) (counted : Activation) (tried : Bool) (busy pool : ℕ)
    → is_usable_by s counted tried busy pool ≡ true → IsUsable s counted tried busy pool
usable_parts s counted tried busy pool is =
    let outer : (is_free_by s tried busy pool ≡ true) × (is_active counted ≡ true) =
    and_parts (is_free_by s tried busy pool) (is_active counted) is in
    let inner : (is_ready s ≡ true) × (has_room tried busy pool ≡ true) = and_parts (is_ready s) (has_room tried busy pool) outer.0 in
    record { ready = inner.0; active = outer.1; roomy = roomy tried busy pool inner.1 }

pub record IsServing (s : MemberState) (counted : Activation) (tried : Bool) (busy pool : ℕ) : Type 0 where
  pub ready : is_ready s ≡ true
  pub not_stopped : not (is_stopped counted) ≡ true
  pub roomy : IsRoomy tried busy pool

pub serving_parts : (s : MemberState) (counted : Activation) (tried : Bool) (busy pool : ℕ)
    → serves_by s counted tried busy pool ≡ true → IsServing s counted tried busy pool
serving_parts s counted tried busy pool is =
    let outer : (is_free_by s tried busy pool ≡ true) × (not (is_stopped counted) ≡ true) =
    and_parts (is_free_by s tried busy pool) (not (is_stopped counted)) is in
    let inner : (is_ready s ≡ true) × (has_room tried busy pool ≡ true) = and_parts (is_ready s) (has_room tried busy pool) outer.0 in
    record { ready = inner.0; not_stopped = outer.1; roomy = roomy tried busy pool inner.1 }

pub record IsRevivable (s : MemberState) (counted : Activation) (tried : Bool) (busy pool : ℕ) : Type 0 where
  pub error : is_error s ≡ true
  pub active : is_active counted ≡ true
  pub roomy : IsRoomy tried busy pool

pub revivable_parts : (s : MemberState) (counted : Activation) (tried : Bool) (busy pool : ℕ)
    → is_revivable_by s counted tried busy pool ≡ true → IsRevivable s counted tried busy pool
revivable_parts s counted tried busy pool is =
    let outer : ((is_error s && has_room tried busy pool) ≡ true) × (is_active counted ≡ true) =
    and_parts (is_error s && has_room tried busy pool) (is_active counted) is in
    let inner : (is_error s ≡ true) × (has_room tried busy pool ≡ true) = and_parts (is_error s) (has_room tried busy pool) outer.0 in
    record { error = inner.0; active = outer.1; roomy = roomy tried busy pool inner.1 }

-- A member that the route decides on serves.
redirected_serves : (serving : ℕ → Bool) (target : Option ℕ) (m : ℕ) (h : How) → redirected serving target ≡ Some (m, h) → serving m ≡ true
redirected_serves serving None m h is = absurd cc
redirected_serves serving (Some r) m h is =
    elim (cases_Bool (serving r)) [
      | inl yes' ↦
          let same : r ≡ m = same_first r m how.Redirect h (redirected serving (Some r)) (Some (m, h)) (rw yes' refl) refl is in
          subst (λ (k : ℕ). serving k ≡ true) same yes'
      | inr no' ↦ let none : None ≡ Some (m, h) = rw no' at is in absurd cc
    ]

pub routed_serves : (serving : ℕ → Bool) (redirect : ℕ → Option ℕ) (home : Option ℕ) (m : ℕ) (h : How)
    → routed serving redirect home ≡ Some (m, h) → serving m ≡ true
routed_serves serving redirect None m h is = absurd cc
routed_serves serving redirect (Some j) m h is =
    elim (cases_Bool (serving j)) [
      | inl yes' ↦
          let same : j ≡ m = same_first j m how.Sticky h (routed serving redirect (Some j)) (Some (m, h)) (rw yes' refl) refl is in
          subst (λ (k : ℕ). serving k ≡ true) same yes'
      | inr no' ↦ redirected_serves serving (redirect j) m h (rw no' at is)
    ]

pub choice_serves : (v : ℕ) (o : Opening) (p : List Entry) (ask : Ask) (m : ℕ) (h : How)
    → routed_choice v o p ask ≡ Some (m, h) → serves v o p ask m ≡ true
choice_serves v o p ask m h is =
    routed_serves (λ j. serves v o p ask j) (λ j. redirect_of o p j) (routed_member o ask) m h is

-- A candidate is usable, or under rules 2, where no member is, revivable.
pub candidate_cases : (v : ℕ) (o : Opening) (p : List Entry) (ask : Ask) (m : ℕ) → is_candidate v o p ask m ≡ true
    → ((any_usable v o p ask ≡ true) × (is_usable v o p ask m ≡ true))
    ⊎ ((any_usable v o p ask ≡ false) × (v ≡ 2) × (is_revivable v o p ask m ≡ true))
candidate_cases v o p ask m is =
    elim (cases_Bool (any_usable v o p ask)) [
      | inl some ↦ inl (some, rw some at is)
      | inr none ↦
          let rest : ((v == 2) && is_revivable v o p ask m) ≡ true = rw none at is in
          let both : ((v == 2) ≡ true) × (is_revivable v o p ask m ≡ true) = and_parts (v == 2) (is_revivable v o p ask m) rest in
          inr (none, eqb-true v 2 both.0, both.1)
    ]

-- A chosen member wasn't tried, and its pool has room.
pub chosen_roomy : (v : ℕ) (o : Opening) (p : List Entry) (ask : Ask) (h : How) (m : ℕ) → IsChosen v o p ask h m
    → IsRoomy (is_in ask.tried m) (busy_of o p m) (pool_of o m)
chosen_roomy v o p ask how.Sticky m is =
    (serving_parts (state_of v o p m) (counted_of o p ask m) (is_in ask.tried m) (busy_of o p m) (pool_of o m)
    (choice_serves v o p ask m how.Sticky is)).roomy
chosen_roomy v o p ask how.Redirect m is =
    (serving_parts (state_of v o p m) (counted_of o p ask m) (is_in ask.tried m) (busy_of o p m) (pool_of o m)
    (choice_serves v o p ask m how.Redirect is)).roomy
chosen_roomy v o p ask how.Balanced m is =
    elim (candidate_cases v o p ask m is.1.passes) [
      | inl usable ↦
          (usable_parts (state_of v o p m) (counted_of o p ask m) (is_in ask.tried m) (busy_of o p m) (pool_of o m) usable.1).roomy
      | inr revivable ↦
          (revivable_parts (state_of v o p m) (counted_of o p ask m) (is_in ask.tried m) (busy_of o p m) (pool_of o m) revivable.2).roomy
    ]

-- A chosen member is Ok or in Recover, or in Error where, under rules 2, no member is usable.
pub chosen_state_cases : (v : ℕ) (o : Opening) (p : List Entry) (ask : Ask) (h : How) (m : ℕ) → IsChosen v o p ask h m
    → (is_ready (state_of v o p m) ≡ true) ⊎ ((is_error (state_of v o p m) ≡ true) × (any_usable v o p ask ≡ false) × (v ≡ 2))
chosen_state_cases v o p ask how.Sticky m is =
    inl (serving_parts (state_of v o p m) (counted_of o p ask m) (is_in ask.tried m) (busy_of o p m) (pool_of o m)
    (choice_serves v o p ask m how.Sticky is)).ready
chosen_state_cases v o p ask how.Redirect m is =
    inl (serving_parts (state_of v o p m) (counted_of o p ask m) (is_in ask.tried m) (busy_of o p m) (pool_of o m)
    (choice_serves v o p ask m how.Redirect is)).ready
chosen_state_cases v o p ask how.Balanced m is =
    elim (candidate_cases v o p ask m is.1.passes) [
      | inl usable ↦
          inl (usable_parts (state_of v o p m) (counted_of o p ask m) (is_in ask.tried m) (busy_of o p m) (pool_of o m) usable.1).ready
      | inr revivable ↦
          inr (
            (revivable_parts (state_of v o p m) (counted_of o p ask m) (is_in ask.tried m) (busy_of o p m) (pool_of o m) revivable.2).error,
            revivable.0,
            revivable.1,
          )
    ]
