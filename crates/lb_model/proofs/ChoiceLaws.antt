-- A choice by its kind: the session's member, its redirect, or the least of the candidates.
use Rattle.std.proofs.Common.{◌≡◌, ℕ, ◌≤◌, Bool, true, false, List, ◌⊎◌, Option, Some, None, refl, sym, ap, ◌∙◌, inl, inr, eq-eqb, arith}
use Rattle.std.specs.Prelude.{◌==◌, nat_lt}
use Rattle.std.proofs.lemmas.Bool.{cases_Bool, cases_lt}
use Rattle.std.proofs.lemmas.Bool.Decides.{nat_tests}
use Rattle.lb_model.proofs.ChoiceFacts.{candidate_cases, chosen_state_cases, choice_serves, none_of}
use Rattle.lb_model.proofs.OutFacts.{same_first}
use Rattle.lb_model.specs.Choice.{IsChosen, IsFirstOf, IsLeast, any_usable, is_before, is_before_by, is_candidate, is_revivable, is_usable, member_within, place_of, redirected, routed, routed_choice, routed_member, serves}
use Rattle.lb_model.specs.Free.{is_error, is_ready}
use Rattle.lb_model.specs.Journal.{members}
use Rattle.lb_model.specs.Laws.{IsBalancedChoice, IsGoodChoice, IsLeastOf, IsRedirectChoice, IsStickyChoice, MayBeChosen}
use Rattle.lb_model.specs.Loads.{load_of}
use Rattle.lb_model.specs.Settings.{distance_of, redirect_of}
use Rattle.lb_model.specs.States.{state_of}
use Rattle.lb_model.specs.declared.ask.Ask.{Ask}
use Rattle.lb_model.specs.declared.journal.Entry.{Entry}
use Rattle.lb_model.specs.declared.journal.How.{How}
use Rattle.lb_model.specs.declared.journal.How.TheVariants as how
use Rattle.lb_model.specs.declared.opening.Opening.{Opening}
use Rattle.lb_model.specs.declared.state.MemberState.{MemberState}
use Rattle.lb_model.specs.declared.state.MemberState.TheVariants as state

no_less_load : (d l t d' l' t' : ℕ) → is_before_by d l t d' l' t' ≡ false → d ≡ d' → l' ≤ l
no_less_load d l t d' l' t' not_before same = grind (arith, nat_tests)

no_less_place : (d l t d' l' t' : ℕ) → is_before_by d l t d' l' t' ≡ false → d ≡ d' → l ≡ l' → t' ≤ t
no_less_place d l t d' l' t' not_before same equal = grind (arith, nat_tests)

no_less : (d l t d' l' t' : ℕ) → is_before_by d l t d' l' t' ≡ false
    → (d' ≤ d) × (d ≡ d' → l' ≤ l) × (d ≡ d' → l ≡ l' → t' ≤ t)
no_less d l t d' l' t' not_before =
    elim (cases_lt d d') [
      | inl lt ↦ absurd (grind (arith, nat_tests))
      | inr ge ↦ (ge, λ same. no_less_load d l t d' l' t' not_before same, λ same equal. no_less_place d l t d' l' t' not_before same equal)
    ]

least_of : (v : ℕ) (o : Opening) (p : List Entry) (candidate test : ℕ → Bool) (m : ℕ)
    → IsFirstOf (members o) candidate (λ j k. is_before v o p j k) m → test m ≡ true → ((j : ℕ) → test j ≡ true → candidate j ≡ true)
    → IsLeastOf v o p test m
least_of v o p candidate test m first passes candidates = record {
  member = first.within;
  passes = passes;
  least = λ j lt is.
      let order : (distance_of o p m ≤ distance_of o p j)
      × (distance_of o p j ≡ distance_of o p m → load_of v o p m ≤ load_of v o p j)
      × (distance_of o p j ≡ distance_of o p m → load_of v o p j ≡ load_of v o p m → place_of o p m ≤ place_of o p j) =
      no_less (distance_of o p j) (load_of v o p j) (place_of o p j) (distance_of o p m) (load_of v o p m) (place_of o p m)
      (first.first j lt (candidates j is)) in
      record { nearer = order.0; lighter = order.1; earlier = order.2 };
}

balanced_choice : (v : ℕ) (o : Opening) (p : List Entry) (ask : Ask) (m : ℕ) → IsLeast v o p ask m → IsBalancedChoice v o p ask m
balanced_choice v o p ask m least =
    elim (candidate_cases v o p ask m least.passes) [
      | inl usable ↦
          inl (least_of v o p (λ j. is_candidate v o p ask j) (λ j. is_usable v o p ask j) m least usable.1
          (λ j is. rw usable.0 is))
      | inr revivable ↦
          let rules : (v == 2) ≡ true = eq-eqb v 2 revivable.1 in
          inr (
            none_of (members o) (λ j. is_usable v o p ask j) revivable.0,
            revivable.1,
            least_of v o p (λ j. is_candidate v o p ask j) (λ j. is_revivable v o p ask j) m least revivable.2
                (λ j is. rw (revivable.0, rules, is) refl),
          )
    ]

second_in : How → Option (ℕ × How) → How
second_in d None = d
second_in d (Some x) = x.1

same_second : (i j : ℕ) (h k : How) (x y : Option (ℕ × How)) → x ≡ Some (i, h) → y ≡ Some (j, k) → x ≡ y → h ≡ k
unfolding second_in
same_second i j h k x y is_x is_y is = ap (second_in h) (sym is_x ∙ is ∙ is_y)

within_is : (n : ℕ) (asked : Option ℕ) (m : ℕ) → member_within n asked ≡ Some m → asked ≡ Some m
within_is n None m is = is
within_is n (Some j) m is =
    elim (cases_Bool (nat_lt j n)) [
      | inl lt ↦ rw lt at is
      | inr ge ↦ let none : None ≡ Some m = rw ge at is in absurd cc
    ]

home_parts : (o : Opening) (ask : Ask) (m : ℕ) → routed_member o ask ≡ Some m → (o.config.sticky ≡ true) × (ask.routed ≡ Some m)
home_parts o ask m is =
    elim (cases_Bool o.config.sticky) [
      | inl sticky ↦ (sticky, within_is (members o) ask.routed m (rw sticky at is))
      | inr not_sticky ↦ let none : None ≡ Some m = rw not_sticky at is in absurd cc
    ]

redirected_not_sticky : (serving : ℕ → Bool) (target : Option ℕ) (m : ℕ) → redirected serving target ≡ Some (m, how.Sticky) → ⊥
redirected_not_sticky serving None m is = cc
redirected_not_sticky serving (Some r) m is =
    elim (cases_Bool (serving r)) [
      | inl yes' ↦
          let clash : how.Redirect ≡ how.Sticky =
          same_second r m how.Redirect how.Sticky (redirected serving (Some r)) (Some (m, how.Sticky)) (rw yes' refl) refl is in
          cc
      | inr no' ↦ let none : None ≡ Some (m, how.Sticky) = rw no' at is in cc
    ]

redirected_from : (serving : ℕ → Bool) (target : Option ℕ) (m : ℕ) → redirected serving target ≡ Some (m, how.Redirect) → target ≡ Some m
redirected_from serving None m is = absurd cc
redirected_from serving (Some r) m is =
    elim (cases_Bool (serving r)) [
      | inl yes' ↦ ap (λ (k : ℕ). Some k) (same_first r m how.Redirect how.Redirect (redirected serving (Some r)) (Some (m, how.Redirect)) (rw yes' refl) refl is)
      | inr no' ↦ let none : None ≡ Some (m, how.Redirect) = rw no' at is in absurd cc
    ]

routed_sticky : (serving : ℕ → Bool) (redirect : ℕ → Option ℕ) (home : Option ℕ) (m : ℕ)
    → routed serving redirect home ≡ Some (m, how.Sticky) → home ≡ Some m
routed_sticky serving redirect None m is = absurd cc
routed_sticky serving redirect (Some j) m is =
    elim (cases_Bool (serving j)) [
      | inl yes' ↦ ap (λ (k : ℕ). Some k) (same_first j m how.Sticky how.Sticky (routed serving redirect (Some j)) (Some (m, how.Sticky)) (rw yes' refl) refl is)
      | inr no' ↦ absurd (redirected_not_sticky serving (redirect j) m (rw no' at is))
    ]

-- The redirect of a member that doesn't serve.
record FromRedirect (serving : ℕ → Bool) (redirect : ℕ → Option ℕ) (home : Option ℕ) (m j : ℕ) : Type 0 where
  home_is : home ≡ Some j
  not_serving : serving j ≡ false
  target : redirect j ≡ Some m

routed_redirect : (serving : ℕ → Bool) (redirect : ℕ → Option ℕ) (home : Option ℕ) (m : ℕ)
    → routed serving redirect home ≡ Some (m, how.Redirect) → (j : ℕ) × FromRedirect serving redirect home m j
routed_redirect serving redirect None m is = absurd cc
routed_redirect serving redirect (Some j) m is =
    elim (cases_Bool (serving j)) [
      | inl yes' ↦
          let clash : how.Sticky ≡ how.Redirect =
          same_second j m how.Sticky how.Redirect (routed serving redirect (Some j)) (Some (m, how.Redirect)) (rw yes' refl) refl is in
          absurd cc
      | inr no' ↦
          (j, record { home_is = refl; not_serving = no'; target = redirected_from serving (redirect j) m (rw no' at is) })
    ]

sticky_choice : (v : ℕ) (o : Opening) (p : List Entry) (ask : Ask) (m : ℕ) → routed_choice v o p ask ≡ Some (m, how.Sticky) → IsStickyChoice v o p ask m
sticky_choice v o p ask m is =
    let home : routed_member o ask ≡ Some m =
    routed_sticky (λ j. serves v o p ask j) (λ j. redirect_of o p j) (routed_member o ask) m is in
    let parts : (o.config.sticky ≡ true) × (ask.routed ≡ Some m) = home_parts o ask m home in
    record { sticky = parts.0; routed = parts.1; serving = choice_serves v o p ask m how.Sticky is }

redirect_choice : (v : ℕ) (o : Opening) (p : List Entry) (ask : Ask) (m : ℕ) → routed_choice v o p ask ≡ Some (m, how.Redirect)
    → (j : ℕ) × IsRedirectChoice v o p ask m j
redirect_choice v o p ask m is =
    let from : (j : ℕ) × FromRedirect (λ j. serves v o p ask j) (λ j. redirect_of o p j) (routed_member o ask) m j =
    routed_redirect (λ j. serves v o p ask j) (λ j. redirect_of o p j) (routed_member o ask) m is in
    let parts : (o.config.sticky ≡ true) × (ask.routed ≡ Some from.0) = home_parts o ask from.0 from.1.home_is in (
      from.0,
      record {
        sticky = parts.0;
        routed = parts.1;
        not_serving = from.1.not_serving;
        redirect = from.1.target;
        serving = choice_serves v o p ask m how.Redirect is;
      },
    )

pub good_choice : (v : ℕ) (o : Opening) (p : List Entry) (ask : Ask) (m : ℕ) (h : How) → IsChosen v o p ask h m → IsGoodChoice v o p ask h m
good_choice v o p ask m how.Sticky chosen = sticky_choice v o p ask m chosen
good_choice v o p ask m how.Redirect chosen = redirect_choice v o p ask m chosen
good_choice v o p ask m how.Balanced chosen = balanced_choice v o p ask m chosen.1

may_be : (v : ℕ) (o : Opening) (p : List Entry) (ask : Ask) (s : MemberState)
    → (is_ready s ≡ true) ⊎ ((is_error s ≡ true) × (any_usable v o p ask ≡ false) × (v ≡ 2)) → MayBeChosen v o p ask s
may_be v o p ask state.Ok cases = tt
may_be v o p ask (state.Error at) cases =
    elim cases [
      | inl ready ↦ absurd cc
      | inr error ↦ (none_of (members o) (λ j. is_usable v o p ask j) error.1, error.2)
    ]
may_be v o p ask state.Recover cases = tt
may_be v o p ask (state.Probe t) cases = elim cases [ inl ready ↦ cc | inr error ↦ let none : false ≡ true = error.0 in cc ]

pub may_be_chosen : (v : ℕ) (o : Opening) (p : List Entry) (ask : Ask) (m : ℕ) (h : How) → IsChosen v o p ask h m
    → MayBeChosen v o p ask (state_of v o p m)
may_be_chosen v o p ask m h chosen = may_be v o p ask (state_of v o p m) (chosen_state_cases v o p ask h m chosen)
