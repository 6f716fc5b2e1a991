-- The least of the rows that pass is what the rows answer.
use Rattle.std.proofs.Common.{◌≡◌, ℕ, zero, suc, ◌<◌, Bool, true, false, not, ◌&&◌, List, length, Option, Some, None, get_or, refl, sym, ap, subst, inl, inr, arith}
use Rattle.std.specs.Prelude.{◌==◌}
use Rattle.std.proofs.lemmas.Bool.{or_right, or_left, cases_Bool, cases_eq, eq-eqb, ne_eqb, and_left, and_right}
use Rattle.std.proofs.lemmas.List.{get_or_default}
use Rattle.lb_model.specs.Journal.{any_of, chosen_in}
use Rattle.lb_model.specs.States.{is_balanced}
use Rattle.lb_model.specs.Choice.{begin_after, begins_trial, redirected, routed}
use Rattle.lb_model.specs.declared.ask.Ask.{Ask}
use Rattle.lb_model.specs.declared.config.LbConfig.{LbConfig}
use Rattle.lb_model.specs.declared.journal.Answer.{Answer}
use Rattle.lb_model.specs.declared.journal.How.{How}
use Rattle.lb_rules.specs.declared.standing.Standing.{Standing}
use Rattle.lb_rules.specs.declared.among.Among.{Among}
use Rattle.lb_rules.specs.Least.{IsLeastRow, HasNoRow, IsRevivalOf}
use Rattle.lb_rules.specs.Picks.{home_of, serves_at, redirect_at, passes_at, routed_at, any_usable_at, is_candidate_at, IsLeastAt, IsChosenAt, IsPickAt, revives_at}

pub any_of-true : (n : ℕ) (test : ℕ → Bool) (m : ℕ) → m < n → test m ≡ true → any_of n test ≡ true
any_of-true zero test m lt is = absurd (omega arith)
any_of-true (suc n) test m lt is =
    elim (cases_eq m n) [
      | inl same ↦ or_right (any_of n test) (test n) (subst (λ (k : ℕ). test k ≡ true) same is)
      | inr other ↦ or_left (any_of n test) (test n) (any_of-true n test m (omega arith) is)
    ]

pub any_of-false : (n : ℕ) (test : ℕ → Bool) → ((j : ℕ) → j < n → test j ≡ false) → any_of n test ≡ false
any_of-false zero test none_is = refl
any_of-false (suc n) test none_is = rw (any_of-false n test (λ j lt. none_is j (omega arith)), none_is n (omega arith)) refl

module _ (v : ℕ) (rows : List Standing) (d : Standing) (last : Option ℕ) (ask : Ask) where
  pub least_usable : (m : ℕ) → IsLeastRow Among.Usable rows ask (begin_after last) (length rows) m
      → IsLeastAt v rows d last ask m
  least_usable m first =
      let usable : passes_at Among.Usable rows d ask m ≡ true = first.passing d in
      let some : any_usable_at rows d ask ≡ true =
      any_of-true (length rows) (passes_at Among.Usable rows d ask) m first.within usable in
      record {
        within = first.within;
        passes = rw some usable;
        first = λ j lt is.
            let is_usable_too : passes_at Among.Usable rows d ask j ≡ true = rw some at is in first.least j d lt is_usable_too;
      }

  none_usable : HasNoRow Among.Usable rows ask (length rows) → any_usable_at rows d ask ≡ false
  none_usable none_passes = any_of-false (length rows) (passes_at Among.Usable rows d ask) (λ j lt. none_passes j d lt)

  pub least_revivable : v ≡ 2 → (m : ℕ) → HasNoRow Among.Usable rows ask (length rows)
      → IsLeastRow Among.Revivable rows ask (begin_after last) (length rows) m → IsLeastAt v rows d last ask m
  least_revivable two m none_passes first =
      let revivable : passes_at Among.Revivable rows d ask m ≡ true = first.passing d in
      let none_is : any_usable_at rows d ask ≡ false = none_usable none_passes in
      let rules_two : (v == 2) ≡ true = eq-eqb v 2 two in
      record {
        within = first.within;
        passes = rw (none_is, rules_two) revivable;
        first = λ j lt is.
            let is_revivable_too : passes_at Among.Revivable rows d ask j ≡ true = rw (none_is, rules_two) at is in
            first.least j d lt is_revivable_too;
      }

  pub none_candidate : HasNoRow Among.Usable rows ask (length rows) → IsRevivalOf v rows ask (begin_after last) None
      → any_of (length rows) (λ j. is_candidate_at v rows d ask j) ≡ false
  none_candidate none_passes none_revivable =
      let none_is : any_usable_at rows d ask ≡ false = none_usable none_passes in
      any_of-false (length rows) (λ j. is_candidate_at v rows d ask j)
      (λ j lt. rw none_is
      (elim (cases_eq v 2) [
        | inl two ↦ and_right (v == 2) (passes_at Among.Revivable rows d ask j) (none_revivable two j d lt)
        | inr other ↦ and_left (v == 2) (passes_at Among.Revivable rows d ask j) (ne_eqb v 2 other)
      ]))

  -- The answer of a choice that the rows allow.
  pub picked : (config : LbConfig) (a : Answer) (how : How) (m next : ℕ) (e : Standing) → m < length rows
      → a ≡ Answer.Chosen m next how (begins_trial (get_or rows m e).state) → IsChosenAt v config rows d last ask how m
      → IsPickAt v config rows d last next ask a
  picked config a how m next e within is chosen =
      subst (λ (b : Answer). IsPickAt v config rows d last next ask b) (sym is)
      (chosen, refl, ap (λ (r : Standing). begins_trial r.state) (get_or_default rows m e d within))

module _ (rows : List Standing) (ask : Ask) where
  -- A usable row: nobody is revived.
  pub revives-usable : (v begin m : ℕ) (d : Standing) (a : Answer) → IsLeastRow Among.Usable rows ask begin (length rows) m
      → false ≡ revives_at v rows d ask a
  revives-usable v begin m d a first =
      let some : any_usable_at rows d ask ≡ true =
      any_of-true (length rows) (passes_at Among.Usable rows d ask) m first.within (first.passing d) in
      sym (and_right (v == 2) (is_balanced a && not (any_usable_at rows d ask))
      (and_right (is_balanced a) (not (any_usable_at rows d ask)) (rw some refl)))

  -- No usable row, by rules 2: a balanced answer revives.
  pub revives-balanced : (v : ℕ) (d : Standing) (a : Answer) → is_balanced a ≡ true → v ≡ 2
      → HasNoRow Among.Usable rows ask (length rows) → true ≡ revives_at v rows d ask a
  revives-balanced v d a balanced two none_passes =
      let none_is : any_usable_at rows d ask ≡ false =
      any_of-false (length rows) (passes_at Among.Usable rows d ask) (λ j lt. none_passes j d lt) in
      sym (rw (none_is, eq-eqb v 2 two, balanced) refl)

  -- An answer that isn't balanced revives nobody.
  pub revives-other : (v : ℕ) (d : Standing) (a : Answer) → is_balanced a ≡ false → false ≡ revives_at v rows d ask a
  revives-other v d a other =
      sym (and_right (v == 2) (is_balanced a && not (any_usable_at rows d ask))
      (and_left (is_balanced a) (not (any_usable_at rows d ask)) other))

  -- One that chose nobody revives nobody.
  pub revives-none : (v : ℕ) (d : Standing) (a : Answer) → chosen_in a ≡ None → revives_at v rows d ask a ≡ false
  revives-none v d (Answer.Chosen m t how probe) none_is = absurd cc
  revives-none v d Answer.NoMember none_is = sym (revives-other v d Answer.NoMember refl)
  revives-none v d Answer.Forced none_is = sym (revives-other v d Answer.Forced refl)
  revives-none v d Answer.Done none_is = sym (revives-other v d Answer.Done refl)

-- A route never leads to a balanced choice.
how_in : Option (ℕ × How) → How
how_in None = How.Sticky
how_in (Some x) = x.1

redirected-unbalanced : (f : ℕ → Bool) (target : Option ℕ) (m : ℕ) → redirected f target ≡ Some (m, How.Balanced) → ⊥
unfolding how_in
redirected-unbalanced f None m is = cc
redirected-unbalanced f (Some t) m is =
    elim (cases_Bool (f t)) [
      | inl serving ↦ let other : How.Redirect ≡ How.Balanced = ap how_in (rw serving at is) in cc
      | inr other ↦ let found : None ≡ Some (m, How.Balanced) = rw other at is in cc
    ]

routed-unbalanced : (f : ℕ → Bool) (r : ℕ → Option ℕ) (home : Option ℕ) (m : ℕ) → routed f r home ≡ Some (m, How.Balanced) → ⊥
unfolding how_in
routed-unbalanced f r None m is = cc
routed-unbalanced f r (Some j) m is =
    elim (cases_Bool (f j)) [
      | inl serving ↦ let other : How.Sticky ≡ How.Balanced = ap how_in (rw serving at is) in cc
      | inr other ↦ let found : redirected f (r j) ≡ Some (m, How.Balanced) = rw other at is in redirected-unbalanced f (r j) m found
    ]

pub routed_chosen : (v : ℕ) (config : LbConfig) (rows : List Standing) (d : Standing) (last : Option ℕ) (ask : Ask) (m : ℕ) (how : How)
    → routed_at config rows d ask ≡ Some (m, how) → IsChosenAt v config rows d last ask how m
routed_chosen v config rows d last ask m How.Sticky route = route
routed_chosen v config rows d last ask m How.Redirect route = route
routed_chosen v config rows d last ask m How.Balanced route =
    absurd (routed-unbalanced (serves_at rows d ask) (redirect_at rows d) (home_of config ask) m route)

pub route-unbalanced : (f : ℕ → Bool) (r : ℕ → Option ℕ) (home : Option ℕ) (m t : ℕ) (how : How) (probe : Bool)
    → routed f r home ≡ Some (m, how) → is_balanced (Answer.Chosen m t how probe) ≡ false
route-unbalanced f r home m t How.Sticky probe route = refl
route-unbalanced f r home m t How.Redirect probe route = refl
route-unbalanced f r home m t How.Balanced probe route = absurd (routed-unbalanced f r home m route)
