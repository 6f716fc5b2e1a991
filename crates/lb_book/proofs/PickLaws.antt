-- An ask has one answer, and what the answers without a member mean.
use Rattle.std.proofs.Common.{◌≡◌, ℕ, zero, suc, ◌<◌, ◌||◌, Bool, true, false, List, Option, Some, None, refl, sym, ap, ◌∙◌, subst, inl, inr, arith}
use Rattle.std.specs.Prelude.{◌==◌, ◌&&◌, ◌↔◌, is_none, is_some, nat_lt}
use Rattle.std.proofs.lemmas.Bool.{and_parts, cases_Bool, eq-eqb, eqb-true, true≢false}
use Rattle.std.proofs.lemmas.Bool.Decides.{nat_tests}
use Rattle.lb_model.proofs.ChoiceFacts.{none_of, some_of}
use Rattle.lb_model.proofs.OutFacts.{same_first}
use Rattle.lb_model.specs.Choice.{IsChosen, IsFirstOf, IsLeast, IsOpen, IsPick, any_usable, begin_after, begins_trial, is_before, is_before_by, is_candidate, is_forced, is_revivable, is_usable, member_within, place_from, place_of, redirected, routed, routed_choice, routed_member, serves}
use Rattle.lb_model.specs.Journal.{any_of, last_chosen, members, next_of}
use Rattle.lb_model.specs.Loads.{load_of}
use Rattle.lb_model.specs.Settings.{distance_of, redirect_of}
use Rattle.lb_model.specs.States.{state_of}
use Rattle.lb_book.specs.Unanswered.{IsForcedAsk, IsHome, IsUnanswered, IsUnserved}
use Rattle.lb_model.specs.declared.ask.Ask.{Ask}
use Rattle.lb_model.specs.declared.journal.Answer.{Answer}
use Rattle.lb_model.specs.declared.journal.Answer.TheVariants as answer
use Rattle.lb_model.specs.declared.journal.Entry.{Entry}
use Rattle.lb_model.specs.declared.journal.How.{How}
use Rattle.lb_model.specs.declared.journal.How.TheVariants as how
use Rattle.lb_model.specs.declared.opening.Opening.{Opening}
use Rattle.lb_model.specs.declared.state.MemberState.{MemberState}

-- Two choices that are one have one kind.
second_in : How → Option (ℕ × How) → How
second_in d None = d
second_in d (Some x) = x.1

same_second : (i j : ℕ) (h k : How) (x y : Option (ℕ × How)) → x ≡ Some (i, h) → y ≡ Some (j, k) → x ≡ y → h ≡ k
unfolding second_in
same_second i j h k x y is_x is_y is = ap (second_in h) (sym is_x ∙ is ∙ is_y)

-- Places in the cyclic order are distinct.
place_one : (n begin m k : ℕ) → m < n → k < n → place_from n begin m ≡ place_from n begin k → m ≡ k
place_one n begin m k lt lt' same = grind (arith, nat_tests)

before_one : (d l t d' l' t' : ℕ) → is_before_by d l t d' l' t' ≡ false → is_before_by d' l' t' d l t ≡ false → t ≡ t'
before_one d l t d' l' t' not_before not_after = grind (arith, nat_tests)

least_one : (v : ℕ) (o : Opening) (p : List Entry) (ask : Ask) (m k : ℕ) → IsLeast v o p ask m → IsLeast v o p ask k → m ≡ k
least_one v o p ask m k least other =
    place_one (members o) (begin_after (last_chosen o p)) m k least.within other.within
    (before_one (distance_of o p m) (load_of v o p m) (place_of o p m) (distance_of o p k) (load_of v o p k) (place_of o p k)
    (other.first m least.within least.passes) (least.first k other.within other.passes))

-- The member and the kind of a routed choice.
same_choice : (m k : ℕ) (h g : How) (x : Option (ℕ × How)) → x ≡ Some (m, h) → x ≡ Some (k, g) → (m ≡ k) × (h ≡ g)
same_choice m k h g x is is' = (same_first m k h g x x is is' refl, same_second m k h g x x is is' refl)

chosen_one : (v : ℕ) (o : Opening) (p : List Entry) (ask : Ask) (m k : ℕ) (h g : How) → IsChosen v o p ask h m → IsChosen v o p ask g k → (m ≡ k) × (h ≡ g)
chosen_one v o p ask m k how.Sticky how.Sticky is is' = same_choice m k how.Sticky how.Sticky (routed_choice v o p ask) is is'
chosen_one v o p ask m k how.Sticky how.Redirect is is' = same_choice m k how.Sticky how.Redirect (routed_choice v o p ask) is is'
chosen_one v o p ask m k how.Sticky how.Balanced is is' = let none = is'.0.not_routed in absurd cc
chosen_one v o p ask m k how.Redirect how.Sticky is is' = same_choice m k how.Redirect how.Sticky (routed_choice v o p ask) is is'
chosen_one v o p ask m k how.Redirect how.Redirect is is' = same_choice m k how.Redirect how.Redirect (routed_choice v o p ask) is is'
chosen_one v o p ask m k how.Redirect how.Balanced is is' = let none = is'.0.not_routed in absurd cc
chosen_one v o p ask m k how.Balanced how.Sticky is is' = let none = is.0.not_routed in absurd cc
chosen_one v o p ask m k how.Balanced how.Redirect is is' = let none = is.0.not_routed in absurd cc
chosen_one v o p ask m k how.Balanced how.Balanced is is' = (least_one v o p ask m k is.1 is'.1, refl)

-- Where there is no member for the ask, none is chosen.
not_both : (v : ℕ) (o : Opening) (p : List Entry) (ask : Ask) (m : ℕ) (h : How) → IsChosen v o p ask h m → IsOpen v o p ask
    → any_of (members o) (λ j. is_candidate v o p ask j) ≡ false → ⊥
not_both v o p ask m how.Sticky is opens none = let not_routed = opens.not_routed in cc
not_both v o p ask m how.Redirect is opens none = let not_routed = opens.not_routed in cc
not_both v o p ask m how.Balanced is opens none =
    let some : any_of (members o) (λ j. is_candidate v o p ask j) ≡ true =
    some_of (members o) (λ j. is_candidate v o p ask j) m is.1.within is.1.passes in
    cc

forced_none : (v : ℕ) (o : Opening) (p : List Entry) (ask : Ask) (x : Option (ℕ × How)) → routed_choice v o p ask ≡ x → is_forced v o p ask ≡ true → x ≡ None
forced_none v o p ask None same is = refl
forced_none v o p ask (Some x) same is =
    let parts = and_parts o.config.force (is_some (routed_member o ask) && is_none (routed_choice v o p ask)) is in
    let both = and_parts (is_some (routed_member o ask)) (is_none (routed_choice v o p ask)) parts.1 in
    let none : is_none (Some x) ≡ true = subst (λ (y : Option (ℕ × How)). is_none y ≡ true) same both.1 in
    absurd cc

some_none : {A : Type 0} (x : A) → Some x ≡ None → ⊥
some_none x is = cc

not_forced : (v : ℕ) (o : Opening) (p : List Entry) (ask : Ask) (m : ℕ) (h : How) → IsChosen v o p ask h m → is_forced v o p ask ≡ true → ⊥
not_forced v o p ask m how.Sticky is forced =
    some_none (m, how.Sticky) (forced_none v o p ask (Some (m, how.Sticky)) is forced)
not_forced v o p ask m how.Redirect is forced =
    some_none (m, how.Redirect) (forced_none v o p ask (Some (m, how.Redirect)) is forced)
not_forced v o p ask m how.Balanced is forced = true≢false (sym forced ∙ is.0.not_forced)

pub pick_one : (v : ℕ) (o : Opening) (p : List Entry) (ask : Ask) (a b : Answer) → IsPick v o p ask a → IsPick v o p ask b → a ≡ b
pick_one v o p ask (answer.Chosen m t h probe) (answer.Chosen k u g other) is is' =
    let same : (m ≡ k) × (h ≡ g) = chosen_one v o p ask m k h g is.0 is'.0 in
    let member : m ≡ k = same.0 in
    let kind : h ≡ g = same.1 in
    let ticket : t ≡ u = is.1 ∙ sym is'.1 in
    let trial : probe ≡ other = is.2 ∙ ap (λ (n : ℕ). begins_trial (state_of v o p n)) member ∙ sym is'.2 in
    ap (λ (n : ℕ). answer.Chosen n t h probe) member
    ∙ ap (λ (n : ℕ). answer.Chosen k n h probe) ticket
    ∙ ap (λ (x : How). answer.Chosen k u x probe) kind
    ∙ ap (λ (x : Bool). answer.Chosen k u g x) trial
pick_one v o p ask (answer.Chosen m t h probe) answer.NoMember is is' = absurd (not_both v o p ask m h is.0 is'.0 is'.1)
pick_one v o p ask (answer.Chosen m t h probe) answer.Forced is is' = absurd (not_forced v o p ask m h is.0 is')
pick_one v o p ask (answer.Chosen m t h probe) answer.Done is is' = absurd is'
pick_one v o p ask answer.NoMember (answer.Chosen m t h probe) is is' = absurd (not_both v o p ask m h is'.0 is.0 is.1)
pick_one v o p ask answer.NoMember answer.NoMember is is' = refl
pick_one v o p ask answer.NoMember answer.Forced is is' = absurd (true≢false (sym is' ∙ is.0.not_forced))
pick_one v o p ask answer.NoMember answer.Done is is' = absurd is'
pick_one v o p ask answer.Forced (answer.Chosen m t h probe) is is' = absurd (not_forced v o p ask m h is'.0 is)
pick_one v o p ask answer.Forced answer.NoMember is is' = absurd (true≢false (sym is ∙ is'.0.not_forced))
pick_one v o p ask answer.Forced answer.Forced is is' = refl
pick_one v o p ask answer.Forced answer.Done is is' = absurd is'
pick_one v o p ask answer.Done b is is' = absurd is

-- The session's member, if the balancer looks at one.
within_of : (n j : ℕ) → nat_lt j n ≡ true → j < n
within_of n j is = grind (arith, nat_tests)

member_is : (n : ℕ) (asked : Option ℕ) (j : ℕ) → member_within n asked ≡ Some j → (asked ≡ Some j) × (j < n)
member_is n None j is = absurd cc
member_is n (Some k) j is =
    elim (cases_Bool (nat_lt k n)) [
      | inl lt ↦
          let same : Some k ≡ Some j = rw lt at is in
          let k_is : k ≡ j = cc in
          (same, subst (λ (x : ℕ). x < n) k_is (within_of n k lt))
      | inr ge ↦ let none : None ≡ Some j = rw ge at is in absurd cc
    ]

pub home_is : (o : Opening) (ask : Ask) (j : ℕ) → routed_member o ask ≡ Some j → IsHome o ask j
home_is o ask j is =
    elim (cases_Bool o.config.sticky) [
      | inl sticky ↦
          let parts : (ask.routed ≡ Some j) × (j < members o) = member_is (members o) ask.routed j (rw sticky at is) in
          record { sticky = sticky; routed = parts.0; member = parts.1 }
      | inr not_sticky ↦ let none : None ≡ Some j = rw not_sticky at is in absurd cc
    ]

member_at : (n : ℕ) (asked : Option ℕ) (j : ℕ) → asked ≡ Some j → nat_lt j n ≡ true → member_within n asked ≡ Some j
member_at n asked j is lt = subst (λ (x : Option ℕ). member_within n x ≡ Some j) (sym is) (rw lt refl)

home_at : (o : Opening) (ask : Ask) (j : ℕ) → IsHome o ask j → routed_member o ask ≡ Some j
home_at o ask j home =
    let lt : nat_lt j (members o) ≡ true = let within : j < members o = home.member in grind (arith, nat_tests) in
    let inside : member_within (members o) ask.routed ≡ Some j = member_at (members o) ask.routed j home.routed lt in
    rw (home.sticky) inside

-- A routed choice fails exactly where neither serves.
redirect_fails : (serving : ℕ → Bool) (target : Option ℕ) → redirected serving target ≡ None → (r : ℕ) → target ≡ Some r → serving r ≡ false
redirect_fails serving None is r none = absurd cc
redirect_fails serving (Some k) is r same =
    elim (cases_Bool (serving k)) [
      | inl yes' ↦ let some : Some (k, how.Redirect) ≡ None = rw yes' at is in absurd cc
      | inr no' ↦ let k_is : k ≡ r = cc in subst (λ (x : ℕ). serving x ≡ false) k_is no'
    ]

redirect_none : (serving : ℕ → Bool) (target : Option ℕ) → ((r : ℕ) → target ≡ Some r → serving r ≡ false) → redirected serving target ≡ None
redirect_none serving None fails = refl
redirect_none serving (Some k) fails = rw (fails k refl) refl

routed_fails : (serving : ℕ → Bool) (redirect : ℕ → Option ℕ) (j : ℕ) → routed serving redirect (Some j) ≡ None
    → (serving j ≡ false) × ((r : ℕ) → redirect j ≡ Some r → serving r ≡ false)
routed_fails serving redirect j is =
    elim (cases_Bool (serving j)) [
      | inl yes' ↦ let some : Some (j, how.Sticky) ≡ None = rw yes' at is in absurd cc
      | inr no' ↦ (no', redirect_fails serving (redirect j) (rw no' at is))
    ]

routed_none : (serving : ℕ → Bool) (redirect : ℕ → Option ℕ) (j : ℕ) → serving j ≡ false → ((r : ℕ) → redirect j ≡ Some r → serving r ≡ false)
    → routed serving redirect (Some j) ≡ None
routed_none serving redirect j not_serving fails = rw not_serving (redirect_none serving (redirect j) fails)

none_any : (n : ℕ) (test : ℕ → Bool) → ((j : ℕ) → j < n → test j ≡ false) → any_of n test ≡ false
none_any zero test none = refl
none_any (suc n) test none = rw (none_any n test (λ j lt. none j (omega arith)), none n (omega arith)) refl

and_false : (a b : Bool) → (a && b) ≡ false → b ≡ true → a ≡ false
and_false true b is other = absurd cc
and_false false b is other = refl

is_none_of : {T : Type 0} (x : Option T) → is_none x ≡ true → x ≡ None
is_none_of None is = refl
is_none_of (Some y) is = absurd cc

-- Forced.
forced_by : (v : ℕ) (o : Opening) (p : List Entry) (ask : Ask) (home : Option ℕ) → routed_member o ask ≡ home → o.config.force ≡ true → is_some home ≡ true
    → routed_choice v o p ask ≡ None → IsForcedAsk v o p ask
forced_by v o p ask None same force some none = absurd cc
forced_by v o p ask (Some j) same force some none =
    let parts = routed_fails (λ m. serves v o p ask m) (λ m. redirect_of o p m) j
    (subst (λ (x : Option ℕ). routed (λ m. serves v o p ask m) (λ m. redirect_of o p m) x ≡ None) same none) in
    record {
      force = force;
      home = j;
      is_home = home_is o ask j same;
      unserved = record { not_serving = parts.0; no_redirect = parts.1 };
    }

pub forced_means : (v : ℕ) (o : Opening) (p : List Entry) (ask : Ask) → IsPick v o p ask answer.Forced ↔ IsForcedAsk v o p ask
forced_means v o p ask = (
  (λ is.
      let parts = and_parts o.config.force (is_some (routed_member o ask) && is_none (routed_choice v o p ask)) is in
      let both = and_parts (is_some (routed_member o ask)) (is_none (routed_choice v o p ask)) parts.1 in
      forced_by v o p ask (routed_member o ask) refl parts.0 both.0 (is_none_of (routed_choice v o p ask) both.1)),
  (λ forced.
      let home : routed_member o ask ≡ Some forced.home = home_at o ask forced.home forced.is_home in
      let none : routed_choice v o p ask ≡ None =
      subst (λ (x : Option ℕ). routed (λ m. serves v o p ask m) (λ m. redirect_of o p m) x ≡ None) (sym home)
      (routed_none (λ m. serves v o p ask m) (λ m. redirect_of o p m) forced.home forced.unserved.not_serving forced.unserved.no_redirect) in
      ap (λ (b : Bool). b && (is_some (routed_member o ask) && is_none (routed_choice v o p ask))) forced.force
      ∙ ap (λ (x : Option ℕ). is_some x && is_none (routed_choice v o p ask)) home
      ∙ ap (λ (x : Option (ℕ × How)). is_none x) none),
)

-- No member.
open_home : (v : ℕ) (o : Opening) (p : List Entry) (ask : Ask) (j : ℕ) → IsOpen v o p ask → IsHome o ask j → IsUnserved v o p ask j × (o.config.force ≡ false)
open_home v o p ask j opens home =
    let at : routed_member o ask ≡ Some j = home_at o ask j home in
    let parts = routed_fails (λ m. serves v o p ask m) (λ m. redirect_of o p m) j
    (subst (λ (x : Option ℕ). routed (λ m. serves v o p ask m) (λ m. redirect_of o p m) x ≡ None) at opens.not_routed) in
    let alone : (is_some (routed_member o ask) && is_none (routed_choice v o p ask)) ≡ true =
    ap (λ (x : Option ℕ). is_some x && is_none (routed_choice v o p ask)) at ∙ ap (λ (x : Option (ℕ × How)). is_none x) opens.not_routed in (
      record { not_serving = parts.0; no_redirect = parts.1 },
      and_false o.config.force (is_some (routed_member o ask) && is_none (routed_choice v o p ask)) opens.not_forced alone,
    )

none_usable_of : (v : ℕ) (o : Opening) (p : List Entry) (ask : Ask) → any_of (members o) (λ j. is_candidate v o p ask j) ≡ false → any_usable v o p ask ≡ false
none_usable_of v o p ask none =
    elim (cases_Bool (any_usable v o p ask)) [
      | inl some ↦
          let all : any_of (members o) (λ j. is_usable v o p ask j) ≡ false =
          none_any (members o) (λ j. is_usable v o p ask j)
          (λ j lt. let other : is_candidate v o p ask j ≡ false = none_of (members o) (λ k. is_candidate v o p ask k) none j lt in rw some at other) in
          absurd cc
      | inr none' ↦ none'
    ]

open_of : (v : ℕ) (o : Opening) (p : List Entry) (ask : Ask) (home : Option ℕ) → routed_member o ask ≡ home
    → ((j : ℕ) → IsHome o ask j → IsUnserved v o p ask j × (o.config.force ≡ false)) → IsOpen v o p ask
open_of v o p ask None same unserved =
    let none : routed_choice v o p ask ≡ None = rw same refl in
    record { not_routed = none; not_forced = rw same (elim o.config.force as (λ (b : Bool). (b && false) ≡ false) [ true ↦ refl | false ↦ refl ]) }
open_of v o p ask (Some j) same unserved =
    let is : IsUnserved v o p ask j × (o.config.force ≡ false) = unserved j (home_is o ask j same) in
    let none : routed_choice v o p ask ≡ None =
    subst (λ (x : Option ℕ). routed (λ m. serves v o p ask m) (λ m. redirect_of o p m) x ≡ None) (sym same)
    (routed_none (λ m. serves v o p ask m) (λ m. redirect_of o p m) j is.0.not_serving is.0.no_redirect) in
    record { not_routed = none; not_forced = rw is.1 refl }

pub unanswered_means : (v : ℕ) (o : Opening) (p : List Entry) (ask : Ask) → IsPick v o p ask answer.NoMember ↔ IsUnanswered v o p ask
unanswered_means v o p ask = (
  (λ is.
      let none : any_usable v o p ask ≡ false = none_usable_of v o p ask is.1 in
      record {
        none_usable = none_of (members o) (λ j. is_usable v o p ask j) none;
        none_revivable = λ two j lt.
            let other : is_candidate v o p ask j ≡ false = none_of (members o) (λ k. is_candidate v o p ask k) is.1 j lt in
            rw (none, eq-eqb v 2 two) at other;
        home = λ j home. open_home v o p ask j is.0 home;
      }),
  (λ un.
      let none : any_usable v o p ask ≡ false = none_any (members o) (λ j. is_usable v o p ask j) un.none_usable in (
        open_of v o p ask (routed_member o ask) refl un.home,
        none_any (members o) (λ j. is_candidate v o p ask j)
            (λ j lt. elim (cases_Bool (v == 2)) [
              | inl two ↦ rw (none, two) (un.none_revivable (eqb-true v 2 two) j lt)
              | inr other ↦ rw (none, other) refl
            ]),
      )),
)
