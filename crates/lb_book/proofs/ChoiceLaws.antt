-- The choice among the rows is that of the history before the ask.
use Rattle.std.proofs.Common.{◌≡◌, ℕ, zero, suc, ◌<◌, Bool, List, length, Option, Some, None, get_or, refl, sym, ◌∙◌, ap, subst, inl, inr, arith}
use Rattle.std.specs.Prelude.{nat_lt, IfSome}
use Rattle.std.proofs.lemmas.Bool.{cases_Bool, ltb-true}
use Rattle.lb_model.specs.Journal.{members, any_of, next_of}
use Rattle.lb_model.specs.Settings.{redirect_of}
use Rattle.lb_model.specs.Choice.{is_usable, is_revivable, is_candidate, serves, any_usable, begin_after, begins_trial, member_within, redirected, routed, routed_member, routed_choice, is_forced, is_before, IsFirstOf, IsLeast, IsOpen, IsChosen, IsPick}
use Rattle.lb_model.specs.declared.ask.Ask.{Ask}
use Rattle.lb_model.specs.declared.member.Activation.TheVariants as Activation
use Rattle.lb_model.specs.declared.state.MemberState.TheVariants as State
use Rattle.lb_model.specs.declared.journal.Answer.{Answer}
use Rattle.lb_model.specs.declared.journal.How.{How}
use Rattle.lb_model.specs.declared.journal.Entry.{Entry}
use Rattle.lb_model.specs.declared.opening.Opening.{Opening}
use Rattle.lb_rules.specs.declared.standing.Standing.{Standing}
use Rattle.lb_rules.specs.declared.among.Among.{Among}
use Rattle.lb_rules.specs.Standings.{passes, serves_row}
use Rattle.lb_rules.specs.Least.{row_before}
use Rattle.lb_rules.specs.Picks.{serves_at, redirect_at, passes_at, routed_at, is_forced_at, any_usable_at, is_candidate_at, is_before_at, IsLeastAt, IsOpenAt, IsChosenAt, IsPickAt, HasRoomFor}
use Rattle.lb_book.specs.declared.present.Present.{Present}
use Rattle.lb_book.specs.Kept.{IsStanding, IsNow}

-- A row for where none is.
unfoldable pub nobody : Standing
nobody = record {
  state = State.Ok;
  load = 0;
  busy = 0;
  pool = 0;
  unit = 0;
  activation = Activation.Stopped;
  factor = 0;
  distance = 0;
  redirect = None;
}

pub any_of-agree : (n : ℕ) (f g : ℕ → Bool) → ((j : ℕ) → j < n → f j ≡ g j) → any_of n f ≡ any_of n g
any_of-agree zero f g same = refl
any_of-agree (suc n) f g same = rw (any_of-agree n f g (λ j lt. same j (omega arith)), same n (omega arith)) refl

module _ (v : ℕ) (o : Opening) (p : List Entry) (now : Present) (h : IsNow v o p now) (ask : Ask) where
  pub usable-same : (m : ℕ) (d : Standing) → m < members o
      → passes Among.Usable ask m (get_or now.rows.items m d) ≡ is_usable v o p ask m
  usable-same m d lt =
      let r : IsStanding v o p m (get_or now.rows.items m d) = h.rows m d lt in
      rw (r.state, r.activation, r.busy, r.pool) refl

  pub revivable-same : (m : ℕ) (d : Standing) → m < members o
      → passes Among.Revivable ask m (get_or now.rows.items m d) ≡ is_revivable v o p ask m
  revivable-same m d lt =
      let r : IsStanding v o p m (get_or now.rows.items m d) = h.rows m d lt in
      rw (r.state, r.activation, r.busy, r.pool) refl

  pub serves-same : (m : ℕ) (d : Standing) → m < members o
      → serves_row ask m (get_or now.rows.items m d) ≡ serves v o p ask m
  serves-same m d lt =
      let r : IsStanding v o p m (get_or now.rows.items m d) = h.rows m d lt in
      rw (r.state, r.activation, r.busy, r.pool) refl

  pub before-same : (j m : ℕ) (d : Standing) → j < members o → m < members o
      → row_before (length now.rows.items) (begin_after now.chosen) j (get_or now.rows.items j d) m (get_or now.rows.items m d)
      ≡ is_before v o p j m
  before-same j m d jlt mlt =
      let r : IsStanding v o p j (get_or now.rows.items j d) = h.rows j d jlt in
      let s : IsStanding v o p m (get_or now.rows.items m d) = h.rows m d mlt in
      rw (h.whole, h.chosen, r.distance, r.load, s.distance, s.load) refl

-- The first of equal tests in equal orders is the same.
first-agree : (n : ℕ) (f g : ℕ → Bool) (b c : ℕ → ℕ → Bool) → ((j : ℕ) → j < n → f j ≡ g j)
    → ((j k : ℕ) → j < n → k < n → b j k ≡ c j k) → (m : ℕ) → IsFirstOf n f b m → IsFirstOf n g c m
first-agree n f g b c same_test same_order m first = record {
  within = first.within;
  passes = sym (same_test m first.within) ∙ first.passes;
  first = λ j lt is. sym (same_order j m lt first.within) ∙ first.first j lt (same_test j lt ∙ is);
}

-- A route over equal tests is the same.
redirected-same : (n : ℕ) (f g : ℕ → Bool) → ((j : ℕ) → j < n → f j ≡ g j) → (target : Option ℕ)
    → IfSome target (λ t. t < n) → redirected f target ≡ redirected g target
redirected-same n f g same None within = refl
redirected-same n f g same (Some t) within = rw (same t within) refl

routed-same : (n : ℕ) (f g : ℕ → Bool) (r s : ℕ → Option ℕ) → ((j : ℕ) → j < n → f j ≡ g j) → ((j : ℕ) → j < n → r j ≡ s j)
    → ((j : ℕ) → j < n → IfSome (r j) (λ t. t < n)) → (home : Option ℕ) → IfSome home (λ m. m < n)
    → routed f r home ≡ routed g s home
routed-same n f g r s same_test same_redirect targets None within = refl
routed-same n f g r s same_test same_redirect targets (Some m) within =
    rw (same_test m within, ← same_redirect m within, redirected-same n f g same_test (r m) (targets m within)) refl

member_within-below : (n : ℕ) (asked : Option ℕ) → IfSome (member_within n asked) (λ m. m < n)
member_within-below n None = tt
member_within-below n (Some m) =
    elim (cases_Bool (nat_lt m n)) [
      | inl lt ↦ rw lt (ltb-true m n lt)
      | inr ge ↦ rw ge tt
    ]

home_within : (o : Opening) (ask : Ask) → IfSome (routed_member o ask) (λ m. m < members o)
home_within o ask =
    elim (cases_Bool o.config.sticky) [
      | inl sticky ↦ rw sticky (member_within-below (members o) ask.routed)
      | inr free ↦ rw free tt
    ]

module _ (v : ℕ) (o : Opening) (p : List Entry) (now : Present) (h : IsNow v o p now) (ask : Ask) (d : Standing) where
  routed_now : routed_at o.config now.rows.items d ask ≡ routed_choice v o p ask
  routed_now =
      routed-same (members o) (serves_at now.rows.items d ask) (λ m. serves v o p ask m)
      (redirect_at now.rows.items d) (λ m. redirect_of o p m)
      (λ j lt. serves-same v o p now h ask j d lt) (λ j lt. (h.rows j d lt).redirect) (λ j lt. (h.rows j d lt).target)
      (routed_member o ask) (home_within o ask)

  forced_now : is_forced_at o.config now.rows.items d ask ≡ is_forced v o p ask
  forced_now = rw routed_now refl

  open_now : IsOpenAt o.config now.rows.items d ask → IsOpen v o p ask
  open_now is = record { not_routed = sym routed_now ∙ is.not_routed; not_forced = sym forced_now ∙ is.not_forced }

  pub any_usable_now : any_usable_at now.rows.items d ask ≡ any_usable v o p ask
  any_usable_now =
      ap (λ (n : ℕ). any_of n (passes_at Among.Usable now.rows.items d ask)) h.whole
      ∙ any_of-agree (members o) (passes_at Among.Usable now.rows.items d ask) (λ j. is_usable v o p ask j)
      (λ j lt. usable-same v o p now h ask j d lt)

  candidate_now : (j : ℕ) → j < members o → is_candidate_at v now.rows.items d ask j ≡ is_candidate v o p ask j
  candidate_now j lt =
      rw (any_usable_now, usable-same v o p now h ask j d lt, revivable-same v o p now h ask j d lt) refl

  least_now : (m : ℕ) → IsLeastAt v now.rows.items d now.chosen ask m → IsLeast v o p ask m
  least_now m first =
      first-agree (members o) (λ j. is_candidate_at v now.rows.items d ask j) (λ j. is_candidate v o p ask j)
      (λ j k. is_before_at now.rows.items d now.chosen j k) (λ j k. is_before v o p j k) candidate_now
      (λ j k jlt klt. before-same v o p now h ask j k d jlt klt) m
      (subst (λ (n : ℕ). IsFirstOf n (λ j. is_candidate_at v now.rows.items d ask j)
      (λ j k. is_before_at now.rows.items d now.chosen j k) m) h.whole first)

  chosen_now : (how : How) (m : ℕ) → IsChosenAt v o.config now.rows.items d now.chosen ask how m → IsChosen v o p ask how m
  chosen_now How.Sticky m is = sym routed_now ∙ is
  chosen_now How.Redirect m is = sym routed_now ∙ is
  chosen_now How.Balanced m is = (open_now is.0, least_now m is.1)

  -- The pick of the rows is that of the history before the ask.
  pub pick_now : (next : ℕ) (a : Answer) → next ≡ next_of o p → HasRoomFor now.rows.items a
      → IsPickAt v o.config now.rows.items d now.chosen next ask a → IsPick v o p ask a
  pick_now next (Answer.Chosen m t how probe) number room is =
      let within : m < members o = omega (arith, room.0, h.whole) in
      (chosen_now how m is.0, is.1 ∙ number, is.2 ∙ ap begins_trial (h.rows m d within).state)
  pick_now next Answer.NoMember number room is = (
    open_now is.0,
    sym (any_of-agree (members o) (λ j. is_candidate_at v now.rows.items d ask j) (λ j. is_candidate v o p ask j) candidate_now)
        ∙ ap (λ (n : ℕ). any_of n (λ j. is_candidate_at v now.rows.items d ask j)) (sym h.whole) ∙ is.1,
  )
  pick_now next Answer.Forced number room is = sym forced_now ∙ is
  pick_now next Answer.Done number room is = is
