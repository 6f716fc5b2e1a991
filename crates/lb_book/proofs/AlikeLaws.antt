-- Histories that are alike have the same picks, and go on alike: so a history and the one that goes on where it was cut.
use Rattle.std.proofs.Common.{◌≡◌, ℕ, zero, suc, ◌+◌, ◌*◌, ◌-◌, ◌^◌, ◌<◌, ◌≤◌, Bool, true, false, cond, not, max, List, [], ◌∷◌, ◌++◌, length, reverse, Option, Some, None, refl, sym, ap, ◌∙◌, subst, inl, inr, arith, mul-zero}
use Rattle.std.specs.Prelude.{◌==◌, ◌&&◌, ◌||◌, ◌↔◌, ◌/◌, count_by, is_none, is_some, nat_lt, slice_get, unwrap_or}
use Rattle.std.specs.List.{filter, list_any}
use Rattle.std.proofs.lemmas.Bool.{and_parts, cases_Bool}
use Rattle.std.proofs.lemmas.Bool.Decides.{nat_tests}
use Rattle.std.proofs.Math.Nat.{mul-add}
use Rattle.std.proofs.lemmas.List.{reverse-reverse}
use Rattle.std.proofs.lemmas.Option.{slice_get_cases}
use Rattle.lb_model.proofs.ChoiceFacts.{chosen_roomy}
use Rattle.lb_model.proofs.LoadLaws.{load-kept}
use Rattle.lb_model.proofs.OutFacts.{out-chosen, out-kept, out-opening, out-returned, out_is_on}
use Rattle.lb_book.proofs.PickLaws.{home_is}
use Rattle.lb_model.proofs.SettingFacts.{setting_in_range}
use Rattle.lb_model.proofs.TicketLaws.{chosen_select}
use Rattle.lb_model.specs.Choice.{IsChosen, IsFirstOf, IsLeast, IsPick, any_usable, begin_after, begins_trial, is_before, is_before_by, is_candidate, is_forced, is_revivable, is_usable, member_within, place_from, place_of, redirected, routed, routed_choice, routed_member, serves}
use Rattle.lb_model.specs.Free.{counts_as, is_in, is_revivable_by, is_usable_by, serves_by}
use Rattle.lb_model.specs.Journal.{any_of, chosen_in, chose, each, is_maintain, last_chosen, maintained_of, members, moment_of, newest_chosen, next_of}
use Rattle.lb_model.specs.Legal.{IsAnswered, IsDoable, IsLegalPast, IsNext, TargetExists, subject_of, taken_by}
use Rattle.lb_model.specs.Loads.{base_of, carried, commanded_load, gain_of, greatest, halved, halvings_at, is_cut, is_cut_command, load_by, load_in, load_of, units_by, units_chosen, units_of, units_returned}
use Rattle.lb_model.specs.Multiple.{multiple_of}
use Rattle.lb_model.specs.Present.{IsEnding, IsPresentMember, IsPresentRow}
use Rattle.lb_model.specs.Ranges.{redirects_within}
use Rattle.lb_model.specs.Settings.{Setting, called, commanded, common_after, common_of, distance_of, factor_of, pool_in, pool_of, redirect_of, setting_after, setting_in, setting_of, unit_of}
use Rattle.lb_model.specs.StateRows.{chosen_state, is_over, maintained_state, recovered_state, returned_state}
use Rattle.lb_model.specs.States.{counted_of, is_balanced, is_revivable_in, is_revived_in, is_usable_in, state_after, state_commanded, state_in, state_of}
use Rattle.lb_model.specs.Tickets.{Ticket, busy_of, gives_back, is_on, is_out, out, ticket_in}
use Rattle.lb_model.specs.declared.ask.Ask.{Ask}
use Rattle.lb_model.specs.declared.change.Change.{Change}
use Rattle.lb_model.specs.declared.change.Command.{Command}
use Rattle.lb_model.specs.declared.change.Command.TheVariants as command
use Rattle.lb_model.specs.declared.journal.Answer.{Answer}
use Rattle.lb_model.specs.declared.journal.Answer.TheVariants as answer
use Rattle.lb_model.specs.declared.journal.Call.{Call}
use Rattle.lb_model.specs.declared.journal.Call.TheVariants as call
use Rattle.lb_model.specs.declared.journal.Entry.{Entry}
use Rattle.lb_model.specs.declared.journal.How.{How}
use Rattle.lb_model.specs.declared.journal.How.TheVariants as how
use Rattle.lb_model.specs.declared.journal.Outcome.{Outcome}
use Rattle.lb_model.specs.declared.member.Activation.{Activation}
use Rattle.lb_model.specs.declared.member.MemberConfig.{MemberConfig}
use Rattle.lb_model.specs.declared.member.Method.{Method}
use Rattle.lb_model.specs.declared.member.Method.TheVariants as method
use Rattle.lb_model.specs.declared.opening.Opening.{Opening}
use Rattle.lb_model.specs.declared.state.MemberState.{MemberState}
use Rattle.lb_model.specs.declared.state.MemberState.TheVariants as state
use Rattle.lb_model.specs.declared.view.MemberRow.{MemberRow}

-- Two histories are alike to a pick and to a next entry: each looks at the same after p and after q.
pub record Alike (v : ℕ) (o : Opening) (p : List Entry) (o' : Opening) (q : List Entry) : Type 0 where
  pub count : members o' ≡ members o
  pub balances : o'.config.method ≡ o.config.method
  pub sticky : o'.config.sticky ≡ o.config.sticky
  pub force : o'.config.force ≡ o.config.force
  pub direct : o'.config.direct ≡ o.config.direct
  pub maintain : o'.config.maintain ≡ o.config.maintain
  pub recover : o'.config.recover ≡ o.config.recover
  pub next : next_of o' q ≡ next_of o p
  pub moment : moment_of o' q ≡ moment_of o p
  pub maintained : maintained_of o' q ≡ maintained_of o p
  pub chosen : last_chosen o' q ≡ last_chosen o p
  pub tickets : out o' q ≡ out o p
  pub pool : (m : ℕ) → m < members o → pool_of o' m ≡ pool_of o m
  pub setting : (m : ℕ) → m < members o → setting_of o' q m ≡ setting_of o p m
  pub states : (m : ℕ) → m < members o → state_of v o' q m ≡ state_of v o p m
  pub kept : (o.config.method ≡ method.Busyness → ⊥) → (m : ℕ) → m < members o → base_of v o' q m + gain_of o' q m ≡ base_of v o p m + gain_of o p m

pub flip : (v : ℕ) (o : Opening) (p : List Entry) (o' : Opening) (q : List Entry) → Alike v o p o' q → Alike v o' q o p
flip v o p o' q a = record {
  count = sym a.count;
  balances = sym a.balances;
  sticky = sym a.sticky;
  force = sym a.force;
  direct = sym a.direct;
  maintain = sym a.maintain;
  recover = sym a.recover;
  next = sym a.next;
  moment = sym a.moment;
  maintained = sym a.maintained;
  chosen = sym a.chosen;
  tickets = sym a.tickets;
  pool = λ m lt. sym (a.pool m (subst (λ (n : ℕ). m < n) a.count lt));
  setting = λ m lt. sym (a.setting m (subst (λ (n : ℕ). m < n) a.count lt));
  states = λ m lt. sym (a.states m (subst (λ (n : ℕ). m < n) a.count lt));
  kept = λ other m lt. sym (a.kept (λ is. other (a.balances ∙ is)) m (subst (λ (n : ℕ). m < n) a.count lt));
}

-- Tables and tests that agree below n.
each_agree : {A : Type 0} (n : ℕ) (f g : ℕ → A) → ((j : ℕ) → j < n → f j ≡ g j) → each n f ≡ each n g
each_agree zero f g same = refl
each_agree (suc n) f g same =
    ap (λ (xs : List _). xs ++ f n ∷ []) (each_agree n f g (λ j lt. same j (omega arith)))
    ∙ ap (λ (x : _). each n g ++ x ∷ []) (same n (omega arith))

any_agree : (n : ℕ) (f g : ℕ → Bool) → ((j : ℕ) → j < n → f j ≡ g j) → any_of n f ≡ any_of n g
any_agree zero f g same = refl
any_agree (suc n) f g same =
    ap (λ (b : Bool). b || f n) (any_agree n f g (λ j lt. same j (omega arith))) ∙ ap (λ (b : Bool). any_of n g || b) (same n (omega arith))

greatest_agree : (n : ℕ) (f g : ℕ → ℕ) → ((j : ℕ) → j < n → f j ≡ g j) → greatest n f ≡ greatest n g
greatest_agree zero f g same = refl
greatest_agree (suc n) f g same =
    ap (λ (k : ℕ). max k (f n)) (greatest_agree n f g (λ j lt. same j (omega arith))) ∙ ap (λ (k : ℕ). max (greatest n g) k) (same n (omega arith))

test_agree : (f : MemberState → Activation → Bool → ℕ → ℕ → Bool) (tried : Bool) (s s' : MemberState) (c c' : Activation) (b b' n n' : ℕ)
    → s ≡ s' → c ≡ c' → b ≡ b' → n ≡ n' → f s c tried b n ≡ f s' c' tried b' n'
test_agree f tried s s' c c' b b' n n' states counts busy pools =
    ap (λ (x : MemberState). f x c tried b n) states ∙ ap (λ (x : Activation). f s' x tried b n) counts
    ∙ ap (λ (x : ℕ). f s' c' tried x n) busy ∙ ap (λ (x : ℕ). f s' c' tried b' x) pools

load_agree : (x : Method) (r r' k k' : ℕ) → r ≡ r' → ((x ≡ method.Busyness → ⊥) → k ≡ k') → load_by x r k ≡ load_by x r' k'
load_agree method.Request r r' k k' runs keeps = keeps (λ is. cc)
load_agree method.Session r r' k k' runs keeps = keeps (λ is. cc)
load_agree method.Traffic r r' k k' runs keeps = keeps (λ is. cc)
load_agree method.Busyness r r' k k' runs keeps = runs

redirected_agree : (f g : ℕ → Bool) (x y : Option ℕ) → x ≡ y → ((r : ℕ) → y ≡ Some r → f r ≡ g r) → redirected f x ≡ redirected g y
redirected_agree f g x None same agree = ap (λ (z : Option ℕ). redirected f z) same
redirected_agree f g x (Some r) same agree =
    ap (λ (z : Option ℕ). redirected f z) same ∙ ap (λ (b : Bool). cond b (Some (r, how.Redirect)) None) (agree r refl)

routed_agree : (n : ℕ) (f g : ℕ → Bool) (s t : ℕ → Option ℕ) (home : Option ℕ) → ((j : ℕ) → home ≡ Some j → j < n)
    → ((j : ℕ) → j < n → f j ≡ g j) → ((j : ℕ) → j < n → s j ≡ t j) → ((j r : ℕ) → j < n → t j ≡ Some r → r < n) → routed f s home ≡ routed g t home
routed_agree n f g s t None within serving targets below = refl
routed_agree n f g s t (Some j) within serving targets below =
    let lt : j < n = within j refl in
    ap (λ (b : Bool). cond b (Some (j, how.Sticky)) (redirected f (s j))) (serving j lt)
    ∙ ap (λ (x : Option (ℕ × How)). cond (g j) (Some (j, how.Sticky)) x)
    (redirected_agree f g (s j) (t j) (targets j lt) (λ r is. serving r (below j r lt is)))

target_below : (n m : ℕ) (x : Option ℕ) (r : ℕ) → redirects_within n m x ≡ true → x ≡ Some r → r < n
target_below n m None r within is = absurd cc
target_below n m (Some t) r within is =
    let same : t ≡ r = cc in
    let parts = and_parts (nat_lt t n) (not (t == m)) within in
    let below : t < n = let lt : nat_lt t n ≡ true = parts.0 in grind (arith, nat_tests) in
    subst (λ (k : ℕ). k < n) same below

pool_some : (ms : List MemberConfig) (m : ℕ) → 0 < pool_in (slice_get ms m) → m < length ms
pool_some ms m some =
    elim (slice_get_cases ms m).1 [
      | inl found ↦ found.1
      | inr past ↦ absurd (let none : pool_in (slice_get ms m) ≡ 0 = rw past.1 refl in omega arith)
    ]

module _ (v : ℕ) (o : Opening) (p : List Entry) (o' : Opening) (q : List Entry) (a : Alike v o p o' q) where
  common_alike : common_of o' q ≡ common_of o p
  common_alike =
      ap (λ (n : ℕ). multiple_of (each n (λ m. factor_of o' q m))) a.count
      ∙ ap multiple_of (each_agree (members o) (λ m. factor_of o' q m) (λ m. factor_of o p m) (λ m lt. ap (λ (s : Setting). s.factor) (a.setting m lt)))

  unit_alike : (m : ℕ) → m < members o → unit_of o' q m ≡ unit_of o p m
  unit_alike m lt =
      ap (λ (n : ℕ). n / factor_of o' q m) common_alike ∙ ap (λ (s : Setting). common_of o p / s.factor) (a.setting m lt)

  pub busy_alike : (m : ℕ) → busy_of o' q m ≡ busy_of o p m
  busy_alike m = ap (λ (xs : List Ticket). count_by (λ x. x.1 == m) xs) a.tickets

  pub load_alike : (m : ℕ) → m < members o → load_of v o' q m ≡ load_of v o p m
  load_alike m lt =
      ap (λ (x : Method). load_by x (busy_of o' q m * unit_of o' q m) (base_of v o' q m + gain_of o' q m)) a.balances
      ∙ load_agree o.config.method (busy_of o' q m * unit_of o' q m) (busy_of o p m * unit_of o p m) (base_of v o' q m + gain_of o' q m) (base_of v o p m + gain_of o p m)
      (ap (λ (n : ℕ). n * unit_of o' q m) (busy_alike m) ∙ ap (λ (n : ℕ). busy_of o p m * n) (unit_alike m lt))
      (λ other. a.kept other m lt)

  counted_alike : (ask : Ask) (m : ℕ) → m < members o → counted_of o' q ask m ≡ counted_of o p ask m
  counted_alike ask m lt = ap (λ (s : Setting). counts_as s.activation (is_in ask.disabled m) (is_in ask.stopped m)) (a.setting m lt)

  usable_alike : (ask : Ask) (m : ℕ) → m < members o → is_usable v o' q ask m ≡ is_usable v o p ask m
  usable_alike ask m lt =
      test_agree (λ s c t b n. is_usable_by s c t b n) (is_in ask.tried m) (state_of v o' q m) (state_of v o p m) (counted_of o' q ask m) (counted_of o p ask m)
      (busy_of o' q m) (busy_of o p m) (pool_of o' m) (pool_of o m) (a.states m lt) (counted_alike ask m lt) (busy_alike m) (a.pool m lt)

  serves_alike : (ask : Ask) (m : ℕ) → m < members o → serves v o' q ask m ≡ serves v o p ask m
  serves_alike ask m lt =
      test_agree (λ s c t b n. serves_by s c t b n) (is_in ask.tried m) (state_of v o' q m) (state_of v o p m) (counted_of o' q ask m) (counted_of o p ask m)
      (busy_of o' q m) (busy_of o p m) (pool_of o' m) (pool_of o m) (a.states m lt) (counted_alike ask m lt) (busy_alike m) (a.pool m lt)

  revivable_alike : (ask : Ask) (m : ℕ) → m < members o → is_revivable v o' q ask m ≡ is_revivable v o p ask m
  revivable_alike ask m lt =
      test_agree (λ s c t b n. is_revivable_by s c t b n) (is_in ask.tried m) (state_of v o' q m) (state_of v o p m) (counted_of o' q ask m) (counted_of o p ask m)
      (busy_of o' q m) (busy_of o p m) (pool_of o' m) (pool_of o m) (a.states m lt) (counted_alike ask m lt) (busy_alike m) (a.pool m lt)

  any_usable_alike : (ask : Ask) → any_usable v o' q ask ≡ any_usable v o p ask
  any_usable_alike ask =
      ap (λ (n : ℕ). any_of n (λ j. is_usable v o' q ask j)) a.count
      ∙ any_agree (members o) (λ j. is_usable v o' q ask j) (λ j. is_usable v o p ask j) (λ j lt. usable_alike ask j lt)

  candidate_alike : (ask : Ask) (m : ℕ) → m < members o → is_candidate v o' q ask m ≡ is_candidate v o p ask m
  candidate_alike ask m lt =
      ap (λ (b : Bool). cond b (is_usable v o' q ask m) ((v == 2) && is_revivable v o' q ask m)) (any_usable_alike ask)
      ∙ ap (λ (b : Bool). cond (any_usable v o p ask) b ((v == 2) && is_revivable v o' q ask m)) (usable_alike ask m lt)
      ∙ ap (λ (b : Bool). cond (any_usable v o p ask) (is_usable v o p ask m) ((v == 2) && b)) (revivable_alike ask m lt)

  place_alike : (m : ℕ) → place_of o' q m ≡ place_of o p m
  place_alike m =
      ap (λ (n : ℕ). place_from n (begin_after (last_chosen o' q)) m) a.count
      ∙ ap (λ (x : Option ℕ). place_from (members o) (begin_after x) m) a.chosen

  before_alike : (j m : ℕ) → j < members o → m < members o → is_before v o' q j m ≡ is_before v o p j m
  before_alike j m lt lt' =
      ap (λ (s : Setting). is_before_by s.distance (load_of v o' q j) (place_of o' q j) (distance_of o' q m) (load_of v o' q m) (place_of o' q m)) (a.setting j lt)
      ∙ ap (λ (k : ℕ). is_before_by (distance_of o p j) k (place_of o' q j) (distance_of o' q m) (load_of v o' q m) (place_of o' q m)) (load_alike j lt)
      ∙ ap (λ (k : ℕ). is_before_by (distance_of o p j) (load_of v o p j) k (distance_of o' q m) (load_of v o' q m) (place_of o' q m)) (place_alike j)
      ∙ ap (λ (s : Setting). is_before_by (distance_of o p j) (load_of v o p j) (place_of o p j) s.distance (load_of v o' q m) (place_of o' q m)) (a.setting m lt')
      ∙ ap (λ (k : ℕ). is_before_by (distance_of o p j) (load_of v o p j) (place_of o p j) (distance_of o p m) k (place_of o' q m)) (load_alike m lt')
      ∙ ap (λ (k : ℕ). is_before_by (distance_of o p j) (load_of v o p j) (place_of o p j) (distance_of o p m) (load_of v o p m) k) (place_alike m)

  least_alike : (ask : Ask) (m : ℕ) → IsLeast v o p ask m → IsLeast v o' q ask m
  least_alike ask m least = record {
    within = subst (λ (n : ℕ). m < n) (sym a.count) least.within;
    passes = candidate_alike ask m least.within ∙ least.passes;
    first = λ j lt is.
        let below : j < members o = subst (λ (n : ℕ). j < n) a.count lt in
        before_alike j m below least.within ∙ least.first j below (sym (candidate_alike ask j below) ∙ is);
  }

  home_alike : (ask : Ask) → routed_member o' ask ≡ routed_member o ask
  home_alike ask =
      ap (λ (b : Bool). cond b (member_within (members o') ask.routed) None) a.sticky
      ∙ ap (λ (n : ℕ). cond o.config.sticky (member_within n ask.routed) None) a.count

  routed_alike : (ask : Ask) → IsLegalPast v o p → routed_choice v o' q ask ≡ routed_choice v o p ask
  routed_alike ask legal =
      ap (λ (x : Option ℕ). routed (λ m. serves v o' q ask m) (λ m. redirect_of o' q m) x) (home_alike ask)
      ∙ routed_agree (members o) (λ m. serves v o' q ask m) (λ m. serves v o p ask m) (λ m. redirect_of o' q m) (λ m. redirect_of o p m) (routed_member o ask)
      (λ j is. (home_is o ask j is).member) (λ j lt. serves_alike ask j lt) (λ j lt. ap (λ (s : Setting). s.redirect) (a.setting j lt))
      (λ j r lt is. target_below (members o) j (redirect_of o p j) r (setting_in_range v o p j legal lt).redirect is)

  forced_alike : (ask : Ask) → IsLegalPast v o p → is_forced v o' q ask ≡ is_forced v o p ask
  forced_alike ask legal =
      ap (λ (b : Bool). b && (is_some (routed_member o' ask) && is_none (routed_choice v o' q ask))) a.force
      ∙ ap (λ (x : Option ℕ). o.config.force && (is_some x && is_none (routed_choice v o' q ask))) (home_alike ask)
      ∙ ap (λ (x : Option (ℕ × How)). o.config.force && (is_some (routed_member o ask) && is_none x)) (routed_alike ask legal)

  chosen_below : (ask : Ask) (h : How) (m : ℕ) → IsChosen v o p ask h m → m < members o
  chosen_below ask h m is =
      let room : busy_of o p m < pool_of o m = (chosen_roomy v o p ask h m is).room in
      pool_some o.config.members m (omega arith)

  chosen_alike : (ask : Ask) (h : How) (m : ℕ) → IsLegalPast v o p → IsChosen v o p ask h m → IsChosen v o' q ask h m
  chosen_alike ask how.Sticky m legal is = routed_alike ask legal ∙ is
  chosen_alike ask how.Redirect m legal is = routed_alike ask legal ∙ is
  chosen_alike ask how.Balanced m legal is = (
    record { not_routed = routed_alike ask legal ∙ is.0.not_routed; not_forced = forced_alike ask legal ∙ is.0.not_forced },
    least_alike ask m is.1,
  )

  pub pick_alike : (ask : Ask) (x : Answer) → IsLegalPast v o p → IsPick v o p ask x → IsPick v o' q ask x
  pick_alike ask (answer.Chosen m t h probe) legal is = (
    chosen_alike ask h m legal is.0,
    is.1 ∙ sym a.next,
    is.2 ∙ ap begins_trial (sym (a.states m (chosen_below ask h m is.0))),
  )
  pick_alike ask answer.NoMember legal is = (
    record { not_routed = routed_alike ask legal ∙ is.0.not_routed; not_forced = forced_alike ask legal ∙ is.0.not_forced },
    ap (λ (n : ℕ). any_of n (λ j. is_candidate v o' q ask j)) a.count
        ∙ any_agree (members o) (λ j. is_candidate v o' q ask j) (λ j. is_candidate v o p ask j) (λ j lt. candidate_alike ask j lt)
        ∙ is.1,
  )
  pick_alike ask answer.Forced legal is = forced_alike ask legal ∙ is
  pick_alike ask answer.Done legal is = is

  out_alike : (t : ℕ) → is_out o' q t ≡ is_out o p t
  out_alike t = ap (λ (xs : List Ticket). list_any (λ x. x.0 == t) xs) a.tickets

  on_alike : (t m : ℕ) → is_out o p t ≡ true → is_on o' q t m ≡ is_on o p t m
  on_alike t m is =
      sym (out_is_on o' q t m (out_alike t ∙ is))
      ∙ ap (λ (xs : List Ticket). list_any (λ x. x.0 == t && x.1 == m) xs) a.tickets
      ∙ out_is_on o p t m is

  after_alike : (c : Call) → common_after o' q c ≡ common_after o p c
  after_alike c =
      ap (λ (n : ℕ). multiple_of (each n (λ m. (called m c (setting_of o' q m)).factor))) a.count
      ∙ ap multiple_of (each_agree (members o) (λ m. (called m c (setting_of o' q m)).factor) (λ m. (called m c (setting_of o p m)).factor)
      (λ m lt. ap (λ (s : Setting). (called m c s).factor) (a.setting m lt)))

  answered_alike : (e : Entry) (c : Call) → IsLegalPast v o p → IsAnswered v o p e c → IsAnswered v o' q e c
  answered_alike e (call.Select ask) legal is = (pick_alike ask e.answer legal is.0, is.1)
  answered_alike e (call.Return t w) legal is = (out_alike t ∙ is.0, is.1, is.2)
  answered_alike e call.Maintain legal is =
      let due : maintained_of o p + o.config.maintain ≤ e.at = is.0 in
      (omega (arith, a.maintained, a.maintain, due), is.1)
  answered_alike e (call.Admin c) legal is = (
    record {
      member = subst (λ (n : ℕ). subject_of c < n) (sym a.count) is.0.member;
      target = subst (λ (n : ℕ). TargetExists n c) (sym a.count) is.0.target;
      values = is.0.values;
      narrow = subst (λ (n : ℕ). n < 2 ^ 32) (sym (after_alike (call.Admin c))) is.0.narrow;
    },
    is.1,
  )

  pub next_alike : (e : Entry) → IsLegalPast v o p → IsNext v o p e → IsNext v o' q e
  next_alike e legal next = record {
    number = next.number ∙ sym a.next;
    moment = let late : moment_of o p ≤ e.at = next.moment in omega (arith, a.moment, late);
    room = subst (λ (xs : List Ticket). e.seq + length xs + taken_by e.call ≤ 2 ^ 48) (sym a.tickets) next.room;
    answered = answered_alike e e.call legal next.answered;
  }

  -- The states after one entry more.
  revived_alike : (ask : Ask) (x : Answer) (m : ℕ) → m < members o
      → is_revived_in v (λ j. state_of v o' q j) o' q ask x m ≡ is_revived_in v (λ j. state_of v o p j) o p ask x m
  revived_alike ask x m lt =
      ap (λ (b : Bool). (v == 2) && (is_balanced x && (not b && is_revivable v o' q ask m))) (any_usable_alike ask)
      ∙ ap (λ (b : Bool). (v == 2) && (is_balanced x && (not (any_usable v o p ask) && b))) (revivable_alike ask m lt)

  state_alike : (e : Entry) (c : Call) (m : ℕ) → m < members o → IsAnswered v o p e c
      → state_after v o' q e c (λ j. state_of v o' q j) m ≡ state_after v o p e c (λ j. state_of v o p j) m
  state_alike e (call.Select ask) m lt is =
      ap (λ (b : Bool). cond (chose m e.answer) (chosen_state e.seq (state_of v o' q m)) (cond b (recovered_state (state_of v o' q m)) (state_of v o' q m)))
      (revived_alike ask e.answer m lt)
      ∙ ap (λ (s : MemberState). cond (chose m e.answer) (chosen_state e.seq s)
      (cond (is_revived_in v (λ j. state_of v o p j) o p ask e.answer m) (recovered_state s) s)) (a.states m lt)
  state_alike e (call.Return t w) m lt is =
      ap (λ (b : Bool). cond b (returned_state o'.config.direct t w.kind e.at (state_of v o' q m)) (state_of v o' q m)) (on_alike t m is.0)
      ∙ ap (λ (b : Bool). cond (is_on o p t m) (returned_state b t w.kind e.at (state_of v o' q m)) (state_of v o' q m)) a.direct
      ∙ ap (λ (s : MemberState). cond (is_on o p t m) (returned_state o.config.direct t w.kind e.at s) s) (a.states m lt)
  state_alike e call.Maintain m lt is =
      ap (λ (n : ℕ). maintained_state e.at n (state_of v o' q m)) a.recover ∙ ap (λ (s : MemberState). maintained_state e.at o.config.recover s) (a.states m lt)
  state_alike e (call.Admin c) m lt is = ap (λ (s : MemberState). state_commanded c m s) (a.states m lt)

  -- The units of one entry more, and what it carries on.
  units_alike : (e : Entry) (c : Call) (m : ℕ) → IsAnswered v o p e c → units_by o' q e c m ≡ units_by o p e c m
  units_alike e (call.Select ask) m is = ap (λ (x : Method). cond (chose m e.answer) (units_chosen x ask.fresh) 0) a.balances
  units_alike e (call.Return t w) m is =
      ap (λ (b : Bool). cond b (units_returned o'.config.method w.bytes) 0) (on_alike t m is.0)
      ∙ ap (λ (x : Method). cond (is_on o p t m) (units_returned x w.bytes) 0) a.balances
  units_alike e call.Maintain m is = refl
  units_alike e (call.Admin c) m is = refl

  halvings_alike : (at : ℕ) → halvings_at o' q at ≡ halvings_at o p at
  halvings_alike at =
      ap (λ (n : ℕ). (at - n) / o'.config.maintain) a.maintained ∙ ap (λ (n : ℕ). (at - maintained_of o p) / n) a.maintain

  commanded_alike : (c : Command) (f g : ℕ → ℕ) (m : ℕ) → f m ≡ g m → commanded_load c f m ≡ commanded_load c g m
  commanded_alike (command.Update j change) f g m same = same
  commanded_alike (command.Reset j) f g m same = ap (λ (n : ℕ). cond (j == m) 0 n) same
  commanded_alike (command.Recover j) f g m same = same

  carried_alike : (e : Entry) (c : Call) (f g : ℕ → ℕ) (m : ℕ) → m < members o → ((j : ℕ) → j < members o → f j ≡ g j) → carried v o' q e c f m ≡ carried v o p e c g m
  carried_alike e (call.Select ask) f g m lt same = same m lt
  carried_alike e (call.Return t w) f g m lt same = same m lt
  carried_alike e call.Maintain f g m lt same =
      ap (λ (n : ℕ). cond (is_over e.at n (state_of v o' q m)) (greatest (members o') (λ j. halved (f j) (halvings_at o' q e.at))) (halved (f m) (halvings_at o' q e.at))) a.recover
      ∙ ap (λ (s : MemberState). cond (is_over e.at o.config.recover s) (greatest (members o') (λ j. halved (f j) (halvings_at o' q e.at))) (halved (f m) (halvings_at o' q e.at))) (a.states m lt)
      ∙ ap (λ (k : ℕ). cond (is_over e.at o.config.recover (state_of v o p m)) (greatest (members o') (λ j. halved (f j) k)) (halved (f m) k)) (halvings_alike e.at)
      ∙ ap (λ (n : ℕ). cond (is_over e.at o.config.recover (state_of v o p m)) (greatest n (λ j. halved (f j) (halvings_at o p e.at))) (halved (f m) (halvings_at o p e.at))) a.count
      ∙ ap (λ (n : ℕ). cond (is_over e.at o.config.recover (state_of v o p m)) n (halved (f m) (halvings_at o p e.at)))
      (greatest_agree (members o) (λ j. halved (f j) (halvings_at o p e.at)) (λ j. halved (g j) (halvings_at o p e.at)) (λ j below. ap (λ (n : ℕ). halved n (halvings_at o p e.at)) (same j below)))
      ∙ ap (λ (n : ℕ). cond (is_over e.at o.config.recover (state_of v o p m)) (greatest (members o) (λ j. halved (g j) (halvings_at o p e.at))) (halved n (halvings_at o p e.at))) (same m lt)
  carried_alike e (call.Admin c) f g m lt same = commanded_alike c f g m (same m lt)

-- The total of a member after an entry: a cut entry carries it on, and any other adds its own units.
cut_total : (v : ℕ) (o : Opening) (p : List Entry) (e : Entry) (m : ℕ) → is_cut e.call ≡ true
    → base_of v o (e ∷ p) m + gain_of o (e ∷ p) m ≡ carried v o p e e.call (λ j. base_of v o p j + gain_of o p j) m
cut_total v o p e m is =
    let base : base_of v o (e ∷ p) m ≡ carried v o p e e.call (λ j. base_of v o p j + gain_of o p j) m =
    ap (λ (b : Bool). cond b (carried v o p e e.call (λ j. base_of v o p j + gain_of o p j) m) (base_of v o p m)) is in
    let none : units_of o (e ∷ p) m ≡ 0 = ap (λ (b : Bool). cond b 0 (units_of o p m + units_by o p e e.call m)) is in
    let gain : gain_of o (e ∷ p) m ≡ 0 = ap (λ (n : ℕ). unit_of o (e ∷ p) m * n) none ∙ mul-zero (unit_of o (e ∷ p) m) in
    omega (arith, base, gain)

unwrap_none : {A : Type 0} (x : Option A) (d : A) → is_some x ≡ false → unwrap_or x d ≡ d
unwrap_none None d is = refl
unwrap_none (Some y) d is = absurd cc

factor_changed : (change : Change) (s : Setting) → is_some change.factor ≡ false → (setting_after change s).factor ≡ s.factor
factor_changed change s is = unwrap_none change.factor s.factor is

factor_commanded : (m : ℕ) (c : Command) (s : Setting) → is_cut_command c ≡ false → (commanded m c s).factor ≡ s.factor
factor_commanded m (command.Update j change) s is =
    elim (cases_Bool (j == m)) [
      | inl this ↦ rw this (factor_changed change s is)
      | inr other ↦ rw other refl
    ]
factor_commanded m (command.Reset j) s is = absurd cc
factor_commanded m (command.Recover j) s is = refl

factor_kept : (m : ℕ) (c : Call) (s : Setting) → is_cut c ≡ false → (called m c s).factor ≡ s.factor
factor_kept m (call.Select ask) s is = refl
factor_kept m (call.Return t w) s is = refl
factor_kept m call.Maintain s is = absurd cc
factor_kept m (call.Admin c) s is = factor_commanded m c s is

unit_kept : (o : Opening) (p : List Entry) (e : Entry) (m : ℕ) → is_cut e.call ≡ false → unit_of o (e ∷ p) m ≡ unit_of o p m
unit_kept o p e m is =
    let common : common_of o (e ∷ p) ≡ common_of o p =
    ap multiple_of (each_agree (members o) (λ j. (called j e.call (setting_of o p j)).factor) (λ j. factor_of o p j) (λ j lt. factor_kept j e.call (setting_of o p j) is)) in
    ap (λ (n : ℕ). n / factor_of o (e ∷ p) m) common ∙ ap (λ (n : ℕ). common_of o p / n) (factor_kept m e.call (setting_of o p m) is)

uncut_total : (v : ℕ) (o : Opening) (p : List Entry) (e : Entry) (m : ℕ) → is_cut e.call ≡ false
    → base_of v o (e ∷ p) m + gain_of o (e ∷ p) m ≡ base_of v o p m + gain_of o p m + unit_of o p m * units_by o p e e.call m
uncut_total v o p e m is =
    let base : base_of v o (e ∷ p) m ≡ base_of v o p m =
    ap (λ (b : Bool). cond b (carried v o p e e.call (λ j. base_of v o p j + gain_of o p j) m) (base_of v o p m)) is in
    let units : units_of o (e ∷ p) m ≡ units_of o p m + units_by o p e e.call m =
    ap (λ (b : Bool). cond b 0 (units_of o p m + units_by o p e e.call m)) is in
    let gain : gain_of o (e ∷ p) m ≡ unit_of o p m * (units_of o p m + units_by o p e e.call m) =
    ap (λ (n : ℕ). n * units_of o (e ∷ p) m) (unit_kept o p e m is) ∙ ap (λ (n : ℕ). unit_of o p m * n) units in
    let parts : unit_of o p m * (units_of o p m + units_by o p e e.call m) ≡ unit_of o p m * units_of o p m + unit_of o p m * units_by o p e e.call m =
    mul-add (unit_of o p m) (units_of o p m) (units_by o p e e.call m) in
    omega (arith, base, gain, parts)

module _ (v : ℕ) (o : Opening) (p : List Entry) (o' : Opening) (q : List Entry) (a : Alike v o p o' q) (e : Entry)
    (legal : IsLegalPast v o (e ∷ p)) (legal' : IsLegalPast v o' (e ∷ q)) where
  out_none : (c : Call) → ticket_in e.seq e.answer ≡ None → e.call ≡ c → out o' (e ∷ q) ≡ out o (e ∷ p)
  out_none (call.Select ask) none calls =
      out-kept o' q e none (λ t. ap (λ (c : Call). gives_back t c) calls) ∙ a.tickets ∙ sym (out-kept o p e none (λ t. ap (λ (c : Call). gives_back t c) calls))
  out_none (call.Return t w) none calls =
      out-returned o' q e t w none calls ∙ ap (λ (xs : List Ticket). filter (λ x. not (x.0 == t)) xs) a.tickets ∙ sym (out-returned o p e t w none calls)
  out_none call.Maintain none calls =
      out-kept o' q e none (λ t. ap (λ (c : Call). gives_back t c) calls) ∙ a.tickets ∙ sym (out-kept o p e none (λ t. ap (λ (c : Call). gives_back t c) calls))
  out_none (call.Admin c) none calls =
      out-kept o' q e none (λ t. ap (λ (x : Call). gives_back t x) calls) ∙ a.tickets ∙ sym (out-kept o p e none (λ t. ap (λ (x : Call). gives_back t x) calls))

  out_step : (x : Answer) → e.answer ≡ x → out o' (e ∷ q) ≡ out o (e ∷ p)
  out_step (answer.Chosen m t h probe) is =
      let select : (ask : Ask) × (e.call ≡ call.Select ask) = chosen_select v o p e m t h probe legal is in
      out-chosen v o' q e select.0 m t h probe legal'.1 legal'.0.number select.1 is
      ∙ ap (λ (xs : List Ticket). (e.seq, m) ∷ xs) a.tickets
      ∙ sym (out-chosen v o p e select.0 m t h probe legal.1 legal.0.number select.1 is)
  out_step answer.NoMember is = out_none e.call (ap (λ (x : Answer). ticket_in e.seq x) is) refl
  out_step answer.Forced is = out_none e.call (ap (λ (x : Answer). ticket_in e.seq x) is) refl
  out_step answer.Done is = out_none e.call (ap (λ (x : Answer). ticket_in e.seq x) is) refl

  kept_step : (o.config.method ≡ method.Busyness → ⊥) → (m : ℕ) → m < members o
      → base_of v o' (e ∷ q) m + gain_of o' (e ∷ q) m ≡ base_of v o (e ∷ p) m + gain_of o (e ∷ p) m
  kept_step other m lt =
      elim (cases_Bool (is_cut e.call)) [
        | inl cut ↦
            cut_total v o' q e m cut
            ∙ carried_alike v o p o' q a e e.call (λ j. base_of v o' q j + gain_of o' q j) (λ j. base_of v o p j + gain_of o p j) m lt (λ j below. a.kept other j below)
            ∙ sym (cut_total v o p e m cut)
        | inr uncut ↦
            uncut_total v o' q e m uncut
            ∙ ap (λ (n : ℕ). n + unit_of o' q m * units_by o' q e e.call m) (a.kept other m lt)
            ∙ ap (λ (n : ℕ). base_of v o p m + gain_of o p m + n * units_by o' q e e.call m) (unit_alike v o p o' q a m lt)
            ∙ ap (λ (n : ℕ). base_of v o p m + gain_of o p m + unit_of o p m * n) (units_alike v o p o' q a e e.call m legal.0.answered)
            ∙ sym (uncut_total v o p e m uncut)
      ]

  -- They go on alike.
  pub step_alike : Alike v o (e ∷ p) o' (e ∷ q)
  step_alike = record {
    count = a.count;
    balances = a.balances;
    sticky = a.sticky;
    force = a.force;
    direct = a.direct;
    maintain = a.maintain;
    recover = a.recover;
    next = let next : next_of o' q ≡ next_of o p = a.next in omega arith;
    moment = refl;
    maintained = ap (λ (n : ℕ). cond (is_maintain e.call) e.at n) a.maintained;
    chosen = ap (λ (x : Option ℕ). newest_chosen (chosen_in e.answer) x) a.chosen;
    tickets = out_step e.answer refl;
    pool = a.pool;
    setting = λ m lt. ap (λ (s : Setting). called m e.call s) (a.setting m lt);
    states = λ m lt. state_alike v o p o' q a e e.call m lt legal.0.answered;
    kept = kept_step;
  }

-- Where a history ends, the opening that goes on there is alike.
setting_at : (v : ℕ) (o : Opening) (p : List Entry) (o' : Opening) → IsEnding v o p o' → (m : ℕ) → m < members o
    → (setting_of o' [] m ≡ setting_of o p m) × (pool_of o' m ≡ pool_of o m)
setting_at v o p o' ends m lt =
    elim (slice_get_cases o.config.members m).1 [
      | inl former ↦
          elim (slice_get_cases o'.config.members m).1 [
            | inl found ↦
                let is : IsPresentMember o p m former.0 found.0 = ends.member m former.0 found.0 former.2 found.2 in
                let at_start : setting_of o' [] m ≡ setting_in (Some found.0) = ap setting_in found.2 in
                let same : setting_in (Some found.0) ≡ setting_of o p m =
                ap (λ (n : ℕ). record { factor = n; distance = found.0.distance; activation = found.0.activation; redirect = found.0.redirect }) is.factor
                ∙ ap (λ (n : ℕ). record { factor = factor_of o p m; distance = n; activation = found.0.activation; redirect = found.0.redirect }) is.distance
                ∙ ap (λ (x : Activation). record { factor = factor_of o p m; distance = distance_of o p m; activation = x; redirect = found.0.redirect }) is.activation
                ∙ ap (λ (x : Option ℕ). record { factor = factor_of o p m; distance = distance_of o p m; activation = (setting_of o p m).activation; redirect = x }) is.redirect in
                (at_start ∙ same, ap pool_in found.2 ∙ is.pool ∙ sym (ap pool_in former.2))
            | inr past ↦ absurd (omega (arith, ends.count))
          ]
      | inr past ↦ absurd (omega arith)
    ]

row_at : (v : ℕ) (o : Opening) (p : List Entry) (o' : Opening) → IsEnding v o p o' → (m : ℕ) → m < members o
    → (state_of v o' [] m ≡ state_of v o p m) × (base_of v o' [] m ≡ load_of v o p m)
row_at v o p o' ends m lt =
    elim (slice_get_cases o'.rows m).1 [
      | inl row ↦
          let is : IsPresentRow v o p m row.0 = ends.rows.row m row.0 row.2 in
          (ap state_in row.2 ∙ is.state, ap load_in row.2 ∙ is.load)
      | inr past ↦ absurd (omega (arith, ends.rows.count))
    ]

pub ending_alike : (v : ℕ) (o : Opening) (p : List Entry) (o' : Opening) → IsEnding v o p o' → Alike v o p o' []
ending_alike v o p o' ends = record {
  count = ends.count;
  balances = ends.method;
  sticky = ends.sticky;
  force = ends.force;
  direct = ends.direct;
  maintain = ends.maintain;
  recover = ends.recover;
  next = let next : o'.next ≡ next_of o p = ends.next in omega arith;
  moment = ends.at;
  maintained = ends.maintained;
  chosen = ends.chosen;
  tickets = out-opening o' ∙ ap (λ (xs : List Ticket). reverse xs) ends.out ∙ reverse-reverse (out o p);
  pool = λ m lt. (setting_at v o p o' ends m lt).1;
  setting = λ m lt. (setting_at v o p o' ends m lt).0;
  states = λ m lt. (row_at v o p o' ends m lt).0;
  kept = λ other m lt.
      let none : gain_of o' [] m ≡ 0 = mul-zero (unit_of o' [] m) in
      let base : base_of v o' [] m ≡ load_of v o p m = (row_at v o p o' ends m lt).1 in
      let load : load_of v o p m ≡ base_of v o p m + gain_of o p m = load-kept v o p m other in
      omega (arith, none, base, load);
}

-- So is every history that goes on from there, and it is legal also without the cut.
pub record GoesOn (v : ℕ) (o : Opening) (p : List Entry) (o' : Opening) (q : List Entry) : Type 0 where
  pub legal : IsLegalPast v o (q ++ p)
  pub alike : Alike v o (q ++ p) o' q

pub goes_on : (v : ℕ) (o : Opening) (p : List Entry) (o' : Opening) (q : List Entry) → IsLegalPast v o p → IsEnding v o p o' → IsLegalPast v o' q → GoesOn v o p o' q
goes_on v o p o' [] legal ends later = record { legal = legal; alike = ending_alike v o p o' ends }
goes_on v o p o' (e ∷ q) legal ends later =
    let before : GoesOn v o p o' q = goes_on v o p o' q legal ends later.1 in
    let next : IsNext v o (q ++ p) e = next_alike v o' q o (q ++ p) (flip v o (q ++ p) o' q before.alike) e later.1 later.0 in
    record {
      legal = (next, before.legal);
      alike = step_alike v o (q ++ p) o' q before.alike e (next, before.legal) later;
    }

pub pick_after_cut : (v : ℕ) (o : Opening) (p : List Entry) (o' : Opening) (q : List Entry) (ask : Ask) (x : Answer) → IsLegalPast v o p → IsEnding v o p o' → IsLegalPast v o' q
    → IsPick v o' q ask x ↔ IsPick v o (q ++ p) ask x
pick_after_cut v o p o' q ask x legal ends later =
    let on : GoesOn v o p o' q = goes_on v o p o' q legal ends later in (
      (λ is. pick_alike v o' q o (q ++ p) (flip v o (q ++ p) o' q on.alike) ask x later is),
      (λ is. pick_alike v o (q ++ p) o' q on.alike ask x on.legal is),
    )
