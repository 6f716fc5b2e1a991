-- The settings that a legal history leaves are in their ranges, and L is within its limit.
use Rattle.std.proofs.Common.{◌≡◌, ℕ, ◌<◌, ◌≤◌, ◌^◌, ◌==◌, true, List, [], ◌∷◌, take, Option, Some, None, refl, subst, ap, ◌∙◌, arith, inl, inr}
use Rattle.std.specs.Prelude.{slice_get, unwrap_or}
use Rattle.lb_model.specs.Journal.{members, each}
use Rattle.lb_model.specs.Legal.{IsLegalPast, IsAnswered, IsDoable, IsFactor, IsDistance, RedirectExists, LeadsElsewhere, HasValues}
use Rattle.std.proofs.lemmas.Bool.{cases_Bool, eqb-true}
use Rattle.std.proofs.lemmas.Bool.Decides.{nat_tests}
use Rattle.std.proofs.lemmas.List.{take_all, length-map}
use Rattle.std.proofs.lemmas.Option.{slice_get_cases}
use Rattle.lb_model.proofs.ListFacts.{each-slice_get}
use Rattle.lb_model.specs.Multiple.{multiple_of}
use Rattle.lb_model.specs.Ranges.{IsInRange, factors_in, redirects_within}
use Rattle.lb_model.specs.Settings.{Setting, setting_in, setting_of, setting_after, redirect_after, commanded, called, common_of, common_after}
use Rattle.lb_model.specs.declared.change.Change.{Change}
use Rattle.lb_model.specs.declared.change.Command.{Command}
use Rattle.lb_model.specs.declared.change.Command.TheVariants as command
use Rattle.lb_model.specs.declared.change.Redirect.{Redirect}
use Rattle.lb_model.specs.declared.change.Redirect.TheVariants as redirect
use Rattle.lb_model.specs.declared.journal.Call.{Call}
use Rattle.lb_model.specs.declared.journal.Call.TheVariants as call
use Rattle.lb_model.specs.declared.journal.Entry.{Entry}
use Rattle.lb_model.specs.declared.member.MemberConfig.{MemberConfig}
use Rattle.lb_model.specs.declared.opening.Opening.{Opening}

-- The values of member m of n are in their ranges.
pub record IsSetting (n m : ℕ) (s : Setting) : Type 0 where
  pub factor_above : 1 ≤ s.factor
  pub factor_below : s.factor ≤ 65535
  pub distance_below : s.distance ≤ 65535
  pub redirect : redirects_within n m s.redirect ≡ true

opening_setting : (o : Opening) (m : ℕ) → m < members o → IsSetting (members o) m (setting_in (slice_get o.config.members m))
opening_setting o m lt =
    elim (slice_get_cases o.config.members m).1 [
      | inl found ↦
          let is : IsInRange (members o) m found.0 = o.config.in_range.at m found.0 found.2 in
          rw found.2 (record {
            factor_above = is.factor_above;
            factor_below = is.factor_below;
            distance_below = is.distance_below;
            redirect = is.redirect;
          })
      | inr past ↦ absurd (omega arith)
    ]

factor_after : (f : ℕ) (new : Option ℕ) → IsFactor new → (1 ≤ f) × (f ≤ 65535) → (1 ≤ unwrap_or new f) × (unwrap_or new f ≤ 65535)
factor_after f None is former = former
factor_after f (Some n) is former = is

distance_after : (d : ℕ) (new : Option ℕ) → IsDistance new → d ≤ 65535 → unwrap_or new d ≤ 65535
distance_after d None is former = former
distance_after d (Some n) is former = is

redirect_kept : (n m : ℕ) (former : Option ℕ) (new : Redirect) → RedirectExists n new → LeadsElsewhere m new
    → redirects_within n m former ≡ true → redirects_within n m (redirect_after new former) ≡ true
redirect_kept n m former redirect.Keep exists other is = is
redirect_kept n m former redirect.None exists other is = refl
redirect_kept n m former (redirect.To t) exists other is = grind (arith, nat_tests)

changed_setting : (n m : ℕ) (change : Change) (s : Setting) → RedirectExists n change.redirect
    → HasValues (command.Update m change) → IsSetting n m s → IsSetting n m (setting_after change s)
changed_setting n m change s exists values is =
    let factor : (1 ≤ unwrap_or change.factor s.factor) × (unwrap_or change.factor s.factor ≤ 65535) =
    factor_after s.factor change.factor values.0 (is.factor_above, is.factor_below) in
    record {
      factor_above = factor.0;
      factor_below = factor.1;
      distance_below = distance_after s.distance change.distance values.1 is.distance_below;
      redirect = redirect_kept n m s.redirect change.redirect exists values.2 is.redirect;
    }

commanded_setting : (o : Opening) (p : List Entry) (c : Command) (m : ℕ) (s : Setting)
    → IsDoable o p c → IsSetting (members o) m s → IsSetting (members o) m (commanded m c s)
commanded_setting o p (command.Update j change) m s doable is =
    elim (cases_Bool (j == m)) [
      | inl this ↦
          let same : j ≡ m = eqb-true j m this in
          let values : HasValues (command.Update m change) =
          subst (λ (k : ℕ). HasValues (command.Update k change)) same doable.values in
          rw this (changed_setting (members o) m change s doable.target values is)
      | inr other ↦ rw other is
    ]
commanded_setting o p (command.Reset j) m s doable is = is
commanded_setting o p (command.Recover j) m s doable is = is

called_setting : (v : ℕ) (o : Opening) (p : List Entry) (e : Entry) (c : Call) (m : ℕ) (s : Setting)
    → IsAnswered v o p e c → IsSetting (members o) m s → IsSetting (members o) m (called m c s)
called_setting v o p e (call.Select ask) m s answered is = is
called_setting v o p e (call.Return t w) m s answered is = is
called_setting v o p e call.Maintain m s answered is = is
called_setting v o p e (call.Admin c) m s answered is = commanded_setting o p c m s answered.0 is

-- Each member's setting is in its ranges.
pub setting_in_range : (v : ℕ) (o : Opening) (p : List Entry) (m : ℕ) → IsLegalPast v o p → m < members o
    → IsSetting (members o) m (setting_of o p m)
setting_in_range v o [] m legal lt = opening_setting o m lt
setting_in_range v o (e ∷ p) m legal lt =
    called_setting v o p e e.call m (setting_of o p m) legal.0.answered (setting_in_range v o p m legal.1 lt)

-- L of the opening is that of its configuration.
pub common-opening : (o : Opening) → common_of o [] ≡ multiple_of (factors_in o.config.members)
common-opening o =
    let ms : List MemberConfig = o.config.members in
    let all : each (members o) (λ m. (setting_in (slice_get ms m)).factor) ≡ take (members o) (factors_in ms) =
    each-slice_get (λ (m : MemberConfig). m.factor) (λ (found : Option MemberConfig). (setting_in found).factor) (λ m. refl) ms (members o) (omega arith) in
    ap multiple_of (all ∙ take_all (members o) (factors_in ms) (omega (arith, length-map ms (λ (m : MemberConfig). m.factor))))

common_kept : (v : ℕ) (o : Opening) (p : List Entry) (e : Entry) (c : Call) → IsAnswered v o p e c
    → common_of o p < 2 ^ 32 → common_after o p c < 2 ^ 32
common_kept v o p e (call.Select ask) answered narrow = narrow
common_kept v o p e (call.Return t w) answered narrow = narrow
common_kept v o p e call.Maintain answered narrow = narrow
common_kept v o p e (call.Admin c) answered narrow = answered.0.narrow

-- L fits 32 bits after every legal history.
pub common_narrow : (v : ℕ) (o : Opening) (p : List Entry) → IsLegalPast v o p → common_of o p < 2 ^ 32
common_narrow v o [] legal = rw common-opening o.config.narrow
common_narrow v o (e ∷ p) legal = common_kept v o p e e.call legal.0.answered (common_narrow v o p legal.1)
