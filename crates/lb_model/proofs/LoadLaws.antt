-- After a maintenance the loads are the halved ones, and a recovered member has the greatest of them.
use Rattle.std.proofs.Common.{◌≡◌, ℕ, suc, zero, ◌+◌, ◌*◌, ◌<◌, ◌≤◌, max, cond, List, ◌∷◌, ◌⊎◌, refl, sym, ap, ◌∙◌, inl, inr, arith}
use Rattle.std.proofs.lemmas.Bool.{cases_lt}
use Rattle.std.proofs.Math.Nat.{mul-zero}
use Rattle.lb_model.specs.Journal.{members}
use Rattle.lb_model.specs.Laws.{HalvesLoads}
use Rattle.lb_model.specs.Loads.{base_of, carried, gain_of, greatest, halved, halvings_at, is_cut, load_by, load_of, units_by, units_of}
use Rattle.lb_model.specs.Settings.{unit_of}
use Rattle.lb_model.specs.Tickets.{busy_of}
use Rattle.lb_model.specs.declared.journal.Call.{Call}
use Rattle.lb_model.specs.declared.journal.Call.TheVariants as call
use Rattle.lb_model.specs.declared.journal.Entry.{Entry}
use Rattle.lb_model.specs.declared.member.Method.{Method}
use Rattle.lb_model.specs.declared.member.Method.TheVariants as method
use Rattle.lb_model.specs.declared.opening.Opening.{Opening}

pub le-greatest : (n : ℕ) (f : ℕ → ℕ) (j : ℕ) → j < n → f j ≤ greatest n f
le-greatest zero f j lt = absurd (omega arith)
le-greatest (suc n) f j lt =
    elim (cases_lt j n) [
      | inl below ↦ let before : f j ≤ greatest n f = le-greatest n f j below in omega arith
      | inr above ↦ let last : j ≡ n = omega arith in let here : f j ≡ f n = ap f last in omega arith
    ]

max_cases : (a b : ℕ) → (max a b ≡ a) ⊎ (max a b ≡ b)
max_cases a b = elim (cases_lt a b) [ inl lt ↦ inr (omega arith) | inr ge ↦ inl (omega arith) ]

pub greatest_at : (n : ℕ) (f : ℕ → ℕ) → 0 < n → (j : ℕ) × (j < n) × (greatest n f ≡ f j)
greatest_at zero f some = absurd (omega arith)
greatest_at (suc zero) f some = (0, omega arith, omega arith)
greatest_at (suc (suc n)) f some =
    let before : (j : ℕ) × (j < suc n) × (greatest (suc n) f ≡ f j) = greatest_at (suc n) f (omega arith) in
    elim (max_cases (greatest (suc n) f) (f (suc n))) [
      | inl old ↦ (before.0, omega (arith, before.1), old ∙ before.2)
      | inr new ↦ (suc n, omega arith, new)
    ]

kept_load : (x : Method) (running kept : ℕ) → (x ≡ method.Busyness → ⊥) → load_by x running kept ≡ kept
kept_load method.Request running kept not_busyness = refl
kept_load method.Session running kept not_busyness = refl
kept_load method.Traffic running kept not_busyness = refl
kept_load method.Busyness running kept not_busyness = absurd (not_busyness refl)

pub load-kept : (v : ℕ) (o : Opening) (p : List Entry) (m : ℕ) → (o.config.method ≡ method.Busyness → ⊥)
    → load_of v o p m ≡ base_of v o p m + gain_of o p m
load-kept v o p m not_busyness =
    kept_load o.config.method (busy_of o p m * unit_of o p m) (base_of v o p m + gain_of o p m) not_busyness

maintained_base : (v : ℕ) (o : Opening) (p : List Entry) (e : Entry) (m : ℕ) → e.call ≡ call.Maintain
    → base_of v o (e ∷ p) m ≡ carried v o p e call.Maintain (λ j. base_of v o p j + gain_of o p j) m
maintained_base v o p e m calls =
    ap (λ (c : Call). cond (is_cut c) (carried v o p e c (λ j. base_of v o p j + gain_of o p j) m) (base_of v o p m)) calls

maintained_gain : (o : Opening) (p : List Entry) (e : Entry) (m : ℕ) → e.call ≡ call.Maintain → gain_of o (e ∷ p) m ≡ 0
maintained_gain o p e m calls =
    let none : units_of o (e ∷ p) m ≡ 0 =
    ap (λ (c : Call). cond (is_cut c) 0 (units_of o p m + units_by o p e e.call m)) calls in
    ap (λ (u : ℕ). unit_of o (e ∷ p) m * u) none ∙ mul-zero (unit_of o (e ∷ p) m)

maintained_load : (v : ℕ) (o : Opening) (p : List Entry) (e : Entry) (m : ℕ) → (o.config.method ≡ method.Busyness → ⊥)
    → e.call ≡ call.Maintain
    → load_of v o (e ∷ p) m ≡ carried v o p e call.Maintain (λ j. base_of v o p j + gain_of o p j) m
maintained_load v o p e m not_busyness calls =
    let all : load_of v o (e ∷ p) m ≡ base_of v o (e ∷ p) m + gain_of o (e ∷ p) m = load-kept v o (e ∷ p) m not_busyness in
    let base : base_of v o (e ∷ p) m ≡ carried v o p e call.Maintain (λ j. base_of v o p j + gain_of o p j) m =
    maintained_base v o p e m calls in
    let gain : gain_of o (e ∷ p) m ≡ 0 = maintained_gain o p e m calls in
    omega (arith, all, base, gain)

halved_before : (v : ℕ) (o : Opening) (p : List Entry) (m k : ℕ) → (o.config.method ≡ method.Busyness → ⊥)
    → halved (base_of v o p m + gain_of o p m) k ≡ halved (load_of v o p m) k
halved_before v o p m k not_busyness = ap (λ (x : ℕ). halved x k) (sym (load-kept v o p m not_busyness))

pub halves_loads : (v : ℕ) (o : Opening) (p : List Entry) (e : Entry) → (o.config.method ≡ method.Busyness → ⊥)
    → e.call ≡ call.Maintain → HalvesLoads v o p e
halves_loads v o p e not_busyness calls = record {
  kept = λ m not_over.
      maintained_load v o p e m not_busyness calls
      ∙ rw not_over (halved_before v o p m (halvings_at o p e.at) not_busyness);
  lifted = λ m j over lt.
      let after : load_of v o (e ∷ p) m ≡ greatest (members o) (λ i. halved (base_of v o p i + gain_of o p i) (halvings_at o p e.at)) =
      maintained_load v o p e m not_busyness calls ∙ rw over refl in
      let most : halved (base_of v o p j + gain_of o p j) (halvings_at o p e.at)
      ≤ greatest (members o) (λ i. halved (base_of v o p i + gain_of o p i) (halvings_at o p e.at)) =
      le-greatest (members o) (λ i. halved (base_of v o p i + gain_of o p i) (halvings_at o p e.at)) j lt in
      let same : halved (base_of v o p j + gain_of o p j) (halvings_at o p e.at) ≡ halved (load_of v o p j) (halvings_at o p e.at) =
      halved_before v o p j (halvings_at o p e.at) not_busyness in
      omega (arith, after, most, same);
  lifted_to = λ m over.
      let after : load_of v o (e ∷ p) m ≡ greatest (members o) (λ i. halved (base_of v o p i + gain_of o p i) (halvings_at o p e.at)) =
      maintained_load v o p e m not_busyness calls ∙ rw over refl in
      let found : (j : ℕ) × (j < members o) × (greatest (members o) (λ i. halved (base_of v o p i + gain_of o p i) (halvings_at o p e.at))
      ≡ halved (base_of v o p j + gain_of o p j) (halvings_at o p e.at)) =
      greatest_at (members o) (λ i. halved (base_of v o p i + gain_of o p i) (halvings_at o p e.at)) (omega (arith, o.config.count.some)) in
      (found.0, found.1, after ∙ found.2 ∙ halved_before v o p found.0 (halvings_at o p e.at) not_busyness);
}
