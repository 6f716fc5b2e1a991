-- The law of weights, by induction over the entries of the present epoch.
use Rattle.std.proofs.Common.{◌≡◌, ℕ, ◌+◌, ◌*◌, ◌/◌, ◌<◌, ◌≤◌, Bool, true, false, cond, List, [], ◌∷◌, Option, Some, None, refl, sym, ap, ◌∙◌, subst, inl, inr, arith}
use Rattle.std.specs.Prelude.{◌==◌, is_some, unwrap_or}
use Rattle.std.specs.Bool.{OnFalse}
use Rattle.std.proofs.lemmas.Bool.{cases_Bool, eqb-true}
use Rattle.lb_model.specs.Choice.{IsChosen, IsPick, is_usable}
use Rattle.lb_model.specs.Journal.{chose, members}
use Rattle.lb_model.specs.Laws.{IsBalancedChoice}
use Rattle.lb_model.specs.Legal.{IsAnswered, IsLegalPast}
use Rattle.lb_model.specs.Loads.{base_of, is_cut, load_of, units_by, units_chosen, units_of, units_returned}
use Rattle.lb_model.specs.Multiple.{multiple_of}
use Rattle.lb_model.specs.Present.{IsPresent}
use Rattle.lb_model.specs.Settings.{Setting, called, commanded, common_of, factor_of, setting_of, unit_of}
use Rattle.lb_model.specs.States.{is_balanced}
use Rattle.lb_model.specs.Tickets.{is_on}
use Rattle.lb_model.proofs.ChoiceLaws.{good_choice}
use Rattle.lb_model.proofs.LoadLaws.{load-kept}
use Rattle.lb_model.specs.declared.ask.Ask.{Ask}
use Rattle.lb_model.specs.declared.change.Command.{Command}
use Rattle.lb_model.specs.declared.change.Command.TheVariants as command
use Rattle.lb_model.specs.declared.journal.Answer.{Answer}
use Rattle.lb_model.specs.declared.journal.Answer.TheVariants as answer
use Rattle.lb_model.specs.declared.journal.Call.{Call}
use Rattle.lb_model.specs.declared.journal.Call.TheVariants as call
use Rattle.lb_model.specs.declared.journal.Entry.{Entry}
use Rattle.lb_model.specs.declared.journal.How.TheVariants as how
use Rattle.lb_model.specs.declared.journal.Outcome.{Outcome}
use Rattle.lb_model.specs.declared.member.Method.{Method}
use Rattle.lb_model.specs.declared.member.Method.TheVariants as method
use Rattle.lb_model.specs.declared.opening.Opening.{Opening}
use Rattle.lb_model.specs.declared.view.View.{View}
use Rattle.lb_book.specs.Journal.{IsSound, Journal, past_of}
use Rattle.lb_book.specs.Weights.{AreEven, AreLevel, IsEvenAsk, IsEvenEntry, IsEvenEpoch}
use Rattle.lb_book.proofs.BoundLaws.{row_member}
use Rattle.lb_book.proofs.CallLaws.{each-agree}

-- An entry that isn't a cut leaves the factors, and so the units.
unwrapped : (new : Option ℕ) (f : ℕ) → is_some new ≡ false → unwrap_or new f ≡ f
unwrapped None f none = refl
unwrapped (Some n) f none = cc

factor-commanded : (m : ℕ) (c : Command) (s : Setting) → is_cut (call.Admin c) ≡ false → (commanded m c s).factor ≡ s.factor
factor-commanded m (command.Update j change) s uncut =
    elim (cases_Bool (j == m)) [
      | inl this ↦ rw this (unwrapped change.factor s.factor uncut)
      | inr other ↦ rw other refl
    ]
factor-commanded m (command.Reset j) s uncut = cc
factor-commanded m (command.Recover j) s uncut = refl

factor-called : (m : ℕ) (c : Call) (s : Setting) → is_cut c ≡ false → (called m c s).factor ≡ s.factor
factor-called m (call.Select ask) s uncut = refl
factor-called m (call.Return t w) s uncut = refl
factor-called m call.Maintain s uncut = cc
factor-called m (call.Admin c) s uncut = factor-commanded m c s uncut

unit-uncut : (o : Opening) (p : List Entry) (e : Entry) (m : ℕ) → is_cut e.call ≡ false → unit_of o (e ∷ p) m ≡ unit_of o p m
unit-uncut o p e m uncut =
    let common : common_of o (e ∷ p) ≡ common_of o p =
    ap multiple_of (each-agree (members o) (λ k. factor_of o (e ∷ p) k) (λ k. factor_of o p k)
    (λ k lt. factor-called k e.call (setting_of o p k) uncut)) in
    ap (λ (n : ℕ). n / factor_of o (e ∷ p) m) common
    ∙ ap (λ (f : ℕ). common_of o p / f) (factor-called m e.call (setting_of o p m) uncut)

-- By Request each load is the base and the units of the choices.
not_busyness : (x : Method) → x ≡ method.Request → x ≡ method.Busyness → ⊥
not_busyness x request busyness = let same : method.Request ≡ method.Busyness = sym request ∙ busyness in cc

load-request : (v : ℕ) (o : Opening) (p : List Entry) (m : ℕ) → o.config.method ≡ method.Request
    → load_of v o p m ≡ base_of v o p m + unit_of o p m * units_of o p m
load-request v o p m request = load-kept v o p m (not_busyness o.config.method request)

base-uncut : (v : ℕ) (o : Opening) (p : List Entry) (e : Entry) (m : ℕ) → is_cut e.call ≡ false → base_of v o (e ∷ p) m ≡ base_of v o p m
base-uncut v o p e m uncut = rw uncut refl

load-uncut : (v : ℕ) (o : Opening) (p : List Entry) (e : Entry) (m : ℕ) → o.config.method ≡ method.Request → is_cut e.call ≡ false
    → load_of v o (e ∷ p) m ≡ load_of v o p m + unit_of o p m * units_by o p e e.call m
load-uncut v o p e m request uncut =
    let base : base_of v o (e ∷ p) m ≡ base_of v o p m = base-uncut v o p e m uncut in
    let units : units_of o (e ∷ p) m ≡ units_of o p m + units_by o p e e.call m = rw uncut refl in
    let unit : unit_of o (e ∷ p) m ≡ unit_of o p m = unit-uncut o p e m uncut in
    let after : load_of v o (e ∷ p) m ≡ base_of v o (e ∷ p) m + unit_of o (e ∷ p) m * units_of o (e ∷ p) m = load-request v o (e ∷ p) m request in
    let before : load_of v o p m ≡ base_of v o p m + unit_of o p m * units_of o p m = load-request v o p m request in
    after ∙ rw (base, units, unit) (summed (base_of v o p m) (unit_of o p m) (units_of o p m) (units_by o p e e.call m) (load_of v o p m) before)
  where
    summed : (base unit units by load : ℕ) → load ≡ base + unit * units → base + unit * (units + by) ≡ load + unit * by
    summed base unit units by load is = grind arith

load-first : (v : ℕ) (o : Opening) (m : ℕ) → o.config.method ≡ method.Request → load_of v o [] m ≡ base_of v o [] m
load-first v o m request = load-request v o [] m request ∙ grind arith

load-cut : (v : ℕ) (o : Opening) (p : List Entry) (e : Entry) (m : ℕ) → o.config.method ≡ method.Request → is_cut e.call ≡ true
    → load_of v o (e ∷ p) m ≡ base_of v o (e ∷ p) m
load-cut v o p e m request is =
    let units : units_of o (e ∷ p) m ≡ 0 = rw is refl in
    load-request v o (e ∷ p) m request ∙ rw units (grind arith)

-- The units of an entry: a choice gives one to its member, and no other entry gives any.
units-select : (o : Opening) (p : List Entry) (e : Entry) (ask : Ask) (a : Answer) (i : ℕ) → o.config.method ≡ method.Request
    → e.call ≡ call.Select ask → e.answer ≡ a → units_by o p e e.call i ≡ cond (chose i a) 1 0
units-select o p e ask a i request calls answered =
    ap (λ (c : Call). units_by o p e c i) calls
    ∙ ap (λ (x : Answer). cond (chose i x) (units_chosen o.config.method ask.fresh) 0) answered
    ∙ ap (λ (k : Method). cond (chose i a) (units_chosen k ask.fresh) 0) request

either_way : (b : Bool) (x y : ℕ) → x ≡ y → cond b x y ≡ y
either_way true x y same = same
either_way false x y same = refl

units-return : (o : Opening) (p : List Entry) (e : Entry) (t : ℕ) (w : Outcome) (i : ℕ) → o.config.method ≡ method.Request
    → e.call ≡ call.Return t w → units_by o p e e.call i ≡ 0
units-return o p e t w i request calls =
    ap (λ (c : Call). units_by o p e c i) calls
    ∙ ap (λ (k : Method). cond (is_on o p t i) (units_returned k w.bytes) 0) request
    ∙ either_way (is_on o p t i) 0 0 refl

-- No load is above another by more than a unit of it.
abbrev IsLevel : ℕ → Opening → List Entry → Type 0
IsLevel v o p = (i j : ℕ) → i < members o → j < members o → load_of v o p i ≤ load_of v o p j + unit_of o p i

step_lightest : (li lj li' lj' unit by gain : ℕ) → li' ≡ li + unit * by → lj' ≡ lj + gain → by ≡ 1 → li ≤ lj → li' ≤ lj' + unit
step_lightest li lj li' lj' unit by gain is js one le =
    let more : li' ≡ li + unit * 1 = is ∙ ap (λ (k : ℕ). li + unit * k) one in omega arith

step_other : (li lj li' lj' unit by gain : ℕ) → li' ≡ li + unit * by → lj' ≡ lj + gain → by ≡ 0 → li ≤ lj + unit → li' ≤ lj' + unit
step_other li lj li' lj' unit by gain is js none le =
    let same : li' ≡ li + unit * 0 = is ∙ ap (λ (k : ℕ). li + unit * k) none in omega arith

quiet_level : (v : ℕ) (o : Opening) (p : List Entry) (e : Entry) → o.config.method ≡ method.Request → is_cut e.call ≡ false
    → ((i : ℕ) → units_by o p e e.call i ≡ 0) → IsLevel v o p → IsLevel v o (e ∷ p)
quiet_level v o p e request uncut quiet level i j lt lt' =
    subst (λ (u : ℕ). load_of v o (e ∷ p) i ≤ load_of v o (e ∷ p) j + u) (sym (unit-uncut o p e i uncut))
    (step_other (load_of v o p i) (load_of v o p j) (load_of v o (e ∷ p) i) (load_of v o (e ∷ p) j) (unit_of o p i) (units_by o p e e.call i)
    (unit_of o p j * units_by o p e e.call j) (load-uncut v o p e i request uncut) (load-uncut v o p e j request uncut) (quiet i) (level i j lt lt'))

-- A balanced choice among members that are all usable and equally near has the least load.
lightest : (v : ℕ) (o : Opening) (p : List Entry) (e : Entry) (ask : Ask) (m j : ℕ) → IsEvenAsk v o p e ask → IsChosen v o p ask how.Balanced m
    → j < members o → load_of v o p m ≤ load_of v o p j
lightest v o p e ask m j even chosen lt =
    let good : IsBalancedChoice v o p ask m = good_choice v o p ask m how.Balanced chosen in
    elim good [
      | inl least ↦ (least.least j lt (even.usable j lt)).lighter (even.near j m lt least.member)
      | inr none ↦
          let unusable : is_usable v o p ask j ≡ false = none.0 j lt in
          let usable : is_usable v o p ask j ≡ true = even.usable j lt in
          absurd cc
    ]

balanced_level : (v : ℕ) (o : Opening) (p : List Entry) (e : Entry) (ask : Ask) (m t : ℕ) (probe : Bool) → o.config.method ≡ method.Request
    → is_cut e.call ≡ false → e.call ≡ call.Select ask → e.answer ≡ answer.Chosen m t how.Balanced probe
    → IsEvenAsk v o p e ask → IsChosen v o p ask how.Balanced m → IsLevel v o p → IsLevel v o (e ∷ p)
balanced_level v o p e ask m t probe request uncut calls answered even chosen level i j lt lt' =
    let units : units_by o p e e.call i ≡ cond (m == i) 1 0 = units-select o p e ask (answer.Chosen m t how.Balanced probe) i request calls answered in
    subst (λ (u : ℕ). load_of v o (e ∷ p) i ≤ load_of v o (e ∷ p) j + u) (sym (unit-uncut o p e i uncut))
    (elim (cases_Bool (m == i)) [
      | inl this ↦
          let light : load_of v o p i ≤ load_of v o p j =
          subst (λ (k : ℕ). load_of v o p k ≤ load_of v o p j) (eqb-true m i this) (lightest v o p e ask m j even chosen lt') in
          step_lightest (load_of v o p i) (load_of v o p j) (load_of v o (e ∷ p) i) (load_of v o (e ∷ p) j) (unit_of o p i) (units_by o p e e.call i)
          (unit_of o p j * units_by o p e e.call j) (load-uncut v o p e i request uncut) (load-uncut v o p e j request uncut)
          (units ∙ ap (λ (b : Bool). cond b 1 0) this) light
      | inr other ↦
          step_other (load_of v o p i) (load_of v o p j) (load_of v o (e ∷ p) i) (load_of v o (e ∷ p) j) (unit_of o p i) (units_by o p e e.call i)
          (unit_of o p j * units_by o p e e.call j) (load-uncut v o p e i request uncut) (load-uncut v o p e j request uncut)
          (units ∙ ap (λ (b : Bool). cond b 1 0) other) (level i j lt lt')
    ])

select_level : (v : ℕ) (o : Opening) (p : List Entry) (e : Entry) (ask : Ask) (a : Answer) → o.config.method ≡ method.Request
    → is_cut e.call ≡ false → e.call ≡ call.Select ask → e.answer ≡ a → is_balanced a ≡ true → IsEvenAsk v o p e ask → IsPick v o p ask a
    → IsLevel v o p → IsLevel v o (e ∷ p)
select_level v o p e ask (answer.Chosen m t how.Sticky probe) request uncut calls answered balanced even pick level = absurd cc
select_level v o p e ask (answer.Chosen m t how.Redirect probe) request uncut calls answered balanced even pick level = absurd cc
select_level v o p e ask (answer.Chosen m t how.Balanced probe) request uncut calls answered balanced even pick level =
    balanced_level v o p e ask m t probe request uncut calls answered even pick.0 level
select_level v o p e ask answer.NoMember request uncut calls answered balanced even pick level = absurd cc
select_level v o p e ask answer.Forced request uncut calls answered balanced even pick level = absurd cc
select_level v o p e ask answer.Done request uncut calls answered balanced even pick level = absurd cc

entry_level : (v : ℕ) (o : Opening) (p : List Entry) (e : Entry) (c : Call) → e.call ≡ c → o.config.method ≡ method.Request
    → is_cut e.call ≡ false → IsAnswered v o p e c → IsEvenEntry v o p e c → IsLevel v o p → IsLevel v o (e ∷ p)
entry_level v o p e (call.Select ask) calls request uncut answered even level =
    select_level v o p e ask e.answer request uncut calls refl even.balanced even answered.0 level
entry_level v o p e (call.Return t w) calls request uncut answered even level =
    quiet_level v o p e request uncut (λ i. units-return o p e t w i request calls) level
entry_level v o p e call.Maintain calls request uncut answered even level =
    quiet_level v o p e request uncut (λ i. ap (λ (c : Call). units_by o p e c i) calls) level
entry_level v o p e (call.Admin c) calls request uncut answered even level =
    quiet_level v o p e request uncut (λ i. ap (λ (x : Call). units_by o p e x i) calls) level

base_level : (base base' load load' unit : ℕ) → load ≡ base → load' ≡ base' → base ≡ base' → load ≤ load' + unit
base_level base base' load load' unit is is' same = omega arith

epoch_level : (v : ℕ) (o : Opening) (p : List Entry) → IsLegalPast v o p → o.config.method ≡ method.Request
    → ((i j : ℕ) → i < members o → j < members o → base_of v o p i ≡ base_of v o p j) → AreEven v o p → IsLevel v o p
epoch_level v o [] legal request level even i j lt lt' =
    base_level (base_of v o [] i) (base_of v o [] j) (load_of v o [] i) (load_of v o [] j) (unit_of o [] i)
    (load-first v o i request) (load-first v o j request) (level i j lt lt')
epoch_level v o (e ∷ p) legal request level even i j lt lt' =
    elim (cases_Bool (is_cut e.call)) [
      | inl is ↦
          base_level (base_of v o (e ∷ p) i) (base_of v o (e ∷ p) j) (load_of v o (e ∷ p) i) (load_of v o (e ∷ p) j) (unit_of o (e ∷ p) i)
          (load-cut v o p e i request is) (load-cut v o p e j request is) (level i j lt lt')
      | inr uncut ↦
          let both : IsEvenEntry v o p e e.call × AreEven v o p =
          subst (λ (b : Bool). OnFalse b (IsEvenEntry v o p e e.call × AreEven v o p)) uncut even in
          let before : (i j : ℕ) → i < members o → j < members o → base_of v o p i ≡ base_of v o p j =
          λ k n k_lt n_lt. sym (base-uncut v o p e k uncut) ∙ level k n k_lt n_lt ∙ base-uncut v o p e n uncut in
          entry_level v o p e e.call refl request uncut legal.0.answered both.0
          (λ k n k_lt n_lt. epoch_level v o p legal.1 request before both.1 k n k_lt n_lt) i j lt lt'
    ]

-- The view of a sound Book shows that loads are level.
pub view_level : (b : Journal) (view : View) → IsSound b → IsPresent b.rules b.opening (past_of b) view
    → IsEvenEpoch b.rules b.opening (past_of b) → AreLevel b view
view_level b view sound present even i j row other found found' =
    let within : i < members b.opening = row_member b.rules b.opening (past_of b) view i row present found in
    let within' : j < members b.opening = row_member b.rules b.opening (past_of b) view j other present found' in
    let level : load_of b.rules b.opening (past_of b) i ≤ load_of b.rules b.opening (past_of b) j + unit_of b.opening (past_of b) i =
    epoch_level b.rules b.opening (past_of b) sound even.method even.level even.asks i j within within' in
    let shown : row.load ≡ load_of b.rules b.opening (past_of b) i = (present.rows.row i row found).load in
    let shown' : other.load ≡ load_of b.rules b.opening (past_of b) j = (present.rows.row j other found').load in
    omega (arith, level, shown, shown')
