-- The kept present of a Book after a command, and the commands that may be done.
use Rattle.std.proofs.Common.{◌≡◌, ℕ, suc, zero, ◌+◌, ◌*◌, ◌/◌, ◌%◌, ◌^◌, ◌<◌, ◌≤◌, false, List, [], ◌∷◌, ◌++◌, length, reverse, get_or, take, Option, Some, None, refl, sym, ◌∙◌, ap, subst, inl, inr, arith, add-one}
use Rattle.std.specs.Prelude.{◌==◌, All, IfSome, is_some, unwrap_or, if◌then◌else◌}
use Rattle.std.specs.Int.{◌∣◌}
use Rattle.std.proofs.lemmas.Bool.{cases_Bool, cases_lt}
use Rattle.std.proofs.lemmas.List.{length_push, get_or_push, get_or_append_left, take_more_set}
use Rattle.std.proofs.Math.ListN.{set}
use Rattle.std.proofs.lemmas.List.Elements.{All-get_or}
use Rattle.std.proofs.lemmas.Nat.Gcd.{mod-eq-zero_of_dvd}
use Rattle.std.proofs.Math.Nat.{div-le_self, mul-le-mul}
use Rattle.lb_model.specs.Journal.{each, members, next_of}
use Rattle.lb_model.specs.Legal.{HasValues, IsDoable, IsFactor, IsLegalPast, IsNext}
use Rattle.lb_model.specs.Loads.{base_of, gain_of, load_by, load_of, units_of}
use Rattle.lb_model.specs.Multiple.{multiple_of}
use Rattle.lb_model.specs.Settings.{Setting, common_after, common_of, commanded, factor_of, setting_of, unit_of}
use Rattle.lb_model.specs.StateRows.{recovered_state}
use Rattle.lb_model.specs.States.{state_of}
use Rattle.lb_model.specs.Tickets.{busy_of}
use Rattle.lb_model.proofs.BoundFacts.{busy-kept}
use Rattle.lb_model.proofs.MultipleFacts.{multiple_of-each}
use Rattle.lb_model.proofs.OutFacts.{out-kept}
use Rattle.lb_model.proofs.SettingFacts.{IsSetting, setting_in_range}
use Rattle.lb_model.specs.declared.change.Change.{Change}
use Rattle.lb_model.specs.declared.change.Command.{Command}
use Rattle.lb_model.specs.declared.change.Command.TheVariants as command
use Rattle.lb_model.specs.declared.journal.Answer.{Answer}
use Rattle.lb_model.specs.declared.journal.Call.{Call}
use Rattle.lb_model.specs.declared.journal.Entry.{Entry}
use Rattle.lb_model.specs.declared.member.Method.{Method}
use Rattle.lb_model.specs.declared.opening.Opening.{Opening}
use Rattle.lb_model.specs.declared.state.MemberState.{MemberState}
use Rattle.lb_model.specs.declared.state.MemberState.TheVariants as State
use Rattle.lb_book.specs.declared.present.Present.{Present}
use Rattle.lb_rules.specs.declared.standing.Standing.{Standing}
use Rattle.lb_book.specs.Commanded.{common_commanded, commanded_row, recovered_row, reset_row, row_setting, setting_commanded}
use Rattle.lb_book.specs.Kept.{IsNow, IsStanding}
use Rattle.lb_book.specs.Stepped.{AreStepped}
use Rattle.lb_book.proofs.CallLaws.{each-agree, light-by}
use Rattle.lb_book.proofs.ChoiceLaws.{nobody}
use Rattle.lb_book.proofs.KeptLaws.{next_is}
use Rattle.lb_book.proofs.OpenedLaws.{target-within}

abbrev pub admin_entry : (seq session at : ℕ) → Command → Entry
admin_entry seq session at c = record { seq = seq; session = session; at = at; call = Call.Admin c; answer = Answer.Done }

-- A row's setting is the member's.
pub setting-now : (v : ℕ) (o : Opening) (p : List Entry) (m : ℕ) (row : Standing) → IsStanding v o p m row → row_setting row ≡ setting_of o p m
setting-now v o p m row h = rw (h.factor, h.distance, h.activation, h.redirect) refl

-- A table over all members, by place.
each-count : {A : Type 0} (n : ℕ) (f : ℕ → A) → length (each n f) ≡ n
each-count zero f = refl
each-count (suc n) f = omega (arith, length_push (each n f) (f n), each-count n f)

each-at : {A : Type 0} (n : ℕ) (f : ℕ → A) (j : ℕ) (d : A) → j < n → get_or (each n f) j d ≡ f j
each-at zero f j d lt = absurd (omega arith)
each-at (suc n) f j d lt =
    elim (cases_lt j n) [
      | inl below ↦
          get_or_append_left (each n f) (f n ∷ []) d j (omega (arith, below, each-count n f)) ∙ each-at n f j d below
      | inr above ↦
          let last : j ≡ n = omega arith in
          get_or_push (each n f) (f n) d j (omega (arith, last, each-count n f)) ∙ ap f (sym last)
    ]

pub each-above : (n : ℕ) (f : ℕ → ℕ) → ((j : ℕ) → j < n → 0 < f j) → All (λ k. 0 < k) (each n f)
each-above n f above = λ j d lt.
    let within : j < n = omega (arith, lt, each-count n f) in
    subst (λ (k : ℕ). 0 < k) (sym (each-at n f j d within)) (above j within)

-- One value more at the front of a table.
pub each-set : (table : List ℕ) (n here : ℕ) (f : ℕ → ℕ) → n < length table → take n table ≡ each n f → here ≡ f n
    → take (n + 1) (set table n here) ≡ each (n + 1) f
each-set table n here f lt is at =
    let last : each n f ++ here ∷ [] ≡ each n f ++ f n ∷ [] = ap (λ (x : ℕ). each n f ++ x ∷ []) at in
    take_more_set table n here lt ∙ ap (λ (xs : List ℕ). xs ++ here ∷ []) is ∙ last ∙ ap (λ (k : ℕ). each k f) (sym (add-one n))

-- Each number of a table divides their common multiple.
each-divides : (n : ℕ) (f : ℕ → ℕ) (j : ℕ) → j < n → multiple_of (each n f) % f j ≡ 0
each-divides n f j lt =
    subst (λ (k : ℕ). multiple_of (each n f) % k ≡ 0) (each-at n f j 0 lt)
    (mod-eq-zero_of_dvd (get_or (each n f) j 0)
    (All-get_or (λ k. k ∣ multiple_of (each n f)) (each n f) j 0 (omega (arith, lt, each-count n f)) (multiple_of-each (each n f))))

-- The rows have the same common multiple as the definitions.
pub common-now : (v : ℕ) (o : Opening) (p : List Entry) (now : Present) (c : Command) → IsNow v o p now
    → common_commanded c now.rows.items nobody ≡ common_after o p (Call.Admin c)
common-now v o p now c h =
    ap (λ (n : ℕ). multiple_of (each n (λ m. (setting_commanded c m (get_or now.rows.items m nobody)).factor))) h.whole
    ∙ ap multiple_of (each-agree (members o) (λ m. (setting_commanded c m (get_or now.rows.items m nobody)).factor)
    (λ m. (commanded m c (setting_of o p m)).factor)
    (λ m lt. ap (λ (s : Setting). (commanded m c s).factor) (setting-now v o p m (get_or now.rows.items m nobody) (h.rows m nobody lt))))

-- No factor is 0 before the command.
pub factors_now : (v : ℕ) (o : Opening) (p : List Entry) (now : Present) → IsNow v o p now → IsLegalPast v o p
    → (m : ℕ) (d : Standing) → m < length now.rows.items → 0 < (get_or now.rows.items m d).factor
factors_now v o p now h legal m d lt =
    let within : m < members o = omega (arith, h.whole, lt) in
    let above : 1 ≤ factor_of o p m = (setting_in_range v o p m legal within).factor_above in
    let same : (get_or now.rows.items m d).factor ≡ factor_of o p m = (h.rows m d within).factor in
    omega arith

-- Nor after it, where its values are in range.
factor_given : (f : ℕ) (new : Option ℕ) → IsFactor new → 0 < f → 0 < unwrap_or new f
factor_given f None is above = above
factor_given f (Some n) is above = omega (arith, is.0)

pub factor_left : (c : Command) (m : ℕ) (row : Standing) → HasValues c → 0 < row.factor → 0 < (setting_commanded c m row).factor
factor_left (command.Update j change) m row values above =
    elim (cases_Bool (j == m)) [
      | inl this ↦ rw this (factor_given row.factor change.factor values.0 above)
      | inr other ↦ rw other above
    ]
factor_left (command.Reset j) m row values above = above
factor_left (command.Recover j) m row values above = above

-- Where an update gives no factor, the members' units stay.
factor-kept : (j m : ℕ) (change : Change) (s : Setting) → is_some change.factor ≡ false
    → (commanded m (command.Update j change) s).factor ≡ s.factor
factor-kept j m change s none =
    elim (cases_Bool (j == m)) [
      | inl this ↦ rw this (unwrapped change.factor s.factor none)
      | inr other ↦ rw other refl
    ]
  where
    unwrapped : (new : Option ℕ) (f : ℕ) → is_some new ≡ false → unwrap_or new f ≡ f
    unwrapped None f none = refl
    unwrapped (Some n) f none = absurd cc

unit-kept : (o : Opening) (p : List Entry) (seq session at j m : ℕ) (change : Change) → is_some change.factor ≡ false
    → unit_of o (admin_entry seq session at (command.Update j change) ∷ p) m ≡ unit_of o p m
unit-kept o p seq session at j m change none =
    let e : Entry = admin_entry seq session at (command.Update j change) in
    let common : common_of o (e ∷ p) ≡ common_of o p =
    ap multiple_of (each-agree (members o) (λ k. factor_of o (e ∷ p) k) (λ k. factor_of o p k)
    (λ k lt. factor-kept j k change (setting_of o p k) none)) in
    ap (λ (n : ℕ). n / factor_of o (e ∷ p) m) common
    ∙ ap (λ (f : ℕ). common_of o p / f) (factor-kept j m change (setting_of o p m) none)

-- Loads by the method.
load-held : (method : Method) (running running' kept kept' load : ℕ) → load ≡ load_by method running kept
    → running' ≡ running → kept' ≡ kept → load ≡ load_by method running' kept'
load-held method running running' kept kept' load is same same' = rw (same, same') is

load-weighed : (method : Method) (running running' kept kept' load : ℕ) → load ≡ load_by method running kept
    → kept' ≡ kept → load_by method running' load ≡ load_by method running' kept'
load-weighed Method.Request running running' kept kept' load is same = is ∙ sym same
load-weighed Method.Session running running' kept kept' load is same = is ∙ sym same
load-weighed Method.Traffic running running' kept kept' load is same = is ∙ sym same
load-weighed Method.Busyness running running' kept kept' load is same = refl

load-reset : (method : Method) (running running' kept kept' load : ℕ) → load ≡ load_by method running kept
    → running' ≡ running → kept' ≡ 0 → load_by method load 0 ≡ load_by method running' kept'
load-reset Method.Request running running' kept kept' load is same none = sym none
load-reset Method.Session running running' kept kept' load is same none = sym none
load-reset Method.Traffic running running' kept kept' load is same none = sym none
load-reset Method.Busyness running running' kept kept' load is same none = is ∙ sym same

module _ (v : ℕ) (o : Opening) (p : List Entry) (m : ℕ) (row : Standing) (h : IsStanding v o p m row) (seq session at : ℕ)
    (legal : IsLegalPast v o p) (lt : m < members o) where
  kept-updated : (j : ℕ) (change : Change)
      → base_of v o (admin_entry seq session at (command.Update j change) ∷ p) m
      + gain_of o (admin_entry seq session at (command.Update j change) ∷ p) m ≡ base_of v o p m + gain_of o p m
  kept-updated j change =
      let e : Entry = admin_entry seq session at (command.Update j change) in
      elim (cases_Bool (is_some change.factor)) [
        | inl cuts ↦ rw cuts (omega arith)
        | inr no_factor ↦
            let unit : unit_of o (e ∷ p) m ≡ unit_of o p m = unit-kept o p seq session at j m change no_factor in
            rw no_factor (ap (λ (u : ℕ). base_of v o p m + u * (units_of o p m + 0)) unit ∙ omega arith)
      ]

  standing-updated : (j : ℕ) (change : Change) (common : ℕ) → IsNext v o p (admin_entry seq session at (command.Update j change))
      → common ≡ common_after o p (Call.Admin (command.Update j change)) → common < 2 ^ 32
      → IsStanding v o (admin_entry seq session at (command.Update j change) ∷ p) m
      (commanded_row o.config.method common (command.Update j change) m row)
  standing-updated j change common next common_is narrow =
      let e : Entry = admin_entry seq session at (command.Update j change) in
      let busy_same : busy_of o (e ∷ p) m ≡ busy_of o p m = busy-kept o p e m refl (λ t. refl) in
      let setting_is : setting_commanded (command.Update j change) m row ≡ setting_of o (e ∷ p) m =
      ap (λ (s : Setting). commanded m (command.Update j change) s) (setting-now v o p m row h) in
      let range : IsSetting (members o) m (setting_of o (e ∷ p) m) = setting_in_range v o (e ∷ p) m (next, legal) lt in
      let unit_is : common / (setting_commanded (command.Update j change) m row).factor ≡ unit_of o (e ∷ p) m =
      ap (λ (s : Setting). common / s.factor) setting_is ∙ ap (λ (n : ℕ). n / factor_of o (e ∷ p) m) common_is in
      let unit_small : common / (setting_commanded (command.Update j change) m row).factor < 2 ^ 32 =
      omega (arith, narrow, div-le_self common (setting_commanded (command.Update j change) m row).factor) in
      record {
        state = h.state;
        load = ap (λ (u : ℕ). load_by o.config.method (row.busy * u) row.load) unit_is
            ∙ ap (λ (b : ℕ). load_by o.config.method (b * unit_of o (e ∷ p) m) row.load) (h.busy ∙ sym busy_same)
            ∙ load-weighed o.config.method (busy_of o p m * unit_of o p m) (busy_of o (e ∷ p) m * unit_of o (e ∷ p) m)
            (base_of v o p m + gain_of o p m) (base_of v o (e ∷ p) m + gain_of o (e ∷ p) m) row.load h.load (kept-updated j change);
        busy = h.busy ∙ sym busy_same;
        pool = h.pool;
        unit = unit_is;
        activation = ap (λ (s : Setting). s.activation) setting_is;
        factor = ap (λ (s : Setting). s.factor) setting_is;
        distance = ap (λ (s : Setting). s.distance) setting_is;
        redirect = ap (λ (s : Setting). s.redirect) setting_is;
        within = h.within;
        small = h.small;
        narrow = unit_small;
        light =
            let unit' : ℕ = common / (setting_commanded (command.Update j change) m row).factor in
            let few : row.busy ≤ 2 ^ 32 = omega (arith, h.within, h.small) in
            let thin : unit' ≤ 2 ^ 32 = omega (arith, unit_small) in
            let running : row.busy * unit' ≤ 2 ^ 32 * 2 ^ 32 = mul-le-mul few thin in
            let light : load_by o.config.method (row.busy * (common / (setting_commanded (command.Update j change) m row).factor)) row.load
            ≤ (next_of o p + 1) * 2 ^ 76 =
            light-by o.config.method (row.busy * (common / (setting_commanded (command.Update j change) m row).factor)) row.load
            ((next_of o p + 1) * 2 ^ 76) (omega (arith, running)) (omega (arith, h.light)) in
            omega (arith, light);
        target = subst (λ (t : Option ℕ). IfSome t (λ k. k < members o)) (sym (ap (λ (s : Setting). s.redirect) setting_is))
            (target-within (members o) m (setting_of o (e ∷ p) m).redirect range.redirect);
      }

  -- A row whose state and load alone change.
  standing-set : (c : Command) (s : MemberState) (load : ℕ)
      → setting_of o (admin_entry seq session at c ∷ p) m ≡ setting_of o p m
      → unit_of o (admin_entry seq session at c ∷ p) m ≡ unit_of o p m
      → s ≡ state_of v o (admin_entry seq session at c ∷ p) m
      → load ≡ load_of v o (admin_entry seq session at c ∷ p) m → load ≤ row.load
      → IsStanding v o (admin_entry seq session at c ∷ p) m (record row { state = s; load = load })
  standing-set c s load setting_same unit_same state_is load_is less =
      let busy_same : busy_of o (admin_entry seq session at c ∷ p) m ≡ busy_of o p m =
      busy-kept o p (admin_entry seq session at c) m refl (λ t. refl) in
      record {
        state = state_is;
        load = load_is;
        busy = h.busy ∙ sym busy_same;
        pool = h.pool;
        unit = h.unit ∙ sym unit_same;
        activation = h.activation ∙ sym (ap (λ (x : Setting). x.activation) setting_same);
        factor = h.factor ∙ sym (ap (λ (x : Setting). x.factor) setting_same);
        distance = h.distance ∙ sym (ap (λ (x : Setting). x.distance) setting_same);
        redirect = h.redirect ∙ sym (ap (λ (x : Setting). x.redirect) setting_same);
        within = h.within;
        small = h.small;
        narrow = h.narrow;
        light = omega (arith, h.light, less);
        target = h.target;
      }

  running-same : (c : Command) → unit_of o (admin_entry seq session at c ∷ p) m ≡ unit_of o p m
      → busy_of o (admin_entry seq session at c ∷ p) m * unit_of o (admin_entry seq session at c ∷ p) m ≡ busy_of o p m * unit_of o p m
  running-same c unit_same =
      ap (λ (b : ℕ). b * unit_of o (admin_entry seq session at c ∷ p) m) (busy-kept o p (admin_entry seq session at c) m refl (λ t. refl))
      ∙ ap (λ (u : ℕ). busy_of o p m * u) unit_same

  standing-reset : (j : ℕ) → IsStanding v o (admin_entry seq session at (command.Reset j) ∷ p) m
      (if j == m then reset_row o.config.method row else row)
  standing-reset j =
      let e : Entry = admin_entry seq session at (command.Reset j) in
      elim (cases_Bool (j == m)) [
        | inl this ↦
            let none : base_of v o (e ∷ p) m + gain_of o (e ∷ p) m ≡ 0 = rw this (omega arith) in
            rw this (standing-set (command.Reset j) State.Ok (load_by o.config.method row.load 0) refl refl (rw this refl)
            (load-reset o.config.method (busy_of o p m * unit_of o p m) (busy_of o (e ∷ p) m * unit_of o (e ∷ p) m)
            (base_of v o p m + gain_of o p m) (base_of v o (e ∷ p) m + gain_of o (e ∷ p) m) row.load h.load (running-same (command.Reset j) refl) none)
            (light-by o.config.method row.load 0 row.load (omega arith) (omega arith)))
        | inr other ↦
            let kept : base_of v o (e ∷ p) m + gain_of o (e ∷ p) m ≡ base_of v o p m + gain_of o p m = rw other (omega arith) in
            rw other (standing-set (command.Reset j) row.state row.load refl refl (rw other h.state)
            (load-held o.config.method (busy_of o p m * unit_of o p m) (busy_of o (e ∷ p) m * unit_of o (e ∷ p) m)
            (base_of v o p m + gain_of o p m) (base_of v o (e ∷ p) m + gain_of o (e ∷ p) m) row.load h.load (running-same (command.Reset j) refl) kept)
            (omega arith))
      ]

  standing-recovered : (j : ℕ) → IsStanding v o (admin_entry seq session at (command.Recover j) ∷ p) m
      (if j == m then recovered_row row else row)
  standing-recovered j =
      let e : Entry = admin_entry seq session at (command.Recover j) in
      let kept : base_of v o (e ∷ p) m + gain_of o (e ∷ p) m ≡ base_of v o p m + gain_of o p m = omega arith in
      let load_is : row.load ≡ load_of v o (e ∷ p) m =
      load-held o.config.method (busy_of o p m * unit_of o p m) (busy_of o (e ∷ p) m * unit_of o (e ∷ p) m)
      (base_of v o p m + gain_of o p m) (base_of v o (e ∷ p) m + gain_of o (e ∷ p) m) row.load h.load (running-same (command.Recover j) refl) kept in
      elim (cases_Bool (j == m)) [
        | inl this ↦
            rw this (standing-set (command.Recover j) (recovered_state row.state) row.load refl refl (rw this (ap recovered_state h.state))
            load_is (omega arith))
        | inr other ↦
            rw other (standing-set (command.Recover j) row.state row.load refl refl (rw other h.state) load_is (omega arith))
      ]

  standing-commanded : (c : Command) (common : ℕ) → IsNext v o p (admin_entry seq session at c)
      → common ≡ common_after o p (Call.Admin c) → common < 2 ^ 32
      → IsStanding v o (admin_entry seq session at c ∷ p) m (commanded_row o.config.method common c m row)
  standing-commanded (command.Update j change) common next common_is narrow = standing-updated j change common next common_is narrow
  standing-commanded (command.Reset j) common next common_is narrow = standing-reset j
  standing-commanded (command.Recover j) common next common_is narrow = standing-recovered j

-- A present that a command left.
pub record IsDone (o : Opening) (old : Present) (c : Command) (common at : ℕ) (new : Present) : Type 0 where
  pub rows : AreStepped (λ m row. commanded_row o.config.method common c m row) (length old.rows.items) old.rows.items new.rows.items
  pub tickets : new.out ≡ old.out
  pub moment : new.at ≡ at
  pub maintained : new.maintained ≡ old.maintained
  pub chosen : new.chosen ≡ old.chosen

pub now-commanded : (v : ℕ) (o : Opening) (p : List Entry) (old new : Present) (seq session at : ℕ) (c : Command) (common : ℕ)
    → IsNow v o p old → IsLegalPast v o p → IsNext v o p (admin_entry seq session at c)
    → common ≡ common_after o p (Call.Admin c) → common < 2 ^ 32
    → IsDone o old c common at new → IsNow v o (admin_entry seq session at c ∷ p) new
now-commanded v o p old new seq session at c common h legal next common_is narrow is = record {
  whole = is.rows.whole ∙ h.whole;
  rows = λ m d lt.
      subst (λ (r : Standing). IsStanding v o (admin_entry seq session at c ∷ p) m r)
      (sym (is.rows.below m d (omega (arith, h.whole))))
      (standing-commanded v o p m (get_or old.rows.items m d) (h.rows m d lt) seq session at legal lt c common next common_is narrow);
  tickets = is.tickets ∙ h.tickets ∙ ap length (sym (out-kept o p (admin_entry seq session at c) refl (λ t. refl)));
  moment = is.moment;
  maintained = is.maintained ∙ h.maintained;
  chosen = is.chosen ∙ h.chosen;
}

-- The entry of a command that may be done may come next.
pub next_commanded : (v : ℕ) (o : Opening) (h : List Entry) (now : Present) (seq session at : ℕ) (c : Command)
    → IsNow v o (reverse h) now → seq ≡ o.next + length h → now.at ≤ at → seq + now.out + 1 ≤ 2 ^ 48 → IsDoable o (reverse h) c
    → IsNext v o (reverse h) (admin_entry seq session at c)
next_commanded v o h now seq session at c is number later room doable = record {
  number = number ∙ next_is o h;
  moment = omega (arith, is.moment, later);
  room = omega (arith, is.tickets, room);
  answered = (doable, refl);
}

-- The step of a command, with factors above 0 that divide their common multiple.
module _ (v : ℕ) (o : Opening) (p : List Entry) (now : Present) (h : IsNow v o p now) (c : Command) where
  pub factors_commanded : HasValues c → IsLegalPast v o p → (m : ℕ) (d : Standing) → m < length now.rows.items
      → 0 < (setting_commanded c m (get_or now.rows.items m d)).factor
  factors_commanded values legal m d lt = factor_left c m (get_or now.rows.items m d) values (factors_now v o p now h legal m d lt)

  pub factors_divide : (common : ℕ) → common ≡ common_after o p (Call.Admin c) → (m : ℕ) (d : Standing) → m < length now.rows.items
      → common % (setting_commanded c m (get_or now.rows.items m d)).factor ≡ 0
  factors_divide common common_is m d lt =
      let within : m < members o = omega (arith, h.whole, lt) in
      let factor_is : (setting_commanded c m (get_or now.rows.items m d)).factor ≡ (commanded m c (setting_of o p m)).factor =
      ap (λ (s : Setting). (commanded m c s).factor) (setting-now v o p m (get_or now.rows.items m d) (h.rows m d within)) in
      rw (common_is, factor_is) (each-divides (members o) (λ k. (commanded k c (setting_of o p k)).factor) m within)
