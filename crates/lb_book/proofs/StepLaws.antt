-- The row of a member after an entry is its row before, stepped.
use Rattle.std.proofs.Common.{◌≡◌, ℕ, ◌+◌, ◌-◌, ◌*◌, ◌^◌, ◌<◌, ◌≤◌, Bool, true, false, ◌&&◌, not, cond, List, ◌∷◌, refl, sym, ◌∙◌, ap, inl, inr, arith}
use Rattle.std.specs.Prelude.{◌==◌, if◌then◌else◌}
use Rattle.std.proofs.lemmas.Bool.{cases_Bool}
use Rattle.std.proofs.Math.Nat.{mul-le-mul}
use Rattle.lb_model.specs.Journal.{members, any_of, chose, next_of}
use Rattle.lb_model.specs.Settings.{unit_of}
use Rattle.lb_model.specs.StateRows.{chosen_state, recovered_state, returned_state}
use Rattle.lb_model.specs.States.{state_of, is_balanced, is_usable_in, is_revivable_in, is_revived_in}
use Rattle.lb_model.specs.Loads.{load_by, base_of, units_of, units_chosen, units_returned}
use Rattle.lb_model.specs.Tickets.{busy_of, is_on, is_out}
use Rattle.lb_model.specs.Legal.{IsLegalPast}
use Rattle.lb_model.proofs.OutFacts.{busy-chosen, busy-returned}
use Rattle.lb_model.specs.declared.ask.Ask.{Ask}
use Rattle.lb_model.specs.declared.member.Method.{Method}
use Rattle.lb_model.specs.declared.state.MemberState.{MemberState}
use Rattle.lb_model.specs.declared.journal.Answer.{Answer}
use Rattle.lb_model.specs.declared.journal.Call.TheVariants as Call
use Rattle.lb_model.specs.declared.journal.How.{How}
use Rattle.lb_model.specs.declared.journal.Outcome.{Outcome}
use Rattle.lb_model.specs.declared.journal.Entry.{Entry}
use Rattle.lb_model.specs.declared.opening.Opening.{Opening}
use Rattle.lb_rules.specs.declared.standing.Standing.{Standing}
use Rattle.lb_rules.specs.declared.among.Among.TheVariants as Among
use Rattle.lb_rules.specs.Standings.{passes}
use Rattle.lb_book.specs.Steps.{chosen_row, returned_row}
use Rattle.lb_book.specs.Revived.{row_revived}
use Rattle.lb_book.specs.Kept.{IsStanding}

-- A further gain, on a load that the method makes of what runs and what is kept.
pub load-step : (method : Method) (running running' base unit units by load : ℕ)
    → load ≡ load_by method running (base + unit * units)
    → load_by method running' (load + unit * by) ≡ load_by method running' (base + unit * (units + by))
load-step Method.Request running running' base unit units by load is = grind arith
load-step Method.Session running running' base unit units by load is = grind arith
load-step Method.Traffic running running' base unit units by load is = grind arith
load-step Method.Busyness running running' base unit units by load is = refl

-- A load with nothing gained, where what runs stays.
load-same : (method : Method) (running running' base unit units load : ℕ) → running' ≡ running
    → load ≡ load_by method running (base + unit * units) → load ≡ load_by method running' (base + unit * (units + 0))
load-same Method.Request running running' base unit units load same is = grind arith
load-same Method.Session running running' base unit units load same is = grind arith
load-same Method.Traffic running running' base unit units load same is = grind arith
load-same Method.Busyness running running' base unit units load same is = is ∙ sym same

-- A gain of at most 2^44 units keeps the bound of a load.
load-light : (method : Method) (busy pool unit by load next : ℕ) → busy ≤ pool → pool < 2 ^ 32 → unit < 2 ^ 32 → by ≤ 2 ^ 44
    → load ≤ next * 2 ^ 76 → load_by method (busy * unit) (load + unit * by) ≤ (next + 1) * 2 ^ 76
load-light Method.Request busy pool unit by load next within small narrow few light =
    let wide : unit ≤ 2 ^ 32 = omega arith in
    let gain : unit * by ≤ 2 ^ 32 * 2 ^ 44 = mul-le-mul wide few in omega arith
load-light Method.Session busy pool unit by load next within small narrow few light =
    let wide : unit ≤ 2 ^ 32 = omega arith in
    let gain : unit * by ≤ 2 ^ 32 * 2 ^ 44 = mul-le-mul wide few in omega arith
load-light Method.Traffic busy pool unit by load next within small narrow few light =
    let wide : unit ≤ 2 ^ 32 = omega arith in
    let gain : unit * by ≤ 2 ^ 32 * 2 ^ 44 = mul-le-mul wide few in omega arith
load-light Method.Busyness busy pool unit by load next within small narrow few light =
    let wide : unit ≤ 2 ^ 32 = omega arith in
    let most : busy ≤ 2 ^ 32 = omega arith in
    let running : busy * unit ≤ 2 ^ 32 * 2 ^ 32 = mul-le-mul most wide in omega arith

units-few : (method : Method) (fresh : Bool) → units_chosen method fresh ≤ 2 ^ 44
units-few Method.Request fresh = omega arith
units-few Method.Session true = omega arith
units-few Method.Session false = omega arith
units-few Method.Traffic fresh = omega arith
units-few Method.Busyness fresh = omega arith

units-few_returned : (method : Method) (bytes : ℕ) → bytes ≤ 2 ^ 44 → units_returned method bytes ≤ 2 ^ 44
units-few_returned Method.Request bytes few = omega arith
units-few_returned Method.Session bytes few = omega arith
units-few_returned Method.Traffic bytes few = few
units-few_returned Method.Busyness bytes few = omega arith

-- The entry of a Select, and of a Return.
abbrev pub select_entry : (seq session at : ℕ) → Ask → Answer → Entry
select_entry seq session at ask answer = record { seq = seq; session = session; at = at; call = Call.Select ask; answer = answer }

abbrev pub return_entry : (seq session at ticket : ℕ) → Outcome → Entry
return_entry seq session at ticket outcome =
    record { seq = seq; session = session; at = at; call = Call.Return ticket outcome; answer = Answer.Done }

-- The answer revives all that may be revived.
abbrev pub is_reviving : (v : ℕ) → Opening → List Entry → Ask → Answer → Bool
is_reviving v o p ask a =
    (v == 2) && (is_balanced a && not (any_of (members o) (λ j. is_usable_in (λ k. state_of v o p k) o p ask j)))

revived-parts : (a b c d : Bool) → (a && (b && (c && d))) ≡ ((a && (b && c)) && d)
revived-parts true true c d = refl
revived-parts true false c d = refl
revived-parts false b c d = refl

module _ (v : ℕ) (o : Opening) (p : List Entry) (m : ℕ) (row : Standing) (h : IsStanding v o p m row) where
  -- The row of the member that a Select chose.
  pub standing-chosen : (seq session at : ℕ) (ask : Ask) (t : ℕ) (how : How) (probe : Bool)
      → IsLegalPast v o p → seq ≡ next_of o p → row.busy < row.pool
      → (m == m) ≡ true
      → IsStanding v o (select_entry seq session at ask (Answer.Chosen m t how probe) ∷ p) m (chosen_row o.config.method seq ask.fresh row)
  standing-chosen seq session at ask t how probe legal number free itself =
      let e : Entry = select_entry seq session at ask (Answer.Chosen m t how probe) in
      let more : busy_of o (e ∷ p) m ≡ 1 + busy_of o p m =
      busy-chosen v o p e ask m t how probe m legal number refl refl ∙ ap (λ (b : Bool). cond b 1 0 + busy_of o p m) itself in
      let busy_is : row.busy + 1 ≡ busy_of o (e ∷ p) m = omega (arith, more, h.busy) in
      record {
        state = rw itself (ap (chosen_state seq) h.state);
        load = rw (h.unit, busy_is, itself)
            (load-step o.config.method (busy_of o p m * unit_of o p m) (busy_of o (e ∷ p) m * unit_of o p m) (base_of v o p m)
            (unit_of o p m) (units_of o p m) (units_chosen o.config.method ask.fresh) row.load h.load);
        busy = busy_is;
        pool = h.pool;
        unit = h.unit;
        activation = h.activation;
        factor = h.factor;
        distance = h.distance;
        redirect = h.redirect;
        within = omega (arith, free);
        small = h.small;
        narrow = h.narrow;
        light = omega (
          arith,
          load-light o.config.method (row.busy + 1) row.pool row.unit (units_chosen o.config.method ask.fresh)
              row.load (next_of o p) (omega arith) h.small h.narrow (units-few o.config.method ask.fresh) h.light,
        );
        target = h.target;
      }

  -- A row that only its state may change, after a Select that chose another member or none.
  standing-passed : (seq session at : ℕ) (ask : Ask) (a : Answer) (s : MemberState)
      → chose m a ≡ false → busy_of o (select_entry seq session at ask a ∷ p) m ≡ busy_of o p m
      → s ≡ state_of v o (select_entry seq session at ask a ∷ p) m
      → IsStanding v o (select_entry seq session at ask a ∷ p) m (record row { state = s })
  standing-passed seq session at ask a s other busy_same state_is =
      let e : Entry = select_entry seq session at ask a in
      record {
        state = state_is;
        load = rw other (load-same o.config.method (busy_of o p m * unit_of o p m) (busy_of o (e ∷ p) m * unit_of o p m)
            (base_of v o p m) (unit_of o p m) (units_of o p m) row.load (ap (λ (k : ℕ). k * unit_of o p m) busy_same) h.load);
        busy = h.busy ∙ sym busy_same;
        pool = h.pool;
        unit = h.unit;
        activation = h.activation;
        factor = h.factor;
        distance = h.distance;
        redirect = h.redirect;
        within = h.within;
        small = h.small;
        narrow = h.narrow;
        light = omega (arith, h.light);
        target = h.target;
      }

  -- Its state where it wasn't chosen: revived or not.
  row-revived : (ask : Ask) → passes Among.Revivable ask m row ≡ is_revivable_in (λ k. state_of v o p k) o p ask m
  row-revived ask = rw (h.state, h.activation, h.busy, h.pool) refl

  pub standing-other : (seq session at : ℕ) (ask : Ask) (a : Answer) (revives : Bool)
      → revives ≡ is_reviving v o p ask a
      → chose m a ≡ false → busy_of o (select_entry seq session at ask a ∷ p) m ≡ busy_of o p m
      → IsStanding v o (select_entry seq session at ask a ∷ p) m (if revives then row_revived ask m row else row)
  standing-other seq session at ask a revives reviving other busy_same =
      let e : Entry = select_entry seq session at ask a in
      let states : ℕ → MemberState = λ k. state_of v o p k in
      let test : is_revived_in v states o p ask a m ≡ (revives && passes Among.Revivable ask m row) =
      revived-parts (v == 2) (is_balanced a) (not (any_of (members o) (λ j. is_usable_in states o p ask j)))
      (is_revivable_in states o p ask m)
      ∙ ap (λ (b : Bool). b && is_revivable_in states o p ask m) (sym reviving)
      ∙ ap (λ (b : Bool). revives && b) (sym (row-revived ask)) in
      let stays : is_revived_in v states o p ask a m ≡ false → IsStanding v o (e ∷ p) m row = λ not_revived.
      standing-passed seq session at ask a row.state other busy_same (rw (other, not_revived) h.state) in
      elim (cases_Bool revives) [
        | inl is ↦
            elim (cases_Bool (passes Among.Revivable ask m row)) [
              | inl may ↦
                  let revived : is_revived_in v states o p ask a m ≡ true = test ∙ rw (is, may) refl in
                  rw (is, may)
                  (standing-passed seq session at ask a (recovered_state row.state) other busy_same
                  (rw (other, revived) (ap recovered_state h.state)))
              | inr may_not ↦ rw (is, may_not) (stays (test ∙ rw (is, may_not) refl))
            ]
        | inr is_not ↦ rw is_not (stays (test ∙ rw is_not refl))
      ]

  -- The row of the member whose ticket came back.
  pub standing-returned : (seq session at ticket : ℕ) (outcome : Outcome)
      → IsLegalPast v o p → is_out o p ticket ≡ true → is_on o p ticket m ≡ true → outcome.bytes ≤ 2 ^ 44
      → IsStanding v o (return_entry seq session at ticket outcome ∷ p) m
      (returned_row o.config.method o.config.direct ticket outcome at row)
  standing-returned seq session at ticket outcome legal is_open mine few =
      let e : Entry = return_entry seq session at ticket outcome in
      let less : busy_of o p m ≡ 1 + busy_of o (e ∷ p) m =
      busy-returned v o p e ticket outcome m legal refl refl is_open
      ∙ ap (λ (b : Bool). cond b 1 0 + busy_of o (e ∷ p) m) mine in
      let busy_is : row.busy - 1 ≡ busy_of o (e ∷ p) m = omega (arith, less, h.busy) in
      record {
        state = rw mine (ap (returned_state o.config.direct ticket outcome.kind at) h.state);
        load = rw (h.unit, busy_is, mine)
            (load-step o.config.method (busy_of o p m * unit_of o p m) (busy_of o (e ∷ p) m * unit_of o p m) (base_of v o p m)
            (unit_of o p m) (units_of o p m) (units_returned o.config.method outcome.bytes) row.load h.load);
        busy = busy_is;
        pool = h.pool;
        unit = h.unit;
        activation = h.activation;
        factor = h.factor;
        distance = h.distance;
        redirect = h.redirect;
        within = omega (arith, h.within);
        small = h.small;
        narrow = h.narrow;
        light = omega (
          arith,
          load-light o.config.method (row.busy - 1) row.pool row.unit (units_returned o.config.method outcome.bytes)
              row.load (next_of o p) (omega (arith, h.within)) h.small h.narrow (units-few_returned o.config.method outcome.bytes few) h.light,
        );
        target = h.target;
      }

  -- The row of any other member.
  pub standing-kept : (seq session at ticket : ℕ) (outcome : Outcome)
      → IsLegalPast v o p → is_out o p ticket ≡ true → is_on o p ticket m ≡ false
      → IsStanding v o (return_entry seq session at ticket outcome ∷ p) m row
  standing-kept seq session at ticket outcome legal is_open others =
      let e : Entry = return_entry seq session at ticket outcome in
      let same : busy_of o p m ≡ 0 + busy_of o (e ∷ p) m =
      busy-returned v o p e ticket outcome m legal refl refl is_open
      ∙ ap (λ (b : Bool). cond b 1 0 + busy_of o (e ∷ p) m) others in
      let busy_same : busy_of o (e ∷ p) m ≡ busy_of o p m = omega (arith, same) in
      record {
        state = rw others h.state;
        load = rw others (load-same o.config.method (busy_of o p m * unit_of o p m) (busy_of o (e ∷ p) m * unit_of o p m)
            (base_of v o p m) (unit_of o p m) (units_of o p m) row.load (ap (λ (k : ℕ). k * unit_of o p m) busy_same) h.load);
        busy = h.busy ∙ sym busy_same;
        pool = h.pool;
        unit = h.unit;
        activation = h.activation;
        factor = h.factor;
        distance = h.distance;
        redirect = h.redirect;
        within = h.within;
        small = h.small;
        narrow = h.narrow;
        light = omega (arith, h.light);
        target = h.target;
      }
