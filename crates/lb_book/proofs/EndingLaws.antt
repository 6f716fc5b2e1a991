-- The opening that goes on where a history ends: it is valid, and nothing changes with it.
use Rattle.std.proofs.Common.{◌≡◌, ℕ, ◌+◌, ◌*◌, ◌/◌, ◌^◌, ◌<◌, ◌≤◌, Bool, true, false, ◌&&◌, not, cond, List, [], ◌∷◌, ◌++◌, ◌⊎◌, length, reverse, get_or, Option, Some, None, refl, sym, subst, ap, ◌∙◌, inl, inr, arith}
use Rattle.std.specs.Prelude.{◌==◌, ◌↔◌, slice_get, if◌then◌else◌}
use Rattle.std.specs.List.{cons_option, count_by, filter, filter_map, list_any}
use Rattle.std.proofs.lemmas.Bool.{cases_Bool}
use Rattle.std.proofs.lemmas.List.{append-nil, length-reverse, reverse-append, reverse-reverse}
use Rattle.std.proofs.lemmas.List.Elements.{filter-append, filter_map-append}
use Rattle.std.proofs.lemmas.Option.{slice_get_cases, slice_get_within, slice_get-get_or, get_or_from_slice_get}
use Rattle.lb_model.specs.Journal.{chosen_in, each, is_maintain, last_chosen, maintained_of, members, moment_of, newest_chosen, next_of}
use Rattle.lb_model.specs.Legal.{IsLegalPast}
use Rattle.lb_model.specs.Loads.{base_of, gain_of, load_by, load_in, load_of}
use Rattle.lb_model.specs.Multiple.{multiple_of}
use Rattle.lb_model.specs.Present.{ArePresentRows, IsEnding, IsPresent, IsPresentMember, IsPresentRow}
use Rattle.lb_model.specs.Ranges.{IsInRange, factors_in, redirects_within}
use Rattle.lb_model.specs.Settings.{Setting, common_of, factor_of, name_in, name_of, pool_in, pool_of, setting_in, setting_of, unit_of}
use Rattle.lb_model.specs.StateRows.{chosen_state, is_over, left_state, maintained_state, recovered_state, returned_state}
use Rattle.lb_model.specs.States.{is_revived_in, state_after, state_commanded, state_in, state_of}
use Rattle.lb_model.specs.Tickets.{Ticket, busy_of, is_on, is_returned, made, out, ticket_in}
use Rattle.lb_model.specs.Validity.{AreTickets, IsOpening, IsOpeningRow, IsOpeningState, IsRunning, IsWithin}
use Rattle.lb_model.proofs.BoundFacts.{HasRow, has_row, busy_within, busy-opening, trial_out}
use Rattle.lb_model.proofs.ListFacts.{count_by-reverse, list_any-reverse}
use Rattle.lb_model.proofs.OutFacts.{chosen_member, legal_room, out_tickets}
use Rattle.lb_model.proofs.SettingFacts.{IsSetting, common-opening, common_narrow, setting_in_range}
use Rattle.lb_model.specs.declared.change.Command.{Command}
use Rattle.lb_model.specs.declared.change.Command.TheVariants as command
use Rattle.lb_model.specs.declared.config.LbConfig.{LbConfig}
use Rattle.lb_model.specs.declared.journal.Answer.{Answer}
use Rattle.lb_model.specs.declared.journal.Call.{Call}
use Rattle.lb_model.specs.declared.journal.Entry.{Entry}
use Rattle.lb_model.specs.declared.journal.Kind.{Kind}
use Rattle.lb_model.specs.declared.member.MemberConfig.{MemberConfig}
use Rattle.lb_model.specs.declared.member.Method.{Method}
use Rattle.lb_model.specs.declared.opening.Opening.{Opening}
use Rattle.lb_model.specs.declared.state.MemberState.{MemberState}
use Rattle.lb_model.specs.declared.state.MemberState.TheVariants as state
use Rattle.lb_model.specs.declared.view.MemberRow.{MemberRow}
use Rattle.lb_model.specs.declared.view.View.{View}
use Rattle.lb_book.specs.declared.present.Present.{Present}
use Rattle.lb_rules.specs.declared.standing.Standing.{Standing}
use Rattle.lb_book.specs.Ending.{IsCut, IsSettled, ending_member}
use Rattle.lb_book.specs.Kept.{IsNow, IsStanding}
use Rattle.lb_book.proofs.CallLaws.{each-agree}
use Rattle.lb_book.proofs.ChoiceLaws.{nobody}

-- No maintenance was after the last entry.
maintained_with : (b : Bool) (at old moment : ℕ) → old ≤ moment → moment ≤ at → (if b then at else old) ≤ at
maintained_with true at old moment before later = omega arith
maintained_with false at old moment before later = omega arith

pub maintained_before : (v : ℕ) (o : Opening) (p : List Entry) → IsLegalPast v o p → maintained_of o p ≤ moment_of o p
maintained_before v o [] legal = legal.maintained
maintained_before v o (e ∷ p) legal =
    maintained_with (is_maintain e.call) e.at (maintained_of o p) (moment_of o p) (maintained_before v o p legal.1) legal.0.moment

-- The member that was chosen last is one.
within_with : (n : ℕ) (a : Answer) (former : Option ℕ) → IsWithin n former → ((m : ℕ) → chosen_in a ≡ Some m → m < n)
    → IsWithin n (newest_chosen (chosen_in a) former)
within_with n (Answer.Chosen m t h probe) former before mine = mine m refl
within_with n Answer.NoMember former before mine = before
within_with n Answer.Forced former before mine = before
within_with n Answer.Done former before mine = before

chosen_with : (v : ℕ) (o : Opening) (p : List Entry) (e : Entry) (a : Answer) (m : ℕ) → IsLegalPast v o (e ∷ p) → e.answer ≡ a
    → chosen_in a ≡ Some m → m < members o
chosen_with v o p e (Answer.Chosen j t h probe) m legal is mine =
    let same : j ≡ m = cc in
    subst (λ (k : ℕ). k < members o) same (chosen_member v o p e j t h probe legal is)
chosen_with v o p e Answer.NoMember m legal is mine = absurd cc
chosen_with v o p e Answer.Forced m legal is mine = absurd cc
chosen_with v o p e Answer.Done m legal is mine = absurd cc

pub last_within : (v : ℕ) (o : Opening) (p : List Entry) → IsLegalPast v o p → IsWithin (members o) (last_chosen o p)
last_within v o [] legal = legal.chosen
last_within v o (e ∷ p) legal =
    within_with (members o) e.answer (last_chosen o p) (last_within v o p legal.1)
    (λ m mine. chosen_with v o p e e.answer m legal refl mine)

-- An error was there before the entry, or has its moment.
chosen_error : (seq at : ℕ) (s : MemberState) → chosen_state seq s ≡ state.Error at → s ≡ state.Error at
chosen_error seq at state.Ok is = absurd cc
chosen_error seq at (state.Error old) is = absurd cc
chosen_error seq at state.Recover is = absurd cc
chosen_error seq at (state.Probe t) is = absurd cc

recovered_error : (at : ℕ) (s : MemberState) → recovered_state s ≡ state.Error at → s ≡ state.Error at
recovered_error at state.Ok is = absurd cc
recovered_error at (state.Error old) is = absurd cc
recovered_error at state.Recover is = absurd cc
recovered_error at (state.Probe t) is = absurd cc

left_error : (t at : ℕ) (s : MemberState) → left_state t s ≡ state.Error at → s ≡ state.Error at
left_error t at state.Ok is = absurd cc
left_error t at (state.Error old) is = is
left_error t at state.Recover is = absurd cc
left_error t at (state.Probe u) is =
    elim (cases_Bool (u == t)) [
      | inl this ↦ let none : state.Recover ≡ state.Error at = rw this at is in absurd cc
      | inr other ↦ let none : state.Probe u ≡ state.Error at = rw other at is in absurd cc
    ]

returned_error : (direct : Bool) (t now at : ℕ) (k : Kind) (s : MemberState) → returned_state direct t k now s ≡ state.Error at
    → (s ≡ state.Error at) ⊎ (at ≡ now)
returned_error direct t now at Kind.Done s is = absurd cc
returned_error true t now at Kind.Failed s is = absurd cc
returned_error false t now at Kind.Failed s is = inr cc
returned_error direct t now at Kind.Gone s is = inl (left_error t at s is)

maintained_error : (now recover at : ℕ) (s : MemberState) → maintained_state now recover s ≡ state.Error at → s ≡ state.Error at
maintained_error now recover at s is =
    elim (cases_Bool (is_over now recover s)) [
      | inl over ↦ let none : state.Recover ≡ state.Error at = rw over at is in absurd cc
      | inr not_over ↦ rw not_over at is
    ]

commanded_error : (c : Command) (m at : ℕ) (s : MemberState) → state_commanded c m s ≡ state.Error at → s ≡ state.Error at
commanded_error (command.Update j change) m at s is = is
commanded_error (command.Reset j) m at s is =
    elim (cases_Bool (j == m)) [
      | inl this ↦ let none : state.Ok ≡ state.Error at = rw this at is in absurd cc
      | inr other ↦ rw other at is
    ]
commanded_error (command.Recover j) m at s is =
    elim (cases_Bool (j == m)) [ inl this ↦ recovered_error at s (rw this at is) | inr other ↦ rw other at is ]

select_error : (chosen revived : Bool) (seq at : ℕ) (s : MemberState)
    → (if chosen then chosen_state seq s else (if revived then recovered_state s else s)) ≡ state.Error at → s ≡ state.Error at
select_error true revived seq at s is = chosen_error seq at s is
select_error false true seq at s is = recovered_error at s is
select_error false false seq at s is = is

return_error : (on direct : Bool) (t now at : ℕ) (k : Kind) (s : MemberState)
    → (if on then returned_state direct t k now s else s) ≡ state.Error at → (s ≡ state.Error at) ⊎ (at ≡ now)
return_error true direct t now at k s is = returned_error direct t now at k s is
return_error false direct t now at k s is = inl is

call_error : (v : ℕ) (o : Opening) (p : List Entry) (e : Entry) (c : Call) (m at : ℕ)
    → state_after v o p e c (λ j. state_of v o p j) m ≡ state.Error at → (state_of v o p m ≡ state.Error at) ⊎ (at ≡ e.at)
call_error v o p e (Call.Select ask) m at is =
    inl (select_error _ (is_revived_in v (λ j. state_of v o p j) o p ask e.answer m) e.seq at (state_of v o p m) is)
call_error v o p e (Call.Return t w) m at is =
    return_error (is_on o p t m) o.config.direct t e.at at w.kind (state_of v o p m) is
call_error v o p e Call.Maintain m at is = inl (maintained_error e.at o.config.recover at (state_of v o p m) is)
call_error v o p e (Call.Admin c) m at is = inl (commanded_error c m at (state_of v o p m) is)

-- No error is after the last entry.
pub error_before : (v : ℕ) (o : Opening) (p : List Entry) (m at : ℕ) → IsLegalPast v o p → m < members o
    → state_of v o p m ≡ state.Error at → at ≤ moment_of o p
error_before v o [] m at legal lt is =
    let has : HasRow o m = has_row o m legal lt in
    let shown : has.row.state ≡ state.Error at = sym (ap state_in has.shown) ∙ is in
    subst (λ (s : MemberState). IsOpeningState o m s) shown has.opening.state
error_before v o (e ∷ p) m at legal lt is =
    let later : moment_of o p ≤ e.at = legal.0.moment in
    elim (call_error v o p e e.call m at is) [
      | inl old ↦ let before : at ≤ moment_of o p = error_before v o p m at legal.1 lt old in omega arith
      | inr now ↦ omega arith
    ]

-- Lists of tickets, turned round.
pub filter-reverse : {A : Type 0} (q : A → Bool) (xs : List A) → filter q (reverse xs) ≡ reverse (filter q xs)
filter-reverse q [] = refl
filter-reverse {A} q (x ∷ xs) =
    let rest : filter q (reverse xs) ≡ reverse (filter q xs) = filter-reverse q xs in
    ap (filter q) (reverse-append (x ∷ []) xs) ∙ filter-append q (reverse xs) (x ∷ []) ∙ ap (λ (ys : List A). ys ++ filter q (x ∷ [])) rest
    ∙ elim (q x) as (λ b. reverse (filter q xs) ++ cond b (x ∷ []) [] ≡ reverse (cond b (x ∷ filter q xs) (filter q xs))) [
      | true ↦ sym (reverse-append (x ∷ []) (filter q xs))
      | false ↦ append-nil (reverse (filter q xs))
    ]

cons_given : {B : Type 0} (y : Option B) (ys : List B) → reverse (cons_option y ys) ≡ reverse ys ++ cons_option y []
cons_given None ys = sym (append-nil (reverse ys))
cons_given (Some y) ys = reverse-append (y ∷ []) ys

pub filter_map-reverse : {A B : Type 0} (f : A → Option B) (xs : List A) → filter_map f (reverse xs) ≡ reverse (filter_map f xs)
filter_map-reverse f [] = refl
filter_map-reverse {A} {B} f (x ∷ xs) =
    ap (filter_map f) (reverse-append (x ∷ []) xs) ∙ filter_map-append f (reverse xs) (x ∷ [])
    ∙ ap (λ (ys : List B). ys ++ filter_map f (x ∷ [])) (filter_map-reverse f xs) ∙ sym (cons_given (f x) (filter_map f xs))

-- Those that are out, the oldest first: of the opening's tickets, then of the entries'.
pub out-oldest : (o : Opening) (h : List Entry)
    → filter (λ (x : Ticket). not (is_returned x.0 (reverse h))) o.out
    ++ filter (λ (x : Ticket). not (is_returned x.0 (reverse h))) (filter_map (λ (e : Entry). ticket_in e.seq e.answer) h)
    ≡ reverse (out o (reverse h))
out-oldest o h =
    let p : List Entry = reverse h in
    let q : Ticket → Bool = λ (x : Ticket). not (is_returned x.0 p) in
    let own : List Ticket = filter_map (λ (e : Entry). ticket_in e.seq e.answer) h in
    let turned : filter_map (λ (e : Entry). ticket_in e.seq e.answer) p ≡ reverse own =
    filter_map-reverse (λ (e : Entry). ticket_in e.seq e.answer) h in
    sym (filter-append q o.out own)
    ∙ ap (filter q)
    (ap (λ (ys : List Ticket). ys ++ own) (sym (reverse-reverse o.out)) ∙ ap (λ (ys : List Ticket). reverse (reverse o.out) ++ ys) (sym (reverse-reverse own))
    ∙ sym (reverse-append (reverse own) (reverse o.out)) ∙ ap (λ (ys : List Ticket). reverse (ys ++ reverse o.out)) (sym turned))
    ∙ filter-reverse q (made o p)

running_by : (method : Method) (running kept load : ℕ) → load ≡ load_by method running kept → IsRunning method running load
running_by Method.Request running kept load is = tt
running_by Method.Session running kept load is = tt
running_by Method.Traffic running kept load is = tt
running_by Method.Busyness running kept load is = is

load-opened : (method : Method) (running kept load unit : ℕ) → load ≡ load_by method running kept
    → load_by method running (load + unit * 0) ≡ load
load-opened Method.Request running kept load unit is = omega arith
load-opened Method.Session running kept load unit is = omega arith
load-opened Method.Traffic running kept load unit is = omega arith
load-opened Method.Busyness running kept load unit is = sym is

-- A member at the ending.
record HasEnd (v : ℕ) (o : Opening) (p : List Entry) (new : Opening) (m : ℕ) : Type 0 where
  former : MemberConfig
  config : MemberConfig
  row : MemberRow
  was : slice_get o.config.members m ≡ Some former
  configured : slice_get new.config.members m ≡ Some config
  shown : slice_get new.rows m ≡ Some row
  member : IsPresentMember o p m former config
  present : IsPresentRow v o p m row

has_end : (v : ℕ) (o : Opening) (p : List Entry) (new : Opening) (m : ℕ) → IsEnding v o p new → m < members o → HasEnd v o p new m
has_end v o p new m is lt =
    elim (slice_get_cases o.config.members m).1 [
      | inl former ↦
          elim (slice_get_cases new.config.members m).1 [
            | inl config ↦
                elim (slice_get_cases new.rows m).1 [
                  | inl row ↦ record {
                    former = former.0;
                    config = config.0;
                    row = row.0;
                    was = former.2;
                    configured = config.2;
                    shown = row.2;
                    member = is.member m former.0 config.0 former.2 config.2;
                    present = is.rows.row m row.0 row.2;
                  }
                  | inr past ↦ absurd (omega (arith, is.rows.count))
                ]
            | inr past ↦ absurd (omega (arith, is.count))
          ]
      | inr past ↦ absurd (omega arith)
    ]

module _ (v : ℕ) (o : Opening) (p : List Entry) (new : Opening) (is : IsEnding v o p new) where
  setting-same : (m : ℕ) → m < members o → setting_of new [] m ≡ setting_of o p m
  setting-same m lt =
      let has : HasEnd v o p new m = has_end v o p new m is lt in
      ap setting_in has.configured ∙ rw (has.member.factor, has.member.distance, has.member.activation, has.member.redirect) refl

  common-same : common_of new [] ≡ common_of o p
  common-same =
      ap (λ (n : ℕ). multiple_of (each n (λ m. factor_of new [] m))) is.count
      ∙ ap multiple_of (each-agree (members o) (λ m. factor_of new [] m) (λ m. factor_of o p m)
      (λ m lt. ap (λ (s : Setting). s.factor) (setting-same m lt)))

  unit-same : (m : ℕ) → m < members o → unit_of new [] m ≡ unit_of o p m
  unit-same m lt =
      ap (λ (n : ℕ). n / factor_of new [] m) common-same
      ∙ ap (λ (s : Setting). common_of o p / s.factor) (setting-same m lt)

  busy-same : (m : ℕ) → busy_of new [] m ≡ busy_of o p m
  busy-same m =
      busy-opening new m ∙ ap (λ (xs : List Ticket). count_by (λ x. x.1 == m) xs) is.out ∙ count_by-reverse (λ (x : Ticket). x.1 == m) (out o p)

  load-same : (m : ℕ) → m < members o → load_of v new [] m ≡ load_of v o p m
  load-same m lt =
      let has : HasEnd v o p new m = has_end v o p new m is lt in
      ap (λ (x : Method). load_by x (busy_of new [] m * unit_of new [] m) (load_in (slice_get new.rows m) + unit_of new [] m * 0)) is.method
      ∙ ap (λ (b : ℕ). load_by o.config.method (b * unit_of new [] m) (load_in (slice_get new.rows m) + unit_of new [] m * 0)) (busy-same m)
      ∙ ap (λ (u : ℕ). load_by o.config.method (busy_of o p m * u) (load_in (slice_get new.rows m) + u * 0)) (unit-same m lt)
      ∙ ap (λ (r : Option MemberRow). load_by o.config.method (busy_of o p m * unit_of o p m) (load_in r + unit_of o p m * 0)) has.shown
      ∙ load-opened o.config.method (busy_of o p m * unit_of o p m) (base_of v o p m + gain_of o p m) has.row.load (unit_of o p m) has.present.load
      ∙ has.present.load

  state-same : (m : ℕ) → m < members o → state_of v new [] m ≡ state_of v o p m
  state-same m lt =
      let has : HasEnd v o p new m = has_end v o p new m is lt in
      ap state_in has.shown ∙ has.present.state

  name-same : (m : ℕ) → m < members o → name_of new m ≡ name_of o m
  name-same m lt =
      let has : HasEnd v o p new m = has_end v o p new m is lt in
      ap name_in has.configured ∙ has.member.name ∙ sym (ap name_in has.was)

  row-forth : (m : ℕ) (r : MemberRow) → m < members o → IsPresentRow v new [] m r → IsPresentRow v o p m r
  row-forth m r lt row = record {
    name = row.name ∙ name-same m lt;
    state = row.state ∙ state-same m lt;
    load = row.load ∙ load-same m lt;
    busy = row.busy ∙ busy-same m;
    activation = row.activation ∙ ap (λ (s : Setting). s.activation) (setting-same m lt);
    factor = row.factor ∙ ap (λ (s : Setting). s.factor) (setting-same m lt);
    distance = row.distance ∙ ap (λ (s : Setting). s.distance) (setting-same m lt);
    redirect = row.redirect ∙ ap (λ (s : Setting). s.redirect) (setting-same m lt);
  }

  row-back : (m : ℕ) (r : MemberRow) → m < members o → IsPresentRow v o p m r → IsPresentRow v new [] m r
  row-back m r lt row = record {
    name = row.name ∙ sym (name-same m lt);
    state = row.state ∙ sym (state-same m lt);
    load = row.load ∙ sym (load-same m lt);
    busy = row.busy ∙ sym (busy-same m);
    activation = row.activation ∙ sym (ap (λ (s : Setting). s.activation) (setting-same m lt));
    factor = row.factor ∙ sym (ap (λ (s : Setting). s.factor) (setting-same m lt));
    distance = row.distance ∙ sym (ap (λ (s : Setting). s.distance) (setting-same m lt));
    redirect = row.redirect ∙ sym (ap (λ (s : Setting). s.redirect) (setting-same m lt));
  }

  -- The views are the same.
  pub view-same : (view : View) → IsPresent v new [] view ↔ IsPresent v o p view
  view-same view = (
    λ there. record {
      next = omega (arith, there.next, is.next);
      at = there.at ∙ is.at;
      rows = record {
        count = there.rows.count ∙ is.count;
        row = λ m r found.
            row-forth m r (omega (arith, slice_get_within view.rows m r found, there.rows.count, is.count)) (there.rows.row m r found);
      };
    },
    λ here. record {
      next = omega (arith, here.next, is.next);
      at = here.at ∙ sym is.at;
      rows = record {
        count = here.rows.count ∙ sym is.count;
        row = λ m r found. row-back m r (omega (arith, slice_get_within view.rows m r found, here.rows.count)) (here.rows.row m r found);
      };
    },
  )

  state_ending : (legal : IsLegalPast v o p) (m : ℕ) (s : MemberState) → m < members o → s ≡ state_of v o p m → IsOpeningState new m s
  state_ending legal m state.Ok lt same = tt
  state_ending legal m (state.Error at) lt same =
      let before : at ≤ moment_of o p = error_before v o p m at legal lt (sym same) in
      omega (arith, before, is.at)
  state_ending legal m state.Recover lt same = tt
  state_ending legal m (state.Probe t) lt same =
      ap (λ (xs : List Ticket). list_any (λ x. (x.0 == t) && (x.1 == m)) xs) is.out
      ∙ list_any-reverse (λ (x : Ticket). (x.0 == t) && (x.1 == m)) (out o p) ∙ trial_out v o p m t legal lt (sym same)

  row_ending : (legal : IsLegalPast v o p) (m : ℕ) (c : MemberConfig) (r : MemberRow) → m < members o
      → slice_get new.config.members m ≡ Some c → slice_get new.rows m ≡ Some r → load_of v o p m ≤ next_of o p * 2 ^ 76
      → IsOpeningRow new m c r
  row_ending legal m c r lt configured shown light =
      let has : HasEnd v o p new m = has_end v o p new m is lt in
      let member : IsPresentMember o p m has.former c = is.member m has.former c has.was configured in
      let row : IsPresentRow v o p m r = is.rows.row m r shown in
      let pool_is : pool_of o m ≡ c.pool = ap pool_in has.was ∙ sym member.pool in
      let unit_is : multiple_of (factors_in new.config.members) / c.factor ≡ unit_of o p m =
      ap (λ (n : ℕ). n / c.factor) (sym (common-opening new) ∙ common-same) ∙ ap (λ (f : ℕ). common_of o p / f) member.factor in
      let running_is : r.busy * (multiple_of (factors_in new.config.members) / c.factor) ≡ busy_of o p m * unit_of o p m =
      ap (λ (b : ℕ). b * (multiple_of (factors_in new.config.members) / c.factor)) row.busy ∙ ap (λ (u : ℕ). busy_of o p m * u) unit_is in
      record {
        shows = record {
          name = row.name ∙ ap name_in has.was ∙ sym member.name;
          factor = row.factor ∙ sym member.factor;
          distance = row.distance ∙ sym member.distance;
          activation = row.activation ∙ sym member.activation;
          redirect = row.redirect ∙ sym member.redirect;
        };
        busy = row.busy ∙ sym (busy-same m) ∙ busy-opening new m;
        pool = omega (arith, row.busy, busy_within v o p m legal lt, pool_is);
        state = state_ending legal m r.state lt row.state;
        load = subst (λ (n : ℕ). r.load ≤ n * 2 ^ 76) (sym is.next) (subst (λ (k : ℕ). k ≤ next_of o p * 2 ^ 76) (sym row.load) light);
        running = subst (λ (x : Method). IsRunning x (r.busy * (multiple_of (factors_in new.config.members) / c.factor)) r.load) (sym is.method)
            (subst (λ (k : ℕ). IsRunning o.config.method k r.load) (sym running_is)
            (running_by o.config.method (busy_of o p m * unit_of o p m) (base_of v o p m + gain_of o p m) r.load row.load));
      }

  -- The ending of a legal history is a valid opening.
  pub ending_valid : (now : Present) → IsLegalPast v o p → IsNow v o p now → IsOpening new
  ending_valid now legal present =
      let turned : reverse new.out ≡ out o p = ap reverse is.out ∙ reverse-reverse (out o p) in
      record {
        tickets = subst (λ (xs : List Ticket). AreTickets (members new) new.next xs) (sym turned)
            (subst (λ (n : ℕ). AreTickets n new.next (out o p)) (sym is.count)
            (subst (λ (n : ℕ). AreTickets (members o) n (out o p)) (sym is.next) (out_tickets v o p legal)));
        chosen = subst (λ (x : Option ℕ). IsWithin (members new) x) (sym is.chosen)
            (subst (λ (n : ℕ). IsWithin n (last_chosen o p)) (sym is.count) (last_within v o p legal));
        rows = record {
          count = is.rows.count ∙ sym is.count;
          row = λ m c r configured shown.
              let lt : m < members o = omega (arith, slice_get_within new.config.members m c configured, is.count) in
              let s : IsStanding v o p m (get_or now.rows.items m nobody) = present.rows m nobody lt in
              let light : load_of v o p m ≤ next_of o p * 2 ^ 76 = subst (λ (k : ℕ). k ≤ next_of o p * 2 ^ 76) s.load s.light in
              row_ending legal m c r lt configured shown light;
        };
        maintained = omega (arith, is.maintained, is.at, maintained_before v o p legal);
        room = omega (arith, is.next, ap length is.out, length-reverse (out o p), legal_room v o p legal);
      }

-- The ending of a Book's fields.
pub is_ending : (v : ℕ) (o : Opening) (p : List Entry) (now : Present) (config : LbConfig) (shown : List MemberRow) (tickets : List Ticket) (next : ℕ)
    → IsNow v o p now → IsSettled o.config now.rows.items config → ArePresentRows v o p (members o) shown
    → tickets ≡ reverse (out o p) → next ≡ next_of o p
    → IsEnding v o p (record { config = config; rows = shown; out = tickets; next = next; at = now.at; maintained = now.maintained; chosen = now.chosen })
is_ending v o p now config shown tickets next present settled rows tickets_are next_is = record {
  next = next_is;
  at = present.moment;
  maintained = present.maintained;
  chosen = present.chosen;
  out = tickets_are;
  rows = rows;
  method = settled.method;
  sticky = settled.sticky;
  force = settled.force;
  direct = settled.direct;
  maintain = settled.maintain;
  recover = settled.recover;
  count = settled.members.whole;
  member = λ m former c was configured.
      let lt : m < members o = slice_get_within o.config.members m former was in
      let s : IsStanding v o p m (get_or now.rows.items m nobody) = present.rows m nobody lt in
      let c_is : c ≡ ending_member former (get_or now.rows.items m nobody) =
      sym (get_or_from_slice_get config.members m c c configured) ∙ settled.members.each m former nobody c lt
      ∙ ap (λ (x : MemberConfig). ending_member x (get_or now.rows.items m nobody)) (get_or_from_slice_get o.config.members m former former was) in
      subst (λ (x : MemberConfig). IsPresentMember o p m former x) (sym c_is) (record {
        name = refl;
        route = refl;
        pool = refl;
        factor = s.factor;
        distance = s.distance;
        activation = s.activation;
        redirect = s.redirect;
      });
}

-- The making of an ending, with all that it may take for granted.
module _ (v : ℕ) (o : Opening) (p : List Entry) (now : Present) (legal : IsLegalPast v o p) (present : IsNow v o p now) where
  pub ranges_now : (m : ℕ) (c : MemberConfig) (d : Standing) → m < length now.rows.items
      → IsInRange (length now.rows.items) m (ending_member (get_or o.config.members m c) (get_or now.rows.items m d))
  ranges_now m c d lt =
      let within : m < members o = omega (arith, present.whole, lt) in
      let s : IsStanding v o p m (get_or now.rows.items m d) = present.rows m d within in
      let setting : IsSetting (members o) m (setting_of o p m) = setting_in_range v o p m legal within in
      let range : IsInRange (members o) m (get_or o.config.members m c) =
      o.config.in_range.at m (get_or o.config.members m c) (slice_get-get_or o.config.members m c within) in
      subst (λ (n : ℕ). IsInRange n m (ending_member (get_or o.config.members m c) (get_or now.rows.items m d))) (sym present.whole)
      (record {
        factor_above = omega (arith, s.factor, setting.factor_above);
        factor_below = omega (arith, s.factor, setting.factor_below);
        distance_below = omega (arith, s.distance, setting.distance_below);
        pool_above = range.pool_above;
        pool_below = range.pool_below;
        redirect = subst (λ (x : Option ℕ). redirects_within (members o) m x ≡ true) (sym s.redirect) setting.redirect;
      })

  pub narrow_now : (d : Standing) → multiple_of (each (length now.rows.items) (λ m. (get_or now.rows.items m d).factor)) < 2 ^ 32
  narrow_now d =
      let same : multiple_of (each (length now.rows.items) (λ m. (get_or now.rows.items m d).factor)) ≡ common_of o p =
      ap (λ (n : ℕ). multiple_of (each n (λ m. (get_or now.rows.items m d).factor))) present.whole
      ∙ ap multiple_of (each-agree (members o) (λ m. (get_or now.rows.items m d).factor) (λ m. factor_of o p m)
      (λ m lt. (present.rows m d lt).factor)) in
      subst (λ (k : ℕ). k < 2 ^ 32) (sym same) (common_narrow v o p legal)

-- A cut changes nothing that is to be seen.
pub is_cut : (v : ℕ) (o : Opening) (h : List Entry) (added : ℕ) (new : Opening) → IsEnding v o (reverse h) new
    → IsCut (record { rules = v; opening = o; entries = h; added = added }) (record { rules = v; opening = new; entries = []; added = added })
is_cut v o h added new is = record {
  ending = is;
  rules = refl;
  empty = refl;
  added = refl;
  next = omega (arith, is.next);
  view = λ view. view-same v o (reverse h) new is view;
}
