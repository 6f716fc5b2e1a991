-- Bounds that every legal history keeps: busy counts are within the pools, and a trial's ticket is out on its member.
use Rattle.std.proofs.Common.{◌≡◌, ◌≢◌, ℕ, ◌+◌, ◌<◌, ◌≤◌, Bool, true, false, ◌&&◌, ◌||◌, not, cond, List, [], ◌∷◌, ◌⊎◌, Some, None, refl, sym, subst, ap, ◌∙◌, inl, inr, eq-eqb, arith}
use Rattle.std.specs.Prelude.{◌==◌, slice_get, if◌then◌else◌}
use Rattle.std.specs.List.{list_any, count_by}
use Rattle.std.proofs.lemmas.Bool.{and_parts, cases_Bool, eqb-true}
use Rattle.std.proofs.lemmas.Map.Views.{any-filter_same}
use Rattle.std.proofs.lemmas.Option.{slice_get_cases}
use Rattle.lb_model.proofs.ChoiceFacts.{chosen_roomy}
use Rattle.lb_model.proofs.ListFacts.{count_by-reverse, list_any-filtered, list_any-reverse}
use Rattle.lb_model.proofs.OutFacts.{busy-chosen, busy-returned, out-chosen, out-kept, out-opening, out-returned}
use Rattle.lb_model.specs.Choice.{IsPick}
use Rattle.lb_model.specs.Journal.{chose, members, next_of}
use Rattle.lb_model.specs.Legal.{IsAnswered, IsLegalPast}
use Rattle.lb_model.specs.Settings.{pool_in, pool_of}
use Rattle.lb_model.specs.StateRows.{chosen_state, is_over, left_state, maintained_state, recovered_state, returned_state}
use Rattle.lb_model.specs.States.{is_revived_in, state_after, state_commanded, state_in, state_of}
use Rattle.lb_model.specs.Tickets.{Ticket, busy_of, gives_back, is_on, is_returned, made, out, ticket_in}
use Rattle.lb_model.specs.Validity.{IsOpening, IsOpeningRow, IsOpeningState}
use Rattle.lb_model.specs.declared.ask.Ask.{Ask}
use Rattle.lb_model.specs.declared.change.Command.{Command}
use Rattle.lb_model.specs.declared.change.Command.TheVariants as command
use Rattle.lb_model.specs.declared.journal.Answer.{Answer}
use Rattle.lb_model.specs.declared.journal.Answer.TheVariants as answer
use Rattle.lb_model.specs.declared.journal.Call.{Call}
use Rattle.lb_model.specs.declared.journal.Call.TheVariants as call
use Rattle.lb_model.specs.declared.journal.Entry.{Entry}
use Rattle.lb_model.specs.declared.journal.How.{How}
use Rattle.lb_model.specs.declared.journal.Kind.{Kind}
use Rattle.lb_model.specs.declared.journal.Kind.TheVariants as kind
use Rattle.lb_model.specs.declared.journal.Outcome.{Outcome}
use Rattle.lb_model.specs.declared.member.MemberConfig.{MemberConfig}
use Rattle.lb_model.specs.declared.opening.Opening.{Opening}
use Rattle.lb_model.specs.declared.state.MemberState.{MemberState}
use Rattle.lb_model.specs.declared.state.MemberState.TheVariants as state
use Rattle.lb_model.specs.declared.view.MemberRow.{MemberRow}

-- A member of a valid opening has a row.
pub record HasRow (o : Opening) (m : ℕ) : Type 0 where
  pub config : MemberConfig
  pub row : MemberRow
  pub configured : slice_get o.config.members m ≡ Some config
  pub shown : slice_get o.rows m ≡ Some row
  pub opening : IsOpeningRow o m config row

pub has_row : (o : Opening) (m : ℕ) → IsOpening o → m < members o → HasRow o m
has_row o m valid lt =
    elim (slice_get_cases o.config.members m).1 [
      | inl found ↦
          elim (slice_get_cases o.rows m).1 [
            | inl row ↦ record {
              config = found.0;
              row = row.0;
              configured = found.2;
              shown = row.2;
              opening = valid.rows.row m found.0 row.0 found.2 row.2;
            }
            | inr past ↦ absurd (omega (arith, valid.rows.count))
          ]
      | inr past ↦ absurd (omega arith)
    ]

-- Busy counts before any entry.
pub busy-opening : (o : Opening) (m : ℕ) → busy_of o [] m ≡ count_by (λ x. x.1 == m) o.out
busy-opening o m =
    ap (λ (xs : List Ticket). count_by (λ x. x.1 == m) xs) (out-opening o) ∙ count_by-reverse (λ (x : Ticket). x.1 == m) o.out

-- An entry that returns no ticket and makes none keeps the busy counts.
pub busy-kept : (o : Opening) (p : List Entry) (e : Entry) (m : ℕ) → ticket_in e.seq e.answer ≡ None
    → ((t : ℕ) → gives_back t e.call ≡ false) → busy_of o (e ∷ p) m ≡ busy_of o p m
busy-kept o p e m no_ticket_made returns_none =
    ap (λ (xs : List Ticket). count_by (λ x. x.1 == m) xs) (out-kept o p e no_ticket_made returns_none)

busy_within_select : (v : ℕ) (o : Opening) (p : List Entry) (e : Entry) (ask : Ask) (a : Answer) (m : ℕ) → IsLegalPast v o p
    → e.seq ≡ next_of o p → e.call ≡ call.Select ask → e.answer ≡ a → IsPick v o p ask a
    → busy_of o p m ≤ pool_of o m → busy_of o (e ∷ p) m ≤ pool_of o m
busy_within_select v o p e ask (answer.Chosen j t h probe) m legal number calls answers pick before =
    let more : busy_of o (e ∷ p) m ≡ cond (j == m) 1 0 + busy_of o p m =
    busy-chosen v o p e ask j t h probe m legal number calls answers in
    let room : busy_of o p j < pool_of o j = (chosen_roomy v o p ask h j pick.0).room in
    elim (cases_Bool (j == m)) [
      | inl this ↦
          let same : j ≡ m = eqb-true j m this in
          let here : busy_of o p m < pool_of o m = subst (λ (k : ℕ). busy_of o p k < pool_of o k) same room in
          let one : busy_of o (e ∷ p) m ≡ 1 + busy_of o p m = rw this at more in
          omega arith
      | inr other ↦ let none : busy_of o (e ∷ p) m ≡ 0 + busy_of o p m = rw other at more in omega arith
    ]
busy_within_select v o p e ask answer.NoMember m legal number calls answers pick before =
    let kept : busy_of o (e ∷ p) m ≡ busy_of o p m =
    busy-kept o p e m (ap (ticket_in e.seq) answers) (λ t. ap (gives_back t) calls) in
    omega arith
busy_within_select v o p e ask answer.Forced m legal number calls answers pick before =
    let kept : busy_of o (e ∷ p) m ≡ busy_of o p m =
    busy-kept o p e m (ap (ticket_in e.seq) answers) (λ t. ap (gives_back t) calls) in
    omega arith
busy_within_select v o p e ask answer.Done m legal number calls answers pick before = absurd pick

busy_within_call : (v : ℕ) (o : Opening) (p : List Entry) (e : Entry) (c : Call) (m : ℕ) → IsLegalPast v o p
    → e.seq ≡ next_of o p → e.call ≡ c → IsAnswered v o p e c
    → busy_of o p m ≤ pool_of o m → busy_of o (e ∷ p) m ≤ pool_of o m
busy_within_call v o p e (call.Select ask) m legal number calls answered before =
    busy_within_select v o p e ask e.answer m legal number calls refl answered.0 before
busy_within_call v o p e (call.Return t w) m legal number calls answered before =
    let less : busy_of o p m ≡ cond (is_on o p t m) 1 0 + busy_of o (e ∷ p) m =
    busy-returned v o p e t w m legal (ap (ticket_in e.seq) answered.2) calls answered.0 in
    omega arith
busy_within_call v o p e call.Maintain m legal number calls answered before =
    let kept : busy_of o (e ∷ p) m ≡ busy_of o p m =
    busy-kept o p e m (ap (ticket_in e.seq) answered.1) (λ t. ap (gives_back t) calls) in
    omega arith
busy_within_call v o p e (call.Admin c) m legal number calls answered before =
    let kept : busy_of o (e ∷ p) m ≡ busy_of o p m =
    busy-kept o p e m (ap (ticket_in e.seq) answered.1) (λ t. ap (gives_back t) calls) in
    omega arith

-- No member has more tickets out than its pool.
pub busy_within : (v : ℕ) (o : Opening) (p : List Entry) (m : ℕ) → IsLegalPast v o p → m < members o → busy_of o p m ≤ pool_of o m
busy_within v o [] m legal lt =
    let has : HasRow o m = has_row o m legal lt in
    let pool : pool_of o m ≡ has.config.pool = ap pool_in has.configured in
    let busy : busy_of o [] m ≡ has.row.busy = busy-opening o m ∙ sym has.opening.busy in
    let within : has.row.busy ≤ has.config.pool = has.opening.pool in
    omega arith
busy_within v o (e ∷ p) m legal lt =
    busy_within_call v o p e e.call m legal.1 legal.0.number refl legal.0.answered (busy_within v o p m legal.1 lt)

-- Ticket t is out on member m.
abbrev pub is_out_on : Opening → List Entry → ℕ → ℕ → Bool
is_out_on o p t m = list_any (λ x. (x.0 == t) && (x.1 == m)) (out o p)

-- A state that a step makes a trial was that trial before, or is the new one.
chosen_trial : (seq t : ℕ) (s : MemberState) → chosen_state seq s ≡ state.Probe t → (t ≡ seq) ⊎ (s ≡ state.Probe t)
chosen_trial seq t state.Ok is = absurd cc
chosen_trial seq t (state.Error at) is = inl cc
chosen_trial seq t state.Recover is = inl cc
chosen_trial seq t (state.Probe u) is = inr is

recovered_trial : (t : ℕ) (s : MemberState) → recovered_state s ≡ state.Probe t → s ≡ state.Probe t
recovered_trial t state.Ok is = is
recovered_trial t (state.Error at) is = absurd cc
recovered_trial t state.Recover is = is
recovered_trial t (state.Probe u) is = is

maintained_trial : (at recover t : ℕ) (s : MemberState) → maintained_state at recover s ≡ state.Probe t → s ≡ state.Probe t
maintained_trial at recover t s is =
    elim (cases_Bool (is_over at recover s)) [
      | inl over ↦ let none : state.Recover ≡ state.Probe t = rw over at is in absurd cc
      | inr not_over ↦ rw not_over at is
    ]

left_trial : (u t : ℕ) (s : MemberState) → left_state u s ≡ state.Probe t → (s ≡ state.Probe t) × (t ≢ u)
left_trial u t state.Ok is = absurd cc
left_trial u t (state.Error at) is = absurd cc
left_trial u t state.Recover is = absurd cc
left_trial u t (state.Probe other) is =
    elim (cases_Bool (other == u)) [
      | inl this ↦ let none : state.Recover ≡ state.Probe t = rw this at is in absurd cc
      | inr that ↦
          let same : state.Probe other ≡ state.Probe t = rw that at is in
          let equal : other ≡ t = cc in
          (same, λ here. let clash : (other == u) ≡ true = eq-eqb other u (equal ∙ here) in cc)
    ]

returned_trial : (direct : Bool) (u at t : ℕ) (k : Kind) (s : MemberState) → returned_state direct u k at s ≡ state.Probe t
    → (s ≡ state.Probe t) × (t ≢ u)
returned_trial direct u at t kind.Done s is = absurd cc
returned_trial true u at t kind.Failed s is = absurd cc
returned_trial false u at t kind.Failed s is = absurd cc
returned_trial direct u at t kind.Gone s is = left_trial u t s is

commanded_trial : (c : Command) (m t : ℕ) (s : MemberState) → state_commanded c m s ≡ state.Probe t → s ≡ state.Probe t
commanded_trial (command.Update j change) m t s is = is
commanded_trial (command.Reset j) m t s is =
    elim (cases_Bool (j == m)) [
      | inl this ↦ let none : state.Ok ≡ state.Probe t = rw this at is in absurd cc
      | inr other ↦ rw other at is
    ]
commanded_trial (command.Recover j) m t s is =
    elim (cases_Bool (j == m)) [ inl this ↦ recovered_trial t s (rw this at is) | inr other ↦ rw other at is ]

-- A ticket that was out on m stays out, unless its own Return comes.
kept_out : (o : Opening) (p : List Entry) (e : Entry) (u t m : ℕ) (w : Outcome) → ticket_in e.seq e.answer ≡ None
    → e.call ≡ call.Return u w → t ≢ u → is_out_on o p t m ≡ true → is_out_on o (e ∷ p) t m ≡ true
kept_out o p e u t m w no_ticket_made calls other before =
    ap (λ (xs : List Ticket). list_any (λ x. (x.0 == t) && (x.1 == m)) xs) (out-returned o p e u w no_ticket_made calls)
    ∙ any-filter_same (λ (x : Ticket). (x.0 == t) && (x.1 == m)) (λ (x : Ticket). not (x.0 == u)) true
    (λ x here.
    let this : x.0 ≡ t = eqb-true x.0 t (and_parts (x.0 == t) (x.1 == m) here).0 in
    let apart : (x.0 == u) ≡ false = elim (cases_Bool (x.0 == u)) [
      | inl same ↦ absurd (other (sym this ∙ eqb-true x.0 u same))
      | inr differs ↦ differs
    ] in
    ap (λ (b : Bool). not b) apart) (out o p)
    ∙ before

same_out_on : (o : Opening) (p : List Entry) (e : Entry) (t m : ℕ) → ticket_in e.seq e.answer ≡ None
    → ((u : ℕ) → gives_back u e.call ≡ false) → is_out_on o (e ∷ p) t m ≡ is_out_on o p t m
same_out_on o p e t m no_ticket_made returns_none =
    ap (λ (xs : List Ticket). list_any (λ x. (x.0 == t) && (x.1 == m)) xs) (out-kept o p e no_ticket_made returns_none)

more_out_on : (v : ℕ) (o : Opening) (p : List Entry) (e : Entry) (ask : Ask) (j u : ℕ) (h : How) (probe : Bool) (t m : ℕ) → IsLegalPast v o p
    → e.seq ≡ next_of o p → e.call ≡ call.Select ask → e.answer ≡ answer.Chosen j u h probe
    → is_out_on o (e ∷ p) t m ≡ ((e.seq == t && j == m) || is_out_on o p t m)
more_out_on v o p e ask j u h probe t m legal number calls answers =
    ap (λ (xs : List Ticket). list_any (λ x. (x.0 == t) && (x.1 == m)) xs) (out-chosen v o p e ask j u h probe legal number calls answers)

-- A ticket that is out on m was made on m.
pub on_from_out : (o : Opening) (p : List Entry) (t m : ℕ) → is_out_on o p t m ≡ true → is_on o p t m ≡ true
on_from_out o p t m is =
    list_any-filtered (λ (x : Ticket). (x.0 == t) && (x.1 == m)) (λ (x : Ticket). not (is_returned x.0 p)) (made o p) is

or_true : (a b : Bool) → b ≡ true → (a || b) ≡ true
or_true true b is = refl
or_true false b is = is

select_trial : (chosen revived : Bool) (seq t : ℕ) (s : MemberState)
    → (if chosen then chosen_state seq s else (if revived then recovered_state s else s)) ≡ state.Probe t
    → ((chosen ≡ true) × (t ≡ seq)) ⊎ (s ≡ state.Probe t)
select_trial true revived seq t s is =
    elim (chosen_trial seq t s is) [ inl new ↦ inl (refl, new) | inr old ↦ inr old ]
select_trial false true seq t s is = inr (recovered_trial t s is)
select_trial false false seq t s is = inr is

trial_select : (v : ℕ) (o : Opening) (p : List Entry) (e : Entry) (ask : Ask) (a : Answer) (t m : ℕ) → IsLegalPast v o p
    → e.seq ≡ next_of o p → e.call ≡ call.Select ask → e.answer ≡ a → IsPick v o p ask a
    → (state_of v o p m ≡ state.Probe t → is_out_on o p t m ≡ true)
    → (if chose m a then chosen_state e.seq (state_of v o p m)
    else (if is_revived_in v (λ j. state_of v o p j) o p ask a m then recovered_state (state_of v o p m) else state_of v o p m)) ≡ state.Probe t
    → is_out_on o (e ∷ p) t m ≡ true
trial_select v o p e ask (answer.Chosen j u h probe) t m legal number calls answers pick before is =
    more_out_on v o p e ask j u h probe t m legal number calls answers
    ∙ elim (select_trial (j == m) (is_revived_in v (λ k. state_of v o p k) o p ask (answer.Chosen j u h probe) m) e.seq t (state_of v o p m) is) [
      | inl new ↦ rw (eq-eqb e.seq t (sym new.1), new.0) refl
      | inr old ↦ or_true (e.seq == t && j == m) (is_out_on o p t m) (before old)
    ]
trial_select v o p e ask answer.NoMember t m legal number calls answers pick before is =
    same_out_on o p e t m (ap (ticket_in e.seq) answers) (λ u. ap (gives_back u) calls)
    ∙ elim (select_trial false (is_revived_in v (λ k. state_of v o p k) o p ask answer.NoMember m) e.seq t (state_of v o p m) is) [
      | inl new ↦ absurd cc
      | inr old ↦ before old
    ]
trial_select v o p e ask answer.Forced t m legal number calls answers pick before is =
    same_out_on o p e t m (ap (ticket_in e.seq) answers) (λ u. ap (gives_back u) calls)
    ∙ elim (select_trial false (is_revived_in v (λ k. state_of v o p k) o p ask answer.Forced m) e.seq t (state_of v o p m) is) [
      | inl new ↦ absurd cc
      | inr old ↦ before old
    ]
trial_select v o p e ask answer.Done t m legal number calls answers pick before is = absurd pick

trial_return : (v : ℕ) (o : Opening) (p : List Entry) (e : Entry) (u : ℕ) (w : Outcome) (t m : ℕ)
    → e.call ≡ call.Return u w → ticket_in e.seq e.answer ≡ None
    → (state_of v o p m ≡ state.Probe t → is_out_on o p t m ≡ true)
    → (if is_on o p u m then returned_state o.config.direct u w.kind e.at (state_of v o p m) else state_of v o p m) ≡ state.Probe t
    → is_out_on o (e ∷ p) t m ≡ true
trial_return v o p e u w t m calls no_ticket_made before is =
    elim (cases_Bool (is_on o p u m)) [
      | inl on ↦
          let kept : (state_of v o p m ≡ state.Probe t) × (t ≢ u) =
          returned_trial o.config.direct u e.at t w.kind (state_of v o p m) (rw on at is) in
          kept_out o p e u t m w no_ticket_made calls kept.1 (before kept.0)
      | inr off ↦
          let old : state_of v o p m ≡ state.Probe t = rw off at is in
          let here : is_out_on o p t m ≡ true = before old in
          let made_on : is_on o p t m ≡ true = on_from_out o p t m here in
          kept_out o p e u t m w no_ticket_made calls
          (λ same. let clash : is_on o p u m ≡ true = subst (λ (k : ℕ). is_on o p k m ≡ true) same made_on in cc) here
    ]

trial_call : (v : ℕ) (o : Opening) (p : List Entry) (e : Entry) (c : Call) (t m : ℕ) → IsLegalPast v o p
    → e.seq ≡ next_of o p → e.call ≡ c → IsAnswered v o p e c
    → (state_of v o p m ≡ state.Probe t → is_out_on o p t m ≡ true)
    → state_after v o p e c (λ j. state_of v o p j) m ≡ state.Probe t → is_out_on o (e ∷ p) t m ≡ true
trial_call v o p e (call.Select ask) t m legal number calls answered before is =
    trial_select v o p e ask e.answer t m legal number calls refl answered.0 before is
trial_call v o p e (call.Return u w) t m legal number calls answered before is =
    trial_return v o p e u w t m calls (ap (ticket_in e.seq) answered.2) before is
trial_call v o p e call.Maintain t m legal number calls answered before is =
    same_out_on o p e t m (ap (ticket_in e.seq) answered.1) (λ u. ap (gives_back u) calls)
    ∙ before (maintained_trial e.at o.config.recover t (state_of v o p m) is)
trial_call v o p e (call.Admin c) t m legal number calls answered before is =
    same_out_on o p e t m (ap (ticket_in e.seq) answered.1) (λ u. ap (gives_back u) calls)
    ∙ before (commanded_trial c m t (state_of v o p m) is)

-- A trial runs under a ticket that is out on its member.
pub trial_out : (v : ℕ) (o : Opening) (p : List Entry) (m t : ℕ) → IsLegalPast v o p → m < members o
    → state_of v o p m ≡ state.Probe t → is_out_on o p t m ≡ true
trial_out v o [] m t legal lt is =
    let has : HasRow o m = has_row o m legal lt in
    let shown : has.row.state ≡ state.Probe t = sym (ap state_in has.shown) ∙ is in
    let opening : IsOpeningState o m (state.Probe t) = subst (λ (s : MemberState). IsOpeningState o m s) shown has.opening.state in
    ap (λ (xs : List Ticket). list_any (λ x. (x.0 == t) && (x.1 == m)) xs) (out-opening o)
    ∙ list_any-reverse (λ (x : Ticket). (x.0 == t) && (x.1 == m)) o.out ∙ opening
trial_out v o (e ∷ p) m t legal lt is =
    trial_call v o p e e.call t m legal.1 legal.0.number refl legal.0.answered (trial_out v o p m t legal.1 lt) is
