-- The state of a member is what the last entry that touches it gives.
use Rattle.std.proofs.Common.{◌≡◌, ℕ, Bool, true, false, ◌&&◌, ◌||◌, not, List, [], ◌∷◌, ◌++◌, refl, subst, ◌∙◌, inl, inr, eq-eqb}
use Rattle.std.specs.Prelude.{◌==◌, slice_get, if◌then◌else◌}
use Rattle.std.proofs.lemmas.Bool.{and_parts, cases_Bool, eqb-true}
use Rattle.std.proofs.lemmas.List.{append-nil}
use Rattle.lb_model.proofs.ChoiceFacts.{candidate_cases, choice_serves, revivable_parts, serving_parts, usable_parts}
use Rattle.lb_model.specs.Choice.{IsChosen, IsPick, any_usable, is_revivable}
use Rattle.lb_model.specs.Free.{is_error, is_in, is_ready}
use Rattle.lb_model.specs.Journal.{chose}
use Rattle.lb_model.specs.Legal.{IsAnswered, IsLegalPast}
use Rattle.lb_model.specs.Settings.{pool_of}
use Rattle.lb_model.specs.StateRows.{chosen_state, left_state, recovered_state, returned_state}
use Rattle.lb_model.specs.States.{counted_of, is_balanced, state_after, state_commanded, state_in, state_of}
use Rattle.lb_model.specs.Tickets.{busy_of, is_on}
use Rattle.lb_model.specs.Touches.{Untouched, given_by_command, given_by_kind, gives, is_recover, is_revived, is_trial_of, touched_by_command, touched_by_kind, touches}
use Rattle.lb_model.specs.declared.ask.Ask.{Ask}
use Rattle.lb_model.specs.declared.change.Command.{Command}
use Rattle.lb_model.specs.declared.change.Command.TheVariants as command
use Rattle.lb_model.specs.declared.journal.Answer.{Answer}
use Rattle.lb_model.specs.declared.journal.Answer.TheVariants as answer
use Rattle.lb_model.specs.declared.journal.Call.{Call}
use Rattle.lb_model.specs.declared.journal.Call.TheVariants as call
use Rattle.lb_model.specs.declared.journal.Entry.{Entry}
use Rattle.lb_model.specs.declared.journal.How.{How}
use Rattle.lb_model.specs.declared.journal.How.TheVariants as how
use Rattle.lb_model.specs.declared.journal.Kind.{Kind}
use Rattle.lb_model.specs.declared.journal.Kind.TheVariants as kind
use Rattle.lb_model.specs.declared.opening.Opening.{Opening}
use Rattle.lb_model.specs.declared.state.MemberState.{MemberState}
use Rattle.lb_model.specs.declared.state.MemberState.TheVariants as state

chosen_not_revived : (seq : ℕ) (s : MemberState) → is_ready s ≡ true → is_recover s ≡ false → chosen_state seq s ≡ s
chosen_not_revived seq state.Ok ready not_recover = refl
chosen_not_revived seq (state.Error at) ready not_recover = absurd cc
chosen_not_revived seq state.Recover ready not_recover = absurd cc
chosen_not_revived seq (state.Probe t) ready not_recover = absurd cc

chosen_trial : (seq : ℕ) (s : MemberState) → is_recover s ≡ true → chosen_state seq s ≡ state.Probe seq
chosen_trial seq state.Ok is = absurd cc
chosen_trial seq (state.Error at) is = absurd cc
chosen_trial seq state.Recover is = refl
chosen_trial seq (state.Probe t) is = absurd cc

revived_trial : (seq : ℕ) (s : MemberState) → is_error s ≡ true → chosen_state seq s ≡ state.Probe seq
revived_trial seq state.Ok is = absurd cc
revived_trial seq (state.Error at) is = refl
revived_trial seq state.Recover is = absurd cc
revived_trial seq (state.Probe t) is = absurd cc

recovered : (s : MemberState) → is_error s ≡ true → recovered_state s ≡ state.Recover
recovered state.Ok is = absurd cc
recovered (state.Error at) is = refl
recovered state.Recover is = absurd cc
recovered (state.Probe t) is = absurd cc

not_recovered : (s : MemberState) → is_error s ≡ false → recovered_state s ≡ s
not_recovered state.Ok is = refl
not_recovered (state.Error at) is = absurd cc
not_recovered state.Recover is = refl
not_recovered (state.Probe t) is = refl

left_untouched : (t : ℕ) (s : MemberState) → is_trial_of t s ≡ false → left_state t s ≡ s
left_untouched t state.Ok is = refl
left_untouched t (state.Error at) is = refl
left_untouched t state.Recover is = refl
left_untouched t (state.Probe u) is = rw is refl

left_touched : (t : ℕ) (s : MemberState) → is_trial_of t s ≡ true → left_state t s ≡ state.Recover
left_touched t state.Ok is = absurd cc
left_touched t (state.Error at) is = absurd cc
left_touched t state.Recover is = absurd cc
left_touched t (state.Probe u) is = rw is refl

returned_untouched : (direct : Bool) (t at : ℕ) (k : Kind) (s : MemberState) → touched_by_kind k t s ≡ false → returned_state direct t k at s ≡ s
returned_untouched direct t at kind.Done s is = absurd cc
returned_untouched direct t at kind.Failed s is = absurd cc
returned_untouched direct t at kind.Gone s is = left_untouched t s is

returned_touched : (direct : Bool) (t at : ℕ) (k : Kind) (s : MemberState) → touched_by_kind k t s ≡ true
    → returned_state direct t k at s ≡ given_by_kind k direct at
returned_touched direct t at kind.Done s is = refl
returned_touched direct t at kind.Failed s is = refl
returned_touched direct t at kind.Gone s is = left_touched t s is

commanded_untouched : (c : Command) (m : ℕ) (s : MemberState) → touched_by_command c m s ≡ false → state_commanded c m s ≡ s
commanded_untouched (command.Update j change) m s is = refl
commanded_untouched (command.Reset j) m s is = rw is refl
commanded_untouched (command.Recover j) m s is =
    elim (cases_Bool (j == m)) [
      | inl this ↦ rw this (not_recovered s (rw this at is))
      | inr other ↦ rw other refl
    ]

pub commanded_touched : (c : Command) (m : ℕ) (s : MemberState) → touched_by_command c m s ≡ true → state_commanded c m s ≡ given_by_command c
commanded_touched (command.Update j change) m s is = absurd cc
commanded_touched (command.Reset j) m s is = rw is refl
commanded_touched (command.Recover j) m s is =
    let both : ((j == m) ≡ true) × (is_error s ≡ true) = and_parts (j == m) (is_error s) is in
    rw both.0 (recovered s both.1)

-- Only a member in Error is revived.
revived_error : (v : ℕ) (o : Opening) (p : List Entry) (ask : Ask) (a : Answer) (m : ℕ)
    → is_revived v o p ask a m ≡ true → is_error (state_of v o p m) ≡ true
revived_error v o p ask a m is =
    let rest : (is_balanced a && (not (any_usable v o p ask) && is_revivable v o p ask m)) ≡ true =
    (and_parts (v == 2) (is_balanced a && (not (any_usable v o p ask) && is_revivable v o p ask m)) is).1 in
    let further : (not (any_usable v o p ask) && is_revivable v o p ask m) ≡ true =
    (and_parts (is_balanced a) (not (any_usable v o p ask) && is_revivable v o p ask m) rest).1 in
    let revivable : is_revivable v o p ask m ≡ true = (and_parts (not (any_usable v o p ask)) (is_revivable v o p ask m) further).1 in
    (revivable_parts (state_of v o p m) (counted_of o p ask m) (is_in ask.tried m) (busy_of o p m) (pool_of o m) revivable).error

select_touched : (v : ℕ) (o : Opening) (p : List Entry) (ask : Ask) (a : Answer) (seq m : ℕ)
    → ((chose m a && is_recover (state_of v o p m)) || is_revived v o p ask a m) ≡ true
    → (if chose m a then chosen_state seq (state_of v o p m)
    else (if is_revived v o p ask a m then recovered_state (state_of v o p m) else state_of v o p m))
    ≡ (if chose m a then state.Probe seq else state.Recover)
select_touched v o p ask a seq m is =
    elim (cases_Bool (chose m a)) [
      | inl this ↦
          elim (cases_Bool (is_recover (state_of v o p m))) [
            | inl recovering ↦ rw this (chosen_trial seq (state_of v o p m) recovering)
            | inr not_recovering ↦
                rw this (revived_trial seq (state_of v o p m) (revived_error v o p ask a m (rw (this, not_recovering) at is)))
          ]
      | inr other ↦
          let revived : is_revived v o p ask a m ≡ true = rw other at is in
          rw (other, revived) (recovered (state_of v o p m) (revived_error v o p ask a m revived))
    ]

balanced_revived : (v : ℕ) (o : Opening) (p : List Entry) (ask : Ask) (m t : ℕ) (probe : Bool)
    → any_usable v o p ask ≡ false → v ≡ 2 → is_revivable v o p ask m ≡ true
    → is_revived v o p ask (answer.Chosen m t how.Balanced probe) m ≡ true
balanced_revived v o p ask m t probe none second revivable =
    let rules : (v == 2) ≡ true = eq-eqb v 2 second in
    rw (rules, none, revivable) refl

-- A chosen member that is neither in Recover nor revived keeps its state.
chosen_kept : (v : ℕ) (o : Opening) (p : List Entry) (ask : Ask) (seq m t : ℕ) (h : How) (probe : Bool) → IsChosen v o p ask h m
    → is_recover (state_of v o p m) ≡ false → is_revived v o p ask (answer.Chosen m t h probe) m ≡ false
    → chosen_state seq (state_of v o p m) ≡ state_of v o p m
chosen_kept v o p ask seq m t how.Sticky probe chosen not_recovering not_revived =
    chosen_not_revived seq (state_of v o p m)
    (serving_parts (state_of v o p m) (counted_of o p ask m) (is_in ask.tried m) (busy_of o p m) (pool_of o m)
    (choice_serves v o p ask m how.Sticky chosen)).ready not_recovering
chosen_kept v o p ask seq m t how.Redirect probe chosen not_recovering not_revived =
    chosen_not_revived seq (state_of v o p m)
    (serving_parts (state_of v o p m) (counted_of o p ask m) (is_in ask.tried m) (busy_of o p m) (pool_of o m)
    (choice_serves v o p ask m how.Redirect chosen)).ready not_recovering
chosen_kept v o p ask seq m t how.Balanced probe chosen not_recovering not_revived =
    elim (candidate_cases v o p ask m chosen.1.passes) [
      | inl usable ↦
          chosen_not_revived seq (state_of v o p m)
          (usable_parts (state_of v o p m) (counted_of o p ask m) (is_in ask.tried m) (busy_of o p m) (pool_of o m) usable.1).ready not_recovering
      | inr revivable ↦
          let revived : is_revived v o p ask (answer.Chosen m t how.Balanced probe) m ≡ true =
          balanced_revived v o p ask m t probe revivable.0 revivable.1 revivable.2 in
          absurd cc
    ]

not_either : (a b : Bool) → (a || b) ≡ false → (a ≡ false) × (b ≡ false)
not_either true b is = absurd cc
not_either false b is = (refl, is)

select_untouched : (v : ℕ) (o : Opening) (p : List Entry) (ask : Ask) (a : Answer) (seq m : ℕ) → IsPick v o p ask a
    → ((chose m a && is_recover (state_of v o p m)) || is_revived v o p ask a m) ≡ false
    → (if chose m a then chosen_state seq (state_of v o p m)
    else (if is_revived v o p ask a m then recovered_state (state_of v o p m) else state_of v o p m)) ≡ state_of v o p m
select_untouched v o p ask (answer.Chosen j t h probe) seq m pick is =
    let both : (((j == m) && is_recover (state_of v o p m)) ≡ false) × (is_revived v o p ask (answer.Chosen j t h probe) m ≡ false) =
    not_either ((j == m) && is_recover (state_of v o p m)) (is_revived v o p ask (answer.Chosen j t h probe) m) is in
    elim (cases_Bool (j == m)) [
      | inl this ↦
          let same : j ≡ m = eqb-true j m this in
          let chosen : IsChosen v o p ask h m = subst (λ (k : ℕ). IsChosen v o p ask h k) same pick.0 in
          let not_revived : is_revived v o p ask (answer.Chosen m t h probe) m ≡ false =
          subst (λ (k : ℕ). is_revived v o p ask (answer.Chosen k t h probe) m ≡ false) same both.1 in
          rw this (chosen_kept v o p ask seq m t h probe chosen (rw this at both.0) not_revived)
      | inr other ↦ rw (other, both.1) refl
    ]
select_untouched v o p ask answer.NoMember seq m pick is = rw is refl
select_untouched v o p ask answer.Forced seq m pick is = rw is refl
select_untouched v o p ask answer.Done seq m pick is = absurd pick

touched_by : (v : ℕ) (o : Opening) (p : List Entry) (e : Entry) (c : Call) (m : ℕ)
    → touches v o p e c m ≡ true → state_after v o p e c (λ j. state_of v o p j) m ≡ gives o e c m
touched_by v o p e (call.Select ask) m is = select_touched v o p ask e.answer e.seq m is
touched_by v o p e (call.Return t w) m is =
    let both : (is_on o p t m ≡ true) × (touched_by_kind w.kind t (state_of v o p m) ≡ true) =
    and_parts (is_on o p t m) (touched_by_kind w.kind t (state_of v o p m)) is in
    rw both.0 (returned_touched o.config.direct t e.at w.kind (state_of v o p m) both.1)
touched_by v o p e call.Maintain m is = rw is refl
touched_by v o p e (call.Admin c) m is = commanded_touched c m (state_of v o p m) is

untouched_by : (v : ℕ) (o : Opening) (p : List Entry) (e : Entry) (c : Call) (m : ℕ) → IsAnswered v o p e c
    → touches v o p e c m ≡ false → state_after v o p e c (λ j. state_of v o p j) m ≡ state_of v o p m
untouched_by v o p e (call.Select ask) m answered is = select_untouched v o p ask e.answer e.seq m answered.0 is
untouched_by v o p e (call.Return t w) m answered is =
    elim (cases_Bool (is_on o p t m)) [
      | inl on ↦ rw on (returned_untouched o.config.direct t e.at w.kind (state_of v o p m) (rw on at is))
      | inr off ↦ rw off refl
    ]
untouched_by v o p e call.Maintain m answered is = rw is refl
untouched_by v o p e (call.Admin c) m answered is = commanded_untouched c m (state_of v o p m) is

-- An entry that touches a member gives it its state; another leaves it.
pub touched : (v : ℕ) (o : Opening) (p : List Entry) (e : Entry) (m : ℕ)
    → touches v o p e e.call m ≡ true → state_of v o (e ∷ p) m ≡ gives o e e.call m
touched v o p e m is = touched_by v o p e e.call m is

pub untouched : (v : ℕ) (o : Opening) (p : List Entry) (e : Entry) (m : ℕ) → IsLegalPast v o (e ∷ p)
    → touches v o p e e.call m ≡ false → state_of v o (e ∷ p) m ≡ state_of v o p m
untouched v o p e m legal is = untouched_by v o p e e.call m legal.0.answered is

pub last_touch : (v : ℕ) (o : Opening) (later : List Entry) (e : Entry) (p : List Entry) (m : ℕ) → IsLegalPast v o (later ++ e ∷ p)
    → Untouched v o later (e ∷ p) m → touches v o p e e.call m ≡ true
    → state_of v o (later ++ e ∷ p) m ≡ gives o e e.call m
last_touch v o [] e p m legal none is = touched v o p e m is
last_touch v o (x ∷ later) e p m legal none is =
    untouched v o (later ++ e ∷ p) x m legal none.0 ∙ last_touch v o later e p m legal.1 none.1 is

pub no_touch : (v : ℕ) (o : Opening) (later : List Entry) (m : ℕ) → IsLegalPast v o later → Untouched v o later [] m
    → state_of v o later m ≡ state_in (slice_get o.rows m)
no_touch v o [] m legal none = refl
no_touch v o (x ∷ later) m legal none =
    untouched v o later x m legal (subst (λ (q : List Entry). touches v o q x x.call m ≡ false) (append-nil later) none.0)
    ∙ no_touch v o later m legal.1 none.1
