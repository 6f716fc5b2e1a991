-- The talks that a reach notes over an exchange, and the counts of faults.
use Rattle.std.proofs.Common.{◌≡◌, ℕ, ◌≤◌, Bool, List, [], ◌∷◌, ◌++◌, Option, Some, None, IfSome, Result, Ok, Err, refl, sym, ap, ◌∙◌, subst, inl, inr, arith, rules, append_assoc, append-nil}
use Rattle.std.proofs.lemmas.List.{append_cancel_left}
use Rattle.jk_io.specs.Told.{appended}
use Rattle.jk_io.specs.Talks.{failed_talk}
use Rattle.jk_io.specs.declared.failures.NoMemory.{NoMemory}
use Rattle.jk_io.specs.declared.reaching.Talk.{Talk}
use Rattle.lb_model.specs.declared.member.MemberConfig.{MemberConfig}
use Rattle.lb_model.specs.declared.refusal.Stray.{Stray}
use Rattle.jk_io.specs.Moments.{Moment}
use Rattle.ajp_talk.specs.declared.ending.TalkEnd.{TalkEnd}
use Rattle.ajp_talk.specs.declared.plan.TalkPlan.{TalkPlan}
use Rattle.http_front.specs.declared.head.Head.{Head}
use Rattle.site_config.specs.declared.endpoint.Endpoint.{Endpoint}
use Rattle.exchange.specs.OneTalk.{Around, IsHeld, IsOneTalk, keeps}
use Rattle.exchange.specs.Requests.{Errand, plan_for}
use Rattle.exchange.specs.Rounds.{HaveGoneOn, IsRound, Round, Scene}
use Rattle.exchange.specs.Talks.{HasRun, HaveFailed, is_fresh}
use Rattle.exchange.specs.declared.ending.Ran.{Ran}
use Rattle.exchange.specs.declared.ending.Ran.TheVariants as ran_is

-- The reach noted these talks and no other, and no count of faults fell.
pub record Grows (s n : Around) : Type 0 where
  pub gained : List Talk
  pub talks : n.talks ≡ appended s.talks gained
  pub reach_faults : s.faults ≤ n.faults
  pub client_faults : s.client.faults ≤ n.client.faults

pub appended_twice : (told : Option (List Talk)) (a b : List Talk) → appended (appended told a) b ≡ appended told (a ++ b)
appended_twice None a b = refl
appended_twice (Some talks) a b = ap Some (append_assoc talks a b)

pub appended_no_talk : (told : Option (List Talk)) → appended told [] ≡ told
appended_no_talk None = refl
appended_no_talk (Some talks) = ap Some (append-nil talks)

pub grows_none : (s : Around) → Grows s s
grows_none s = record { gained = []; talks = sym (appended_no_talk s.talks); reach_faults = omega arith; client_faults = omega arith }

pub same_grows : (s n : Around) → n ≡ s → Grows s n
same_grows s n same = subst (Grows s) (sym same) (grows_none s)

pub grows_twice : (s m n : Around) → Grows s m → Grows m n → Grows s n
grows_twice s m n first second = record {
  gained = first.gained ++ second.gained;
  talks = second.talks ∙ ap (λ (t : Option (List Talk)). appended t second.gained) first.talks ∙ appended_twice s.talks first.gained second.gained;
  reach_faults = omega (arith, first.reach_faults, second.reach_faults);
  client_faults = omega (arith, first.client_faults, second.client_faults);
}

abbrev pub bytes_in : Option (List ℕ) → List ℕ
bytes_in None = []
bytes_in (Some bytes) = bytes

pub are_told : (told : Option (List ℕ)) → IfSome told (λ bytes. bytes ≡ bytes_in told)
are_told None = search rules
are_told (Some bytes) = refl

-- what is told of a talk, and nothing where nothing is
abbrev pub note_with : (lb member : ℕ) → Endpoint → (fresh dialled : Bool) → Moment → (sent received : List ℕ) → Bool → Talk
note_with lb member endpoint fresh dialled opened sent received keep = record {
  lb = lb;
  member = member;
  host = endpoint.host;
  port = endpoint.port;
  fresh = fresh;
  dialled = dialled;
  came = opened.incoming;
  sent = sent;
  received = received;
  keep = keep;
}

-- the note of a talk that was held
abbrev pub note_of : (lb member : ℕ) (endpoint : Endpoint) (plan : TalkPlan) (fresh : Bool) (s n : Around) (answer : Result TalkEnd NoMemory)
    → IsHeld lb member endpoint plan fresh s n answer → Talk
note_of lb member endpoint plan fresh s n answer held =
    note_with lb member endpoint fresh held.dialled held.opened (bytes_in held.closed.sent) (bytes_in held.closed.received) (keeps answer)

pub held_noted : (lb member : ℕ) (endpoint : Endpoint) (plan : TalkPlan) (fresh : Bool) (s n : Around) (answer : Result TalkEnd NoMemory)
    (held : IsHeld lb member endpoint plan fresh s n answer) → n.talks ≡ appended s.talks (note_of lb member endpoint plan fresh s n answer held ∷ [])
held_noted lb member endpoint plan fresh s n answer held =
    held.noted _ (record { begun_with = refl; sent_in = are_told held.closed.sent; received_in = are_told held.closed.received; kept = refl })

none_told : (bytes : List ℕ) → IfSome None (λ (b : List ℕ). b ≡ bytes)
none_told bytes = search rules

untold : (told : Option (List ℕ)) (bytes : List ℕ) → told ≡ None → IfSome told (λ b. b ≡ bytes)
untold told bytes none = subst (λ (o : Option (List ℕ)). IfSome o (λ b. b ≡ bytes)) (sym none) (none_told bytes)

none_is_some : {A : Type 0} → (x : ℕ) (xs : List ℕ) → [] ≡ x ∷ xs → A
none_is_some x xs same = absurd cc

-- A reach that tells its talks told what this one received: one note alone says it.
pub told_received : (lb member : ℕ) (endpoint : Endpoint) (plan : TalkPlan) (fresh : Bool) (s n : Around) (answer : Result TalkEnd NoMemory)
    (held : IsHeld lb member endpoint plan fresh s n answer) (before : List Talk) → s.talks ≡ Some before
    → held.closed.received ≡ Some (bytes_in held.closed.received)
told_received lb member endpoint plan fresh s n answer held before talks = of held.closed.received refl
  where
    note : List ℕ → Talk
    note bytes = note_with lb member endpoint fresh held.dialled held.opened (bytes_in held.closed.sent) bytes (keeps answer)

    noted : (bytes : List ℕ) → held.closed.received ≡ None → n.talks ≡ Some (before ++ note bytes ∷ [])
    noted bytes none =
        held.noted (note bytes) (record { begun_with = refl; sent_in = are_told held.closed.sent; received_in = untold held.closed.received bytes none; kept = refl })
        ∙ ap (λ (o : Option (List Talk)). appended o (note bytes ∷ [])) talks

    of : (told : Option (List ℕ)) → held.closed.received ≡ told → told ≡ Some (bytes_in told)
    of (Some bytes) is = refl
    of None is =
        let both : Some (before ++ note [] ∷ []) ≡ Some (before ++ note (0 ∷ []) ∷ []) = sym (noted [] is) ∙ noted (0 ∷ []) is in
        let lists : before ++ note [] ∷ [] ≡ before ++ note (0 ∷ []) ∷ [] = cc in
        let tails : note [] ∷ [] ≡ note (0 ∷ []) ∷ [] = append_cancel_left before _ _ lists in
        let one : note [] ≡ note (0 ∷ []) = cc in
        none_is_some 0 [] (ap (λ (x : Talk). x.received) one)

pub held_grows : (lb member : ℕ) (endpoint : Endpoint) (plan : TalkPlan) (fresh : Bool) (s n : Around) (answer : Result TalkEnd NoMemory)
    → IsHeld lb member endpoint plan fresh s n answer → Grows s n
held_grows lb member endpoint plan fresh s n answer held = record {
  gained = note_of lb member endpoint plan fresh s n answer held ∷ [];
  talks = held_noted lb member endpoint plan fresh s n answer held;
  reach_faults = omega (arith, held.faults_before, held.faults_within, held.faults_after);
  client_faults = held.client_faults;
}

pub one_grows : (lb member : ℕ) (endpoint : Endpoint) (plan : TalkPlan) (fresh : Bool) (s n : Around) (answer : Result TalkEnd NoMemory)
    → IsOneTalk lb member endpoint plan fresh s n answer → Grows s n
one_grows lb member endpoint plan fresh s n answer (inl held) = held_grows lb member endpoint plan fresh s n answer held
one_grows lb member endpoint plan fresh s n answer (inr (inl linkless)) = record {
  gained = failed_talk lb member endpoint.host endpoint.port fresh ∷ [];
  talks = linkless.1.noted;
  reach_faults = linkless.1.no_fewer;
  client_faults = omega (arith, ap (λ (x : Moment). x.faults) linkless.1.client);
}
one_grows lb member endpoint plan fresh s n answer (inr (inr wanted)) = record {
  gained = [];
  talks = wanted.2.noted ∙ sym (appended_no_talk s.talks);
  reach_faults = omega (arith, wanted.2.steady);
  client_faults = omega (arith, ap (λ (x : Moment). x.faults) wanted.2.client);
}

pub failed_grows : (lb member : ℕ) (endpoint : Endpoint) (head : Head) (plan : TalkPlan) (fresh : Bool) (s : Around) (past : List TalkEnd) (n : Around)
    → HaveFailed lb member endpoint head plan fresh s past n → Grows s n
failed_grows lb member endpoint head plan fresh s [] n same = same_grows s n same
failed_grows lb member endpoint head plan fresh s (end ∷ past) n (mid, before, talk, again) =
    grows_twice s mid n (failed_grows lb member endpoint head plan fresh s past mid before) (one_grows lb member endpoint plan (is_fresh fresh past) mid n (Ok end) talk)

pub run_grows : (q : Errand) (first : List ℕ) (member : ℕ) (config : MemberConfig) (endpoint : Endpoint) (fresh : Bool) (s n : Around) (ran : Ran)
    → HasRun q first member config endpoint fresh s n ran → Grows s n
run_grows q first member config endpoint fresh s n ran_is.TooLarge (inl (fits, run)) = absurd run
run_grows q first member config endpoint fresh s n (ran_is.Wanted bytes) (inl (fits, (before, e, runs, told))) =
    grows_twice s runs.mid n (failed_grows q.lb member endpoint q.head (plan_for q first config endpoint) fresh s before runs.mid runs.failed)
    (one_grows q.lb member endpoint (plan_for q first config endpoint) (is_fresh fresh before) runs.mid n (Err e) runs.final)
run_grows q first member config endpoint fresh s n (ran_is.Ended end bytes) (inl (fits, (before, runs, told))) =
    grows_twice s runs.mid n (failed_grows q.lb member endpoint q.head (plan_for q first config endpoint) fresh s before runs.mid runs.failed)
    (one_grows q.lb member endpoint (plan_for q first config endpoint) (is_fresh fresh before) runs.mid n (Ok end) runs.final)
run_grows q first member config endpoint fresh s n ran (inr (inl (is, unfit, none))) = same_grows s n none
run_grows q first member config endpoint fresh s n ran (inr (inr (is, none))) = same_grows s n none

pub round_grows : (q : Errand) (first : List ℕ) (tried : ℕ) (fresh : Bool) (s n : Scene) (r : Round) (stray : Option Stray) → IsRound q first tried fresh s n r stray
    → Grows s.around n.around
round_grows q first tried fresh s n r stray round = run_grows q first r.member r.config r.endpoint fresh s.around n.around r.ran round.talked

pub rounds_grow : (q : Errand) (first : List ℕ) (s : Scene) (past : List Round) (n : Scene) → HaveGoneOn q first s past n → Grows s.around n.around
rounds_grow q first s [] n same = same_grows s.around n.around (ap (λ (x : Scene). x.around) same)
rounds_grow q first s (r ∷ past) n (mid, before, round, next) =
    grows_twice s.around mid.around n.around (rounds_grow q first s past mid before) (round_grows q first _ _ mid n r None round)
