-- Under strict options no talk that another one followed held the request whole.
use Rattle.std.proofs.Common.{◌≡◌, ℕ, ◌<◌, ◌≤◌, Bool, true, false, not, ◌&&◌, ◌||◌, nat_le, List, [], ◌∷◌, ◌++◌, length, take, slice_get, Option, Some, None, IfSome, Result, Ok, Err, refl, sym, ap, ◌∙◌, subst, inl, inr, arith, length-append}
use Rattle.std.proofs.lemmas.Bool.{leb-false}
use Rattle.std.proofs.lemmas.List.Elements.{All-append, All-cons, All-nil}
use Rattle.std.specs.List.{All}
use Rattle.std.proofs.lemmas.List.{append_cancel_left}
use Rattle.jk_io.specs.Told.{appended, IsEmpty}
use Rattle.jk_io.specs.Talks.{IsNoteOf, failed_talk}
use Rattle.jk_io.specs.declared.failures.NoMemory.{NoMemory}
use Rattle.jk_io.specs.declared.reaching.Talk.{Talk}
use Rattle.lb_model.specs.declared.member.MemberConfig.{MemberConfig}
use Rattle.lb_model.specs.declared.refusal.Stray.{Stray}
use Rattle.jk_io.specs.Moments.{Moment}
use Rattle.ajp_talk.specs.Moments.{IsFrontOf, data_at}
use Rattle.ajp_talk.specs.Owed.{first_packet, opening, ping_of, request_of}
use Rattle.ajp_talk.specs.Talk.{IsTalk, SentFor}
use Rattle.ajp_talk.specs.declared.ending.Cause.{Cause}
use Rattle.ajp_talk.specs.declared.ending.Cause.TheVariants as cause_is
use Rattle.ajp_reply.specs.declared.stage.Stage.{Stage}
use Rattle.ajp_talk.specs.declared.ending.TalkEnd.{TalkEnd}
use Rattle.ajp_talk.specs.declared.ending.TalkEnd.TheVariants as ends
use Rattle.ajp_talk.specs.declared.plan.TalkPlan.{TalkPlan}
use Rattle.forwarding.specs.FirstPiece.{first_len}
use Rattle.http_front.specs.Body.{Data}
use Rattle.forwarding.specs.Recovery.{is_always_recovered, is_on, may_retry_of}
use Rattle.forwarding.specs.declared.method.MethodKind.{MethodKind}
use Rattle.forwarding.specs.declared.method.MethodKind.TheVariants as method
use Rattle.forwarding.specs.declared.options.RecoveryOption.TheVariants.{NotOnceGot, NotOnceHeaders, AlwaysHead, AlwaysGet}
use Rattle.site_config.specs.declared.endpoint.Endpoint.{Endpoint}
use Rattle.exchange.specs.Exchanges.{EndsIn, IsExchange, IsOwnCause, begun_with as scene_with}
use Rattle.exchange.specs.OneTalk.{Around, IsHeld, IsOneTalk, begun_with, keeps, plan_on}
use Rattle.exchange.specs.Requests.{Errand, method_of, plan_for}
use Rattle.exchange.specs.Rounds.{HaveGoneOn, IsRound, Round, Scene, is_later}
use Rattle.exchange.specs.Talks.{HasRun, HaveFailed}
use Rattle.exchange.specs.WholeTalks.{AreStrict, IsPartial, IsStrict, SendsOnce}
use Rattle.exchange.specs.declared.ending.ExchangeEnd.{ExchangeEnd}
use Rattle.exchange.specs.declared.ending.ExchangeEnd.TheVariants as exchange_end
use Rattle.exchange.specs.declared.ending.Ran.{Ran}
use Rattle.exchange.specs.declared.ending.Ran.TheVariants as ran_is
use Rattle.exchange.proofs.EarlyLaws.{the_piece}
use Rattle.exchange.proofs.GrowLaws.{appended_no_talk, appended_twice, are_told, bytes_in, held_noted, note_of, note_with}
use Rattle.exchange.proofs.UnmovedLaws.{again_follows, may_follow}

none_allowed : (once twice headers : Bool) → once ≡ true → ((not true || not once) && (not headers || not twice)) ≡ false
none_allowed true twice headers is = refl
none_allowed false twice headers is = absurd cc

-- no method is always recovered where neither option is on
never_always : (options : ℕ) (kind : MethodKind) → is_on options AlwaysHead ≡ false → is_on options AlwaysGet ≡ false → is_always_recovered options kind ≡ false
never_always options method.Head no_head no_get = no_head
never_always options method.Get no_head no_get = no_get
never_always options method.Other no_head no_get = refl

-- under strict options another try means that the container didn't get the request
not_got : (options : ℕ) (kind : MethodKind) (got headers passed beyond : Bool) → is_on options NotOnceGot ≡ true → is_on options AlwaysHead ≡ false → is_on options AlwaysGet ≡ false
    → may_retry_of options kind (record { got = got; headers = headers; passed = passed; beyond = beyond }) ≡ true → got ≡ false
not_got options kind false headers passed beyond once no_head no_get allowed = refl
not_got options kind true headers true beyond once no_head no_get allowed = absurd cc
not_got options kind true headers false true once no_head no_get allowed = absurd cc
not_got options kind true headers false false once no_head no_get allowed = absurd
    (let no : (is_always_recovered options kind || ((not true || not (is_on options NotOnceGot)) && (not headers || not (is_on options NotOnceHeaders)))) ≡ false =
    rw (never_always options kind no_head no_get) (none_allowed (is_on options NotOnceGot) (is_on options NotOnceHeaders) headers once) in cc)

-- ---- what a noted talk had sent

only_one : (talks : List Talk) (a b : Talk) → Some (talks ++ a ∷ []) ≡ Some (talks ++ b ∷ []) → a ≡ b
only_one talks a b same =
    let whole : talks ++ a ∷ [] ≡ talks ++ b ∷ [] = cc in
    let rest : a ∷ [] ≡ b ∷ [] = append_cancel_left talks (a ∷ []) (b ∷ []) whole in
    cc

-- where the talks are told, so is what was sent
sent_told : (lb member : ℕ) (endpoint : Endpoint) (fresh dialled : Bool) (opened : Moment) (sent received : Option (List ℕ)) (keep : Bool) (talks : List Talk) (now : Option (List Talk))
    → ((note : Talk) → IsNoteOf (Some (begun_with lb member endpoint fresh dialled opened)) sent received keep note → now ≡ Some (talks ++ note ∷ []))
    → (bytes : List ℕ) × (sent ≡ Some bytes)
sent_told lb member endpoint fresh dialled opened (Some bytes) received keep talks now noted = (bytes, refl)
sent_told lb member endpoint fresh dialled opened None received keep talks now noted =
    let a : Talk = note_with lb member endpoint fresh dialled opened [] (bytes_in received) keep in
    let b : Talk = note_with lb member endpoint fresh dialled opened (0 ∷ []) (bytes_in received) keep in
    let first : now ≡ Some (talks ++ a ∷ []) = noted a (record { begun_with = refl; sent_in = tt; received_in = are_told received; kept = refl }) in
    let second : now ≡ Some (talks ++ b ∷ []) = noted b (record { begun_with = refl; sent_in = tt; received_in = are_told received; kept = refl }) in
    let same : a ≡ b = only_one talks a b (sym first ∙ second) in
    absurd (let sent : [] ≡ 0 ∷ [] = ap (λ (t : Talk). t.sent) same in cc)

all_put : (opened closed : Option (List ℕ)) (put bytes : List ℕ) → IsEmpty opened → closed ≡ appended opened put → closed ≡ Some bytes → bytes ≡ put
all_put None closed put bytes empty is told = absurd cc
all_put (Some xs) closed put bytes empty is told =
    let both : Some (xs ++ put) ≡ Some bytes = sym is ∙ told in
    let known : xs ++ put ≡ bytes = cc in
    sym known ∙ ap (λ (ys : List ℕ). ys ++ put) empty

front_short : (front whole : List ℕ) → IsFrontOf front whole → length front ≤ length whole
front_short front whole is = omega (arith, ap (λ (bytes : List ℕ). length bytes) is.joined, length-append front is.rest)

sent_short : (cause : Cause) (put owed : List ℕ) → SentFor cause put owed → length put ≤ length owed
sent_short cause_is.NoLink put owed sent = absurd sent
sent_short cause_is.Line put owed sent = front_short put owed sent
sent_short cause_is.Ended put owed sent = omega (arith, ap (λ (bytes : List ℕ). length bytes) sent)
sent_short cause_is.BadReply put owed sent = omega (arith, ap (λ (bytes : List ℕ). length bytes) sent)
sent_short cause_is.Disagree put owed sent = omega (arith, ap (λ (bytes : List ℕ). length bytes) sent)
sent_short cause_is.TooLong put owed sent = omega (arith, ap (λ (bytes : List ℕ). length bytes) sent)
sent_short (cause_is.Status status) put owed sent = omega (arith, ap (λ (bytes : List ℕ). length bytes) sent)

-- a ping is less than the opening
ping_short : (q : Errand) (first : List ℕ) (config : MemberConfig) (endpoint : Endpoint) (dialled : Bool)
    → length (ping_of (plan_on (plan_for q first config endpoint) endpoint dialled)) < length (opening (plan_on (plan_for q first config endpoint) endpoint dialled))
ping_short q first config endpoint dialled =
    let plan : TalkPlan = plan_on (plan_for q first config endpoint) endpoint dialled in
    omega (arith, length-append (ping_of plan) (request_of plan), length-append plan.forward (first_packet first))

-- what a talk that failed, and that another may follow, had sent
put_short : (q : Errand) (first : List ℕ) (config : MemberConfig) (endpoint : Endpoint) (dialled : Bool) (s n : Around) (opened closed : Moment) (end : TalkEnd) (bytes : List ℕ)
    → IsStrict endpoint → IsEmpty opened.sent → closed.sent ≡ Some bytes
    → IsTalk (plan_on (plan_for q first config endpoint) endpoint dialled) (record { line = opened; client = s.client; body = s.body })
    (record { line = closed; client = n.client; body = n.body }) (Ok end)
    → may_follow endpoint q.head end ≡ true → length bytes < length (opening (plan_on (plan_for q first config endpoint) endpoint dialled))
put_short q first config endpoint dialled s n opened closed (ends.Done said reuse moved) bytes strict empty told talk may = absurd cc
put_short q first config endpoint dialled s n opened closed (ends.ClientGone truncated keep moved) bytes strict empty told talk may = absurd cc
put_short q first config endpoint dialled s n opened closed (ends.BadBody status said passed moved) bytes strict empty told talk may = absurd cc
put_short q first config endpoint dialled s n opened closed (ends.Failed stage cause said moved) bytes strict empty told (inl failed) may =
    let plan : TalkPlan = plan_on (plan_for q first config endpoint) endpoint dialled in
    let not_whole : stage.got ≡ false =
    not_got endpoint.recovery (method_of q.head) stage.got stage.headers stage.passed stage.beyond strict.once strict.no_head strict.no_get may in
    let got : nat_le (length (opening plan)) (length failed.put) ≡ false = sym (ap (λ (x : Stage). x.got) failed.stage_is) ∙ not_whole in
    let short : length failed.put < length (opening plan) = leb-false (length (opening plan)) (length failed.put) got in
    omega (arith, short, ap (λ (x : List ℕ). length x) (all_put opened.sent closed.sent failed.put bytes empty failed.traffic.sent told))
put_short q first config endpoint dialled s n opened closed (ends.Failed stage cause said moved) bytes strict empty told (inr silent) may =
    omega (
      arith,
      ping_short q first config endpoint dialled,
      sent_short cause silent.put _ silent.sent,
      ap (λ (x : List ℕ). length x) (all_put opened.sent closed.sent silent.put bytes empty silent.traffic.sent told),
    )

-- ---- talks that hold less than the request

-- The reach noted these talks, none of which holds the request whole.
pub record AddsPartial (q : Errand) (first : List ℕ) (s n : Around) : Type 0 where
  pub partial : List Talk
  pub noted : n.talks ≡ appended s.talks partial
  pub partly : All (IsPartial q first) partial

adds_none : (q : Errand) (first : List ℕ) (s n : Around) → n.talks ≡ s.talks → AddsPartial q first s n
adds_none q first s n same = record { partial = []; noted = same ∙ sym (appended_no_talk s.talks); partly = All-nil (IsPartial q first) }

adds_twice : (q : Errand) (first : List ℕ) (s m n : Around) → AddsPartial q first s m → AddsPartial q first m n → AddsPartial q first s n
adds_twice q first s m n one two = record {
  partial = one.partial ++ two.partial;
  noted = two.noted ∙ ap (λ (t : Option (List Talk)). appended t two.partial) one.noted ∙ appended_twice s.talks one.partial two.partial;
  partly = All-append (IsPartial q first) one.partial two.partial one.partly two.partly;
}

adds_one : (q : Errand) (first : List ℕ) (s n : Around) (t : Talk) → n.talks ≡ appended s.talks (t ∷ []) → IsPartial q first t → AddsPartial q first s n
adds_one q first s n t noted partly = record { partial = t ∷ []; noted = noted; partly = All-cons (IsPartial q first) t [] partly (All-nil (IsPartial q first)) }

untold : (s n : Around) (t : Talk) → s.talks ≡ None → n.talks ≡ appended s.talks (t ∷ []) → n.talks ≡ s.talks
untold s n t none noted = noted ∙ ap (λ (x : Option (List Talk)). appended x (t ∷ [])) none ∙ sym none

pub known : {T : Type 0} (xs : List T) (m k : ℕ) (a b : T) → k ≡ m → slice_get xs m ≡ Some a → slice_get xs k ≡ Some b → a ≡ b
known xs m k a b same at there = let both : Some a ≡ Some b = sym at ∙ sym (ap (λ (i : ℕ). slice_get xs i) same) ∙ there in cc

-- the note of a talk on this member is less than its opening
partial_of : (q : Errand) (first : List ℕ) (member : ℕ) (config : MemberConfig) (endpoint : Endpoint) (dialled : Bool) (t : Talk)
    → slice_get q.balancer.book.members member ≡ Some config → slice_get q.balancer.ends member ≡ Some endpoint → t.member ≡ member → t.dialled ≡ dialled
    → length t.sent < length (opening (plan_on (plan_for q first config endpoint) endpoint dialled)) → IsPartial q first t
partial_of q first member config endpoint dialled t configured reached of dials short other_config other_endpoint there here =
    let same_config : config ≡ other_config = known _ _ _ _ _ of configured there in
    let same_endpoint : endpoint ≡ other_endpoint = known _ _ _ _ _ of reached here in
    subst (λ (c : MemberConfig). length t.sent < length (opening (plan_on (plan_for q first c other_endpoint) other_endpoint t.dialled))) same_config
    (subst (λ (e : Endpoint). length t.sent < length (opening (plan_on (plan_for q first config e) e t.dialled))) same_endpoint
    (subst (λ (d : Bool). length t.sent < length (opening (plan_on (plan_for q first config endpoint) endpoint d))) (sym dials) short))

held_partial : (q : Errand) (first : List ℕ) (member : ℕ) (config : MemberConfig) (endpoint : Endpoint) (fresh : Bool) (s n : Around) (end : TalkEnd) (told : Option (List Talk))
    → s.talks ≡ told → IsStrict endpoint → slice_get q.balancer.book.members member ≡ Some config → slice_get q.balancer.ends member ≡ Some endpoint
    → (held : IsHeld q.lb member endpoint (plan_for q first config endpoint) fresh s n (Ok end)) → may_follow endpoint q.head end ≡ true → AddsPartial q first s n
held_partial q first member config endpoint fresh s n end None is strict configured reached held may =
    adds_none q first s n (untold s n _ is (held_noted q.lb member endpoint (plan_for q first config endpoint) fresh s n (Ok end) held))
held_partial q first member config endpoint fresh s n end (Some talks) is strict configured reached held may =
    let plan : TalkPlan = plan_for q first config endpoint in
    let sent = sent_told q.lb member endpoint fresh held.dialled held.opened held.closed.sent held.closed.received (keeps (Ok end)) talks n.talks
    (λ note note_is. held.noted note note_is ∙ ap (λ (t : Option (List Talk)). appended t (note ∷ [])) is) in
    let short = put_short q first config endpoint held.dialled s n held.opened held.closed end sent.0 strict held.nothing_yet.0 sent.1 held.talk may in
    adds_one q first s n (note_of q.lb member endpoint plan fresh s n (Ok end) held) (held_noted q.lb member endpoint plan fresh s n (Ok end) held)
    (partial_of q first member config endpoint held.dialled (note_of q.lb member endpoint plan fresh s n (Ok end) held) configured reached refl refl
    (omega (arith, short, ap (λ (o : Option (List ℕ)). length (bytes_in o)) sent.1)))

one_partial : (q : Errand) (first : List ℕ) (member : ℕ) (config : MemberConfig) (endpoint : Endpoint) (fresh : Bool) (s n : Around) (end : TalkEnd)
    → IsStrict endpoint → slice_get q.balancer.book.members member ≡ Some config → slice_get q.balancer.ends member ≡ Some endpoint
    → IsOneTalk q.lb member endpoint (plan_for q first config endpoint) fresh s n (Ok end) → may_follow endpoint q.head end ≡ true → AddsPartial q first s n
one_partial q first member config endpoint fresh s n end strict configured reached (inl held) may =
    held_partial q first member config endpoint fresh s n end s.talks refl strict configured reached held may
one_partial q first member config endpoint fresh s n end strict configured reached (inr (inl linkless)) may =
    adds_one q first s n (failed_talk q.lb member endpoint.host endpoint.port fresh) linkless.1.noted
    (partial_of q first member config endpoint false (failed_talk q.lb member endpoint.host endpoint.port fresh) configured reached refl refl (let some = ping_short q first config endpoint false in omega (arith, some)))
one_partial q first member config endpoint fresh s n end strict configured reached (inr (inr wanted)) may =
    absurd (let is : Ok end ≡ Err wanted.0 = wanted.1 in cc)

failed_partial : (q : Errand) (first : List ℕ) (member : ℕ) (config : MemberConfig) (endpoint : Endpoint) (fresh : Bool) (s : Around) (past : List TalkEnd) (n : Around)
    → IsStrict endpoint → slice_get q.balancer.book.members member ≡ Some config → slice_get q.balancer.ends member ≡ Some endpoint
    → HaveFailed q.lb member endpoint q.head (plan_for q first config endpoint) fresh s past n → AddsPartial q first s n
failed_partial q first member config endpoint fresh s [] n strict configured reached same = adds_none q first s n (ap (λ (x : Around). x.talks) same)
failed_partial q first member config endpoint fresh s (end ∷ past) n strict configured reached (mid, before, talk, again) =
    adds_twice q first s mid n (failed_partial q first member config endpoint fresh s past mid strict configured reached before)
    (one_partial q first member config endpoint _ mid n end strict configured reached talk (again_follows endpoint q.head end again))

run_partial : (q : Errand) (first : List ℕ) (member : ℕ) (config : MemberConfig) (endpoint : Endpoint) (fresh : Bool) (s n : Around) (end : TalkEnd) (bytes : ℕ)
    → IsStrict endpoint → slice_get q.balancer.book.members member ≡ Some config → slice_get q.balancer.ends member ≡ Some endpoint
    → HasRun q first member config endpoint fresh s n (ran_is.Ended end bytes) → may_follow endpoint q.head end ≡ true → AddsPartial q first s n
run_partial q first member config endpoint fresh s n end bytes strict configured reached (inl (fits, (before, runs, told))) may =
    adds_twice q first s runs.mid n (failed_partial q first member config endpoint fresh s before runs.mid strict configured reached runs.failed)
    (one_partial q first member config endpoint _ runs.mid n end strict configured reached runs.final may)
run_partial q first member config endpoint fresh s n end bytes strict configured reached (inr (inl (is, unfit, none))) may = absurd cc
run_partial q first member config endpoint fresh s n end bytes strict configured reached (inr (inr (is, none))) may = absurd cc

rounds_partial : (q : Errand) (first : List ℕ) (s : Scene) (past : List Round) (n : Scene) → AreStrict q.balancer.ends → HaveGoneOn q first s past n
    → AddsPartial q first s.around n.around
rounds_partial q first s [] n strict same = adds_none q first s.around n.around (ap (λ (x : Scene). x.around.talks) same)
rounds_partial q first s (r ∷ past) n strict (mid, before, round, next) =
    adds_twice q first s.around mid.around n.around (rounds_partial q first s past mid strict before)
    (run_partial q first r.member r.config r.endpoint _ mid.around n.around _ next.ended.0 (strict r.member r.endpoint round.reached) round.configured round.reached
    (subst (λ (ran : Ran). HasRun q first r.member r.config r.endpoint (is_later past) mid.around n.around ran) next.ended.1 round.talked) next.allowed)

-- ---- and one more talk at most

-- Talks that hold less than the request, and one more at most.
pub record AddsOne (q : Errand) (first : List ℕ) (s n : Around) : Type 0 where
  pub partial : List Talk
  pub last : List Talk
  pub noted : n.talks ≡ appended s.talks (partial ++ last)
  pub partly : All (IsPartial q first) partial
  pub one : length last ≤ 1

adds_last : (q : Errand) (first : List ℕ) (s m n : Around) (last : List Talk) → AddsPartial q first s m → n.talks ≡ appended m.talks last → length last ≤ 1 → AddsOne q first s n
adds_last q first s m n last adds noted one = record {
  partial = adds.partial;
  last = last;
  noted = noted ∙ ap (λ (t : Option (List Talk)). appended t last) adds.noted ∙ appended_twice s.talks adds.partial last;
  partly = adds.partly;
  one = one;
}

one_last : (q : Errand) (first : List ℕ) (lb member : ℕ) (endpoint : Endpoint) (plan : TalkPlan) (fresh : Bool) (s m n : Around) (answer : Result TalkEnd NoMemory)
    → AddsPartial q first s m → IsOneTalk lb member endpoint plan fresh m n answer → AddsOne q first s n
one_last q first lb member endpoint plan fresh s m n answer adds (inl held) =
    adds_last q first s m n _ adds (held_noted lb member endpoint plan fresh m n answer held) (omega arith)
one_last q first lb member endpoint plan fresh s m n answer adds (inr (inl linkless)) = adds_last q first s m n _ adds linkless.1.noted (omega arith)
one_last q first lb member endpoint plan fresh s m n answer adds (inr (inr wanted)) =
    adds_last q first s m n [] adds (wanted.2.noted ∙ sym (appended_no_talk m.talks)) (omega arith)

none_last : (q : Errand) (first : List ℕ) (s m n : Around) → AddsPartial q first s m → n.talks ≡ m.talks → AddsOne q first s n
none_last q first s m n adds same = adds_last q first s m n [] adds (same ∙ sym (appended_no_talk m.talks)) (omega arith)

run_last : (q : Errand) (first : List ℕ) (member : ℕ) (config : MemberConfig) (endpoint : Endpoint) (fresh : Bool) (s m n : Around) (ran : Ran)
    → IsStrict endpoint → slice_get q.balancer.book.members member ≡ Some config → slice_get q.balancer.ends member ≡ Some endpoint
    → AddsPartial q first s m → HasRun q first member config endpoint fresh m n ran → AddsOne q first s n
run_last q first member config endpoint fresh s m n ran_is.TooLarge strict configured reached adds (inl (fits, run)) = absurd run
run_last q first member config endpoint fresh s m n (ran_is.Wanted bytes) strict configured reached adds (inl (fits, (before, e, runs, told))) =
    one_last q first q.lb member endpoint (plan_for q first config endpoint) _ s runs.mid n (Err e)
    (adds_twice q first s m runs.mid adds (failed_partial q first member config endpoint fresh m before runs.mid strict configured reached runs.failed)) runs.final
run_last q first member config endpoint fresh s m n (ran_is.Ended end bytes) strict configured reached adds (inl (fits, (before, runs, told))) =
    one_last q first q.lb member endpoint (plan_for q first config endpoint) _ s runs.mid n (Ok end)
    (adds_twice q first s m runs.mid adds (failed_partial q first member config endpoint fresh m before runs.mid strict configured reached runs.failed)) runs.final
run_last q first member config endpoint fresh s m n ran strict configured reached adds (inr (inl (is, unfit, none))) =
    none_last q first s m n adds (ap (λ (x : Around). x.talks) none)
run_last q first member config endpoint fresh s m n ran strict configured reached adds (inr (inr (is, none))) =
    none_last q first s m n adds (ap (λ (x : Around). x.talks) none)

round_last : (q : Errand) (first : List ℕ) (s : Around) (tried : ℕ) (fresh : Bool) (m n : Scene) (r : Round) (stray : Option Stray) → AreStrict q.balancer.ends
    → AddsPartial q first s m.around → IsRound q first tried fresh m n r stray → AddsOne q first s n.around
round_last q first s tried fresh m n r stray strict adds round =
    run_last q first r.member r.config r.endpoint fresh s m.around n.around r.ran (strict r.member r.endpoint round.reached) round.configured round.reached adds round.talked

own_last : (q : Errand) (first : List ℕ) (s : Around) (past : List Round) (a m : Scene) (status : ℕ) → AreStrict q.balancer.ends → AddsPartial q first s a.around
    → IsOwnCause q first past a m status → AddsOne q first s m.around
own_last q first s past a m status strict adds (inl none) = none_last q first s a.around m.around adds (ap (λ (x : Around). x.talks) none.1.around)
own_last q first s past a m status strict adds (inr (inl forced)) = none_last q first s a.around m.around adds (ap (λ (x : Around). x.talks) forced.1.around)
own_last q first s past a m status strict adds (inr (inr (inl full))) = none_last q first s a.around m.around adds (ap (λ (x : Around). x.talks) full.1.around)
own_last q first s past a m status strict adds (inr (inr (inr (r, round, why)))) = round_last q first s _ _ a m r None strict adds round

-- the same talks were noted
same_talks : (q : Errand) (first : List ℕ) (s m n : Around) → n.talks ≡ m.talks → AddsOne q first s m → AddsOne q first s n
same_talks q first s m n same adds = record { partial = adds.partial; last = adds.last; noted = same ∙ adds.noted; partly = adds.partly; one = adds.one }

rest_talks : (m n : Scene) → n ≡ record m { around = record m.around { client = n.around.client } } → n.around.talks ≡ m.around.talks
rest_talks m n rest = ap (λ (x : Scene). x.around.talks) rest

end_last : (q : Errand) (first : List ℕ) (s : Around) (past : List Round) (a m n : Scene) (end : ExchangeEnd) → AreStrict q.balancer.ends → AddsPartial q first s a.around
    → EndsIn q first past a m n end → AddsOne q first s n.around
end_last q first s past a m n (exchange_end.Done member told) strict adds (r, round, is, has, rest) =
    same_talks q first s m.around n.around (ap (λ (x : Scene). x.around.talks) rest) (round_last q first s _ _ a m r None strict adds round)
end_last q first s past a m n (exchange_end.Own status) strict adds (cause, writes) =
    same_talks q first s m.around n.around (rest_talks m n writes.rest) (own_last q first s past a m status strict adds cause)
end_last q first s past a m n (exchange_end.Cut member told) strict adds (r, round, is, rest, why) =
    same_talks q first s m.around n.around (ap (λ (x : Scene). x.around.talks) rest) (round_last q first s _ _ a m r None strict adds round)
end_last q first s past a m n exchange_end.ClientFault strict adds (inl (r, round, gone, rest)) =
    same_talks q first s m.around n.around (ap (λ (x : Scene). x.around.talks) rest) (round_last q first s _ _ a m r None strict adds round)
end_last q first s past a m n exchange_end.ClientFault strict adds (inr (status, cause, breaks, rose)) =
    same_talks q first s m.around n.around (rest_talks m n breaks.rest) (own_last q first s past a m status strict adds cause)
end_last q first s past a m n exchange_end.Truncated strict adds (r, round, gone, rest) =
    same_talks q first s m.around n.around (ap (λ (x : Scene). x.around.talks) rest) (round_last q first s _ _ a m r None strict adds round)
end_last q first s past a m n (exchange_end.Stray ticket returned_at) strict adds (r, stray, round, is, at, rest) =
    same_talks q first s m.around n.around (ap (λ (x : Scene). x.around.talks) rest) (round_last q first s _ _ a m r (Some stray) strict adds round)
end_last q first s past a m n exchange_end.NoMemory strict adds (inl (none, rest)) =
    none_last q first s a.around n.around adds (ap (λ (x : Scene). x.around.talks) rest ∙ ap (λ (x : Around). x.talks) none.around)
end_last q first s past a m n exchange_end.NoMemory strict adds (inr (inl (r, bytes, round, is, rest))) =
    same_talks q first s m.around n.around (ap (λ (x : Scene). x.around.talks) rest) (round_last q first s _ _ a m r None strict adds round)
end_last q first s past a m n exchange_end.NoMemory strict adds (inr (inr (status, cause, breaks))) =
    same_talks q first s m.around n.around (rest_talks m n breaks.rest) (own_last q first s past a m status strict adds cause)

a_piece : (told : Option Data) (len : ℕ) → (first : List ℕ) × IfSome told (λ d. first ≡ take len d.bytes)
a_piece None len = ([], tt)
a_piece (Some d) len = (take len d.bytes, refl)

pub sends_once : (q : Errand) (s n : Scene) (end : ExchangeEnd) → IsExchange q s n end → AreStrict q.balancer.ends → SendsOnce q s.around n.around
sends_once q s n end (inl none) strict =
    let piece = a_piece (data_at s.around.body) (first_len q.head.plan q.balancer.ends) in
    record {
      first = piece.0;
      piece = piece.1;
      partial = [];
      last = [];
      noted = none.talks ∙ sym (appended_no_talk s.around.talks);
      partly = All-nil (IsPartial q piece.0);
      one = omega arith;
    }
sends_once q s n end (inr rounds) strict =
    let start = scene_with s rounds.client rounds.body in
    let adds = rounds_partial q rounds.first start rounds.through.past rounds.through.asked strict rounds.through.gone_on in
    let had = end_last q rounds.first start.around rounds.through.past rounds.through.asked rounds.through.ruled n end strict adds rounds.through.ends_in in
    record {
      first = rounds.first;
      piece = the_piece (data_at s.around.body) (first_len q.head.plan q.balancer.ends) rounds.first rounds.took.piece;
      partial = had.partial;
      last = had.last;
      noted = had.noted;
      partly = had.partly;
      one = had.one;
    }
