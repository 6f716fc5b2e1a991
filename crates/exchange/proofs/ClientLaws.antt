-- The client at the end of an exchange: all of an answer was written to it, a front of one, or nothing.
use Rattle.std.proofs.Common.{◌≡◌, ℕ, ◌+◌, ◌<◌, ◌≤◌, Bool, true, false, ◌||◌, nat_le, List, [], ◌∷◌, ◌++◌, length, take, drop, slice_get, Option, Some, None, IfSome, IsSome, Result, Ok, Err, refl, sym, ap, ◌∙◌, subst, inl, inr, ◌⊎◌, arith, if◌then◌else◌, append-nil, length-take, length-drop}
use Rattle.std.proofs.lemmas.Bool.{cases_Bool}
use Rattle.jk_io.specs.Told.{appended, IsEmpty, PutsFront, Rose}
use Rattle.jk_io.specs.declared.reaching.Talk.{Talk}
use Rattle.jk_io.specs.declared.failures.NoMemory.{NoMemory}
use Rattle.lb_model.specs.declared.member.MemberConfig.{MemberConfig}
use Rattle.ajp_request.specs.Writing.{FitsForward}
use Rattle.ajp_reply.specs.declared.message.Message.{Message}
use Rattle.ajp_reply.specs.declared.message.Message.TheVariants.{Ask, End}
use Rattle.ajp_reply.specs.declared.message.ReplyParts.{ReplyParts}
use Rattle.ajp_reply.specs.Stream.{Spelled, head_of}
use Rattle.jk_io.specs.Moments.{Moment}
use Rattle.ajp_talk.specs.Moments.{data_at}
use Rattle.ajp_talk.specs.Owed.{asked, pong_of}
use Rattle.ajp_talk.specs.Replies.{bytes_for, chunks_of, has_passed, head_out, kind_of, so_far_of_talk, told_by, told_of_talk, told_with}
use Rattle.ajp_talk.specs.Talk.{IsBadBody, IsFrontOrForm, IsTalk, IsGone}
use Rattle.ajp_talk.specs.declared.ending.Cause.{Cause}
use Rattle.ajp_reply.specs.declared.stage.Stage.{Stage}
use Rattle.ajp_talk.specs.declared.ending.TalkEnd.{TalkEnd}
use Rattle.ajp_talk.specs.declared.ending.TalkEnd.TheVariants as ends
use Rattle.ajp_talk.specs.declared.ending.Told.{Told}
use Rattle.ajp_talk.specs.declared.plan.TalkPlan.{TalkPlan}
use Rattle.forwarding.specs.Forwards.{forward_for}
use Rattle.http_front.specs.Body.{Data, dropped, reaches}
use Rattle.http_front.specs.State.{most_of, taken_of}
use Rattle.http_out.specs.declared.framing.RequestKind.{RequestKind}
use Rattle.http_out.specs.ReplyBytes.{has_begun}
use Rattle.http_out.specs.Framing.{framing_of}
use Rattle.http_out.specs.Own.{own_bytes, own_of}
use Rattle.http_out.specs.declared.own_answers.Own.{Own}
use Rattle.site_config.specs.declared.endpoint.Endpoint.{Endpoint}
use Rattle.exchange.specs.Clients.{GetsCut, GetsFront, GetsLess, GetsOwn, GetsReply, GetsReplyFront, GivesClient, HasLastTalk, IsNotedLast, IsTooLarge, MeetsBody}
use Rattle.exchange.specs.Deliveries.{PutsShort}
use Rattle.exchange.specs.Exchanges.{BreaksOwn, EndsIn, HasReply, IsExchange, IsLast, IsOwnCause, LostClient, WantsOwn, WritesOwn, begun_with}
use Rattle.exchange.specs.FirstPiece.{IsFirstFailure}
use Rattle.exchange.specs.OneTalk.{Around, IsHeld, IsOneTalk, keeps, no_link, plan_on}
use Rattle.exchange.specs.Requests.{Errand, own_kind, plan_for}
use Rattle.exchange.specs.Rounds.{Round, Scene, is_later}
use Rattle.exchange.specs.Talks.{HasRun}
use Rattle.exchange.specs.declared.ending.ExchangeEnd.{ExchangeEnd}
use Rattle.exchange.specs.declared.ending.ExchangeEnd.TheVariants as exchange_end
use Rattle.exchange.specs.declared.ending.Ran.{Ran}
use Rattle.exchange.specs.declared.ending.Ran.TheVariants as ran_is
use Rattle.exchange.specs.Ends.{is_status}
use Rattle.exchange.proofs.EarlyLaws.{IsEarly, IsFinal, bad_held, done_held, final_of_round, gone_held, piece_len, rose_on, rose_by_one, rounds_unmoved, starts_early, still_early}
use Rattle.exchange.proofs.CauseLaws.{Extends, gateway_of, internal_of, rounds_extend, unavailable_of}
use Rattle.exchange.proofs.GrowLaws.{appended_twice, are_told, bytes_in, failed_grows, note_with, round_grows, rounds_grow}
use Rattle.exchange.proofs.OwnLaws.{bad_status, is_own, or_other}
use Rattle.exchange.proofs.UnmovedLaws.{all_unmoved, appended_none, none_so_far, takes_twice}

not_whole : (a whole : Bool) → (a || whole) ≡ false → whole ≡ false
not_whole true whole none = absurd cc
not_whole false whole none = none

abbrev last_talk : (q : Errand) (first : List ℕ) (s n : Around) (member : ℕ) (config : MemberConfig) (endpoint : Endpoint) (end : TalkEnd) (begun : Around) (fresh : Bool)
    → slice_get q.balancer.book.members member ≡ Some config → slice_get q.balancer.ends member ≡ Some endpoint → IsEarly q first s begun
    → IsHeld q.lb member endpoint (plan_for q first config endpoint) fresh begun n (Ok end) → HasLastTalk q member s n end
last_talk q first s n member config endpoint end begun fresh configured reached early held = record {
  config = config;
  endpoint = endpoint;
  configured = configured;
  reached = reached;
  first = first;
  fresh = fresh;
  begun = begun;
  piece = early.piece;
  takes = early.takes;
  left = early.left;
  unwritten = early.written;
  others = early.others;
  noted = early.noted;
  talk = held;
}

-- ---- what was written

write_on : (s m n : Option (List ℕ)) (bytes : List ℕ) → m ≡ s → n ≡ appended m bytes → n ≡ appended s bytes
write_on s m n bytes same is = is ∙ ap (λ (t : Option (List ℕ)). appended t bytes) same

front_on : (s m n : Option (List ℕ)) (bytes : List ℕ) → m ≡ s → PutsFront m n bytes → PutsFront s n bytes
front_on s m n bytes same put = record { front = put.front; rest = put.rest; whole = put.whole; put = write_on s m n put.front same put.put }

front_none : (s n : Option (List ℕ)) → n ≡ s → PutsFront s n []
front_none s n same = record { front = []; rest = []; whole = refl; put = same ∙ sym (appended_none s) }

front_all : (s n : Option (List ℕ)) (bytes : List ℕ) → n ≡ appended s bytes → PutsFront s n bytes
front_all s n bytes is = record { front = bytes; rest = []; whole = sym (append-nil bytes); put = is }

-- ---- what was noted of the last talk

-- all that came on a link on which nothing had come before
all_got : (opened closed : Option (List ℕ)) (got : List ℕ) → IsEmpty opened → closed ≡ appended opened got → IfSome closed (λ bytes. bytes ≡ got)
all_got None closed got empty is = rw is tt
all_got (Some xs) closed got empty is = rw is (ap (λ (ys : List ℕ). ys ++ got) empty)

noted_last : (q : Errand) (first : List ℕ) (s b n : Around) (member : ℕ) (endpoint : Endpoint) (plan : TalkPlan) (fresh : Bool) (answer : Result TalkEnd NoMemory) (came : List ℕ)
    → IsEarly q first s b → (held : IsHeld q.lb member endpoint plan fresh b n answer)
    → held.closed.received ≡ appended held.opened.received (pong_of (plan_on plan endpoint held.dialled) ++ came) → IsNotedLast member endpoint plan came s n
noted_last q first s b n member endpoint plan fresh answer came early held got =
    let note : Talk =
    note_with q.lb member endpoint fresh held.dialled held.opened (bytes_in held.closed.sent) (pong_of (plan_on plan endpoint held.dialled) ++ came) (keeps answer) in
    record {
      others = early.others;
      note = note;
      talks = held.noted note (record {
        begun_with = refl;
        sent_in = are_told held.closed.sent;
        received_in = all_got held.opened.received held.closed.received _ held.nothing_yet.1 got;
        kept = refl;
      }) ∙ ap (λ (t : Option (List Talk)). appended t (note ∷ [])) early.noted ∙ appended_twice s.talks early.others (note ∷ []);
      with_member = refl;
      received = refl;
    }

-- ---- the front that a talk left

-- nothing, or a front of what its messages make of a reply
abbrev TalkFront : Errand → Around → Around → Type 0
TalkFront q s n = (n.client.sent ≡ s.client.sent) ⊎ GetsReplyFront q s n

-- A member of the balancer.
record IsMember (q : Errand) (member : ℕ) (config : MemberConfig) (endpoint : Endpoint) : Type 0 where
  pub configured : slice_get q.balancer.book.members member ≡ Some config
  pub reached : slice_get q.balancer.ends member ≡ Some endpoint

reply_front : (q : Errand) (first : List ℕ) (s b n : Around) (member : ℕ) (config : MemberConfig) (endpoint : Endpoint) (fresh : Bool) (answer : Result TalkEnd NoMemory)
    (past : List Message) (came rest whole : List ℕ) → IsMember q member config endpoint → IsEarly q first s b
    → (held : IsHeld q.lb member endpoint (plan_for q first config endpoint) fresh b n answer) → Spelled endpoint.packet past came → IsFrontOrForm past
    → held.closed.received ≡ appended held.opened.received (pong_of (plan_on (plan_for q first config endpoint) endpoint held.dialled) ++ (came ++ rest))
    → (whole ≡ so_far_of_talk (plan_for q first config endpoint) past) ⊎ (whole ≡ bytes_for (plan_for q first config endpoint) past)
    → PutsFront b.client.sent n.client.sent whole → GetsReplyFront q s n
reply_front q first s b n member config endpoint fresh answer past came rest whole of early held spelled front got due put = record {
  member = member;
  config = config;
  endpoint = endpoint;
  configured = of.configured;
  reached = of.reached;
  first = first;
  past = past;
  came = came;
  rest = rest;
  spelled = spelled;
  front = front;
  noted = noted_last q first s b n member endpoint (plan_for q first config endpoint) fresh answer (came ++ rest) early held got;
  whole = whole;
  is_due = due;
  written = front_on s.client.sent b.client.sent n.client.sent whole early.written put;
}

-- the same bytes came, and nothing after them
no_rest : (before now : Option (List ℕ)) (pong came : List ℕ) → now ≡ appended before (pong ++ came) → now ≡ appended before (pong ++ (came ++ []))
no_rest before now pong came is = is ∙ ap (λ (bytes : List ℕ). appended before (pong ++ bytes)) (sym (append-nil came))

front_of_held : (q : Errand) (first : List ℕ) (config : MemberConfig) (s b n : Around) (member : ℕ) (endpoint : Endpoint) (fresh : Bool) (answer : Result TalkEnd NoMemory)
    → IsMember q member config endpoint → IsEarly q first s b → (held : IsHeld q.lb member endpoint (plan_for q first config endpoint) fresh b n answer)
    → IsTalk (plan_on (plan_for q first config endpoint) endpoint held.dialled) (record { line = held.opened; client = b.client; body = b.body })
    (record { line = held.closed; client = n.client; body = n.body }) answer → TalkFront q s n
front_of_held q first config s b n member endpoint fresh (Ok (ends.Done told reuse moved)) of early held done =
    inr (reply_front q first s b n member config endpoint fresh _ (End reuse ∷ done.past) done.came [] _ of early held done.reply.spelled (inr done.reply.form)
    (no_rest _ _ _ done.came done.traffic.came.kept) (inr refl) (front_all b.client.sent n.client.sent _ done.written))
front_of_held q first config s b n member endpoint fresh (Ok (ends.Failed stage cause told moved)) of early held (inl failed) =
    inr (reply_front q first s b n member config endpoint fresh _ failed.past failed.came failed.rest _ of early held failed.accepts.spelled (inl failed.accepts.front)
    failed.traffic.came.kept (inl refl) (front_all b.client.sent n.client.sent _ failed.written))
front_of_held q first config s b n member endpoint fresh (Ok (ends.Failed stage cause told moved)) of early held (inr silent) =
    inl (ap (λ (x : Moment). x.sent) silent.client ∙ early.written)
front_of_held q first config s b n member endpoint fresh (Ok (ends.ClientGone truncated keep moved)) of early held gone =
    inr (reply_front q first s b n member config endpoint fresh _ gone.past gone.came gone.rest _ of early held gone.broken.spelled gone.broken.front
    gone.broken.traffic.came.kept (inr refl) gone.broken.written)
front_of_held q first config s b n member endpoint fresh (Ok (ends.BadBody status told passed moved)) of early held bad =
    inr (reply_front q first s b n member config endpoint fresh _ (Ask bad.ask ∷ bad.past) bad.came [] _ of early held bad.accepts.spelled (inl bad.accepts.front)
    (no_rest _ _ _ bad.came bad.traffic.came.kept) (inl refl) (front_all b.client.sent n.client.sent _ bad.written))
front_of_held q first config s b n member endpoint fresh (Err e) of early held (inl wanted) =
    inr (reply_front q first s b n member config endpoint fresh _ wanted.past wanted.came wanted.rest _ of early held wanted.broken.spelled wanted.broken.front
    wanted.broken.traffic.came.kept (inr refl) wanted.broken.written)
front_of_held q first config s b n member endpoint fresh (Err e) of early held (inr want) =
    inl (ap (λ (x : Moment). x.sent) want.client ∙ early.written)

front_of_one : (q : Errand) (first : List ℕ) (config : MemberConfig) (s b n : Around) (member : ℕ) (endpoint : Endpoint) (fresh : Bool) (answer : Result TalkEnd NoMemory)
    → IsMember q member config endpoint → IsEarly q first s b → IsOneTalk q.lb member endpoint (plan_for q first config endpoint) fresh b n answer → TalkFront q s n
front_of_one q first config s b n member endpoint fresh answer of early (inl held) =
    front_of_held q first config s b n member endpoint fresh answer of early held held.talk
front_of_one q first config s b n member endpoint fresh answer of early (inr (inl linkless)) =
    inl (ap (λ (x : Moment). x.sent) linkless.1.client ∙ early.written)
front_of_one q first config s b n member endpoint fresh answer of early (inr (inr wanted)) =
    inl (ap (λ (x : Moment). x.sent) wanted.2.client ∙ early.written)

front_of_run : (q : Errand) (first : List ℕ) (s m n : Around) (member : ℕ) (config : MemberConfig) (endpoint : Endpoint) (fresh : Bool) (ran : Ran)
    → IsMember q member config endpoint → IsEarly q first s m → HasRun q first member config endpoint fresh m n ran → TalkFront q s n
front_of_run q first s m n member config endpoint fresh ran_is.TooLarge of early (inl (fits, run)) = absurd run
front_of_run q first s m n member config endpoint fresh (ran_is.Wanted bytes) of early (inl (fits, (before, e, runs, told))) =
    front_of_one q first config s runs.mid n member endpoint _ (Err e) of
    (still_early q first s m runs.mid early (all_unmoved q.lb member endpoint q.head (plan_for q first config endpoint) fresh m before runs.mid runs.failed)
    (failed_grows q.lb member endpoint q.head (plan_for q first config endpoint) fresh m before runs.mid runs.failed)) runs.final
front_of_run q first s m n member config endpoint fresh (ran_is.Ended end bytes) of early (inl (fits, (before, runs, told))) =
    front_of_one q first config s runs.mid n member endpoint _ (Ok end) of
    (still_early q first s m runs.mid early (all_unmoved q.lb member endpoint q.head (plan_for q first config endpoint) fresh m before runs.mid runs.failed)
    (failed_grows q.lb member endpoint q.head (plan_for q first config endpoint) fresh m before runs.mid runs.failed)) runs.final
front_of_run q first s m n member config endpoint fresh ran of early (inr (inl (is, unfit, none))) =
    inl (ap (λ (x : Around). x.client.sent) none ∙ early.written)
front_of_run q first s m n member config endpoint fresh ran of early (inr (inr (is, none))) =
    inl (ap (λ (x : Around). x.client.sent) none ∙ early.written)

-- the front of a talk, as an exchange tells it
as_front : (q : Errand) (s n : Around) → TalkFront q s n → GetsFront q s n
as_front q s n (inl same) = inl same
as_front q s n (inr reply) = inr (inr reply)

as_less : (q : Errand) (s n : Around) → TalkFront q s n → GetsLess q s n
as_less q s n (inl same) = inl same
as_less q s n (inr reply) = inr (inr reply)

-- ---- an own answer

-- where nothing is told of a reply, no byte of it was passed
told_none : (kind : RequestKind) (parts : Option ReplyParts) (chunks : List (List ℕ)) → told_with kind parts chunks ≡ None → has_passed kind parts chunks ≡ false
told_none kind None chunks none = refl
told_none kind (Some parts) chunks none =
    elim (cases_Bool (has_begun (framing_of kind (head_out parts)) chunks)) [
      | inl begun ↦ absurd (let some : told_with kind (Some parts) chunks ≡ Some (told_by kind parts chunks) = rw begun refl in cc)
      | inr none_yet ↦ none_yet
    ]

told_some : (kind : RequestKind) (parts : Option ReplyParts) (chunks : List (List ℕ)) (told : Told) → told_with kind parts chunks ≡ Some told → has_passed kind parts chunks ≡ true
told_some kind None chunks told some = absurd cc
told_some kind (Some parts) chunks told some =
    elim (cases_Bool (has_begun (framing_of kind (head_out parts)) chunks)) [
      | inl begun ↦ begun
      | inr none_yet ↦ absurd (let none : told_with kind (Some parts) chunks ≡ None = rw none_yet refl in cc)
    ]

nothing_written : (plan : TalkPlan) (past : List Message) (s n : Option (List ℕ)) → told_of_talk plan past ≡ None → n ≡ appended s (so_far_of_talk plan past) → n ≡ s
nothing_written plan past s n none is =
    is ∙ ap (λ (b : List ℕ). appended s b) (none_so_far (kind_of plan) (head_of past) (chunks_of past) (told_none (kind_of plan) (head_of past) (chunks_of past) none)) ∙ appended_none s

-- a talk that failed with nothing told wrote nothing
failed_silent : (lb member : ℕ) (endpoint : Endpoint) (plan : TalkPlan) (fresh : Bool) (b n : Around) (stage : Stage) (cause : Cause) (moved : ℕ)
    → IsOneTalk lb member endpoint plan fresh b n (Ok (ends.Failed stage cause None moved)) → n.client.sent ≡ b.client.sent
failed_silent lb member endpoint plan fresh b n stage cause moved (inl held) =
    elim held.talk [
      | inl failed ↦ nothing_written plan failed.past b.client.sent n.client.sent (sym failed.told_is) failed.written
      | inr silent ↦ ap (λ (x : Moment). x.sent) silent.client
    ]
failed_silent lb member endpoint plan fresh b n stage cause moved (inr (inl linkless)) = ap (λ (x : Moment). x.sent) linkless.1.client
failed_silent lb member endpoint plan fresh b n stage cause moved (inr (inr wanted)) = ap (λ (x : Moment). x.sent) wanted.2.client

bad_silent : (lb member : ℕ) (endpoint : Endpoint) (plan : TalkPlan) (fresh : Bool) (b n : Around) (status : ℕ) (passed : Bool) (moved : ℕ)
    → IsOneTalk lb member endpoint plan fresh b n (Ok (ends.BadBody status None passed moved)) → n.client.sent ≡ b.client.sent
bad_silent lb member endpoint plan fresh b n status passed moved talk =
    let held = bad_held lb member endpoint plan fresh b n status None passed moved talk in
    nothing_written plan held.talk.past b.client.sent n.client.sent (sym held.talk.told_is) held.talk.written

-- before an own answer nothing was written
silent_own : (q : Errand) (first : List ℕ) (s : Around) (past : List Round) (a m : Scene) (status : ℕ) → IsEarly q first s a.around → IsOwnCause q first past a m status
    → m.around.client.sent ≡ s.client.sent
silent_own q first s past a m status early (inl none) = ap (λ (x : Around). x.client.sent) none.1.around ∙ early.written
silent_own q first s past a m status early (inr (inl forced)) = ap (λ (x : Around). x.client.sent) forced.1.around ∙ early.written
silent_own q first s past a m status early (inr (inr (inl full))) = ap (λ (x : Around). x.client.sent) full.1.around ∙ early.written
silent_own q first s past a m status early (inr (inr (inr (r, round, inl (large, is))))) =
    untalked q first a.around m.around r (is_later past) early.written
    (subst (λ (ran : Ran). HasRun q first r.member r.config r.endpoint (is_later past) a.around m.around ran) large round.talked)
  where
    untalked : (q : Errand) (first : List ℕ) (a m : Around) (r : Round) (fresh : Bool) → a.client.sent ≡ s.client.sent
        → HasRun q first r.member r.config r.endpoint fresh a m ran_is.TooLarge → m.client.sent ≡ s.client.sent
    untalked q first a m r fresh same (inl (fits, run)) = absurd run
    untalked q first a m r fresh same (inr (inl (is, unfit, none))) = ap (λ (x : Around). x.client.sent) none ∙ same
    untalked q first a m r fresh same (inr (inr (is, none))) = ap (λ (x : Around). x.client.sent) none ∙ same
silent_own q first s past a m status early (inr (inr (inr (r, round, inr (inl (cause, given, is)))))) =
    let final = final_of_round q first s _ _ a m r None _ early round given.ended in
    failed_silent _ _ _ _ _ final.begun m.around given.stage cause given.moved final.talk ∙ final.early.written
silent_own q first s past a m status early (inr (inr (inr (r, round, inr (inr bad))))) =
    let final = final_of_round q first s _ _ a m r None _ early round bad.ended in
    bad_silent _ _ _ _ _ final.begun m.around status bad.passed bad.moved final.talk ∙ final.early.written

-- the status is one of an own answer
some_own : (q : Errand) (first : List ℕ) (s : Around) (past : List Round) (a m : Scene) (status : ℕ) → IsEarly q first s a.around → IsOwnCause q first past a m status → IsSome (own_of status)
some_own q first s past a m status early (inl none) = is_own status 503 none.0 refl
some_own q first s past a m status early (inr (inl forced)) = is_own status 500 forced.0 refl
some_own q first s past a m status early (inr (inr (inl full))) = is_own status 500 full.0 refl
some_own q first s past a m status early (inr (inr (inr (r, round, inl (large, is))))) = is_own status 413 is refl
some_own q first s past a m status early (inr (inr (inr (r, round, inr (inl (cause, given, is)))))) = or_other (is_status cause) status is
some_own q first s past a m status early (inr (inr (inr (r, round, inr (inr bad))))) =
    let final = final_of_round q first s _ _ a m r None _ early round bad.ended in
    bad_status _ _ _ _ _ final.begun m.around status None bad.passed bad.moved final.talk

-- ---- what the body was

-- data that is cut is cut also before its first piece
cut_before : (told : Option Data) (len n : ℕ) (bad : Bool) → IfSome (dropped len told) (λ d. (reaches n d ≡ false) × (d.bad ≡ bad)) → IfSome told (λ d. (d.whole ≡ false) × (d.bad ≡ bad))
cut_before None len n bad is = is
cut_before (Some d) len n bad is = (not_whole (nat_le n (length (drop len d.bytes))) d.whole is.0, is.1)

abbrev IsLimited : Option Data → (most taken : ℕ) → Type 0
IsLimited told most taken = IfSome told (λ d. most ≤ taken + length d.bytes)

limit_before : (told : Option Data) (len n most most_now taken taken_now : ℕ) (first : List ℕ) → IfSome told (λ d. first ≡ take len d.bytes) → most_now ≡ most → taken_now ≡ taken + length first
    → IfSome (dropped len told) (λ d. most_now ≤ taken_now + length (take n d.bytes)) → IsLimited told most taken
limit_before None len n most most_now taken taken_now first piece same counted is = is
limit_before (Some d) len n most most_now taken taken_now first piece same counted is =
    omega (arith, same, counted, is, ap (λ (bytes : List ℕ). length bytes) piece, length-take len d.bytes, length-drop len d.bytes, length-take n (drop len d.bytes))

bad_before : (q : Errand) (first : List ℕ) (s b : Around) (n status : ℕ) → IsEarly q first s b → IsBadBody b.body n status → status ≡ 400
    → IfSome (data_at s.body) (λ d. (d.whole ≡ false) × (d.bad ≡ true))
bad_before q first s b n status early (inl line) is =
    cut_before (data_at s.body) (piece_len q) n true (subst (λ (told : Option Data). IfSome told (λ d. (reaches n d ≡ false) × (d.bad ≡ true))) early.left line.1)
bad_before q first s b n status early (inr limit) is = absurd (omega (arith, is, limit.0))

long_before : (q : Errand) (first : List ℕ) (s b : Around) (n status : ℕ) → IsEarly q first s b → IsBadBody b.body n status → status ≡ 413
    → IsLimited (data_at s.body) (most_of s.body.body) (taken_of s.body.body)
long_before q first s b n status early (inl line) is = absurd (omega (arith, is, line.0))
long_before q first s b n status early (inr limit) is =
    limit_before (data_at s.body) (piece_len q) n _ _ _ _ first early.piece early.takes.most early.takes.counted
    (subst (λ (told : Option Data). IfSome told (λ d. most_of b.body.body ≤ taken_of b.body.body + length (take n d.bytes))) early.left limit.2)

-- ---- by the end

whole_own : (q : Errand) (before now : Option (List ℕ)) (status : ℕ) (own : Own) → own_of status ≡ Some own
    → IfSome (own_of status) (λ own. now ≡ appended before (own_bytes own (own_kind q))) → now ≡ appended before (own_bytes own (own_kind q))
whole_own q before now status own is written = subst (λ (o : Option Own). IfSome o (λ x. now ≡ appended before (own_bytes x (own_kind q)))) is written

front_own : (q : Errand) (before now : Option (List ℕ)) (status : ℕ) (own : Own) → own_of status ≡ Some own
    → IfSome (own_of status) (λ own. PutsFront before now (own_bytes own (own_kind q))) → PutsFront before now (own_bytes own (own_kind q))
front_own q before now status own is written = subst (λ (o : Option Own). IfSome o (λ x. PutsFront before now (own_bytes x (own_kind q)))) is written

not_failed_by : (b : Bool) (status other : ℕ) → status ≡ (if b then 503 else 502) → status ≡ other → other < 500 → ⊥
not_failed_by true status other is known small = omega (arith, is, known, small)
not_failed_by false status other is known small = omega (arith, is, known, small)

-- the talk that found the body bad
meets_body : (q : Errand) (first : List ℕ) (s : Around) (m n : Scene) (r : Round) (status : ℕ) (passed : Bool) (moved : ℕ)
    → slice_get q.balancer.book.members r.member ≡ Some r.config → slice_get q.balancer.ends r.member ≡ Some r.endpoint
    → IsFinal q first s m.around r (ends.BadBody status None passed moved) → n ≡ record m { around = record m.around { client = n.around.client } }
    → MeetsBody q s n.around status
meets_body q first s m n r status passed moved configured reached final rest = record {
  member = r.member;
  passed = passed;
  moved = moved;
  over = m.around;
  last = last_talk q first s m.around r.member r.config r.endpoint (ends.BadBody status None passed moved) final.begun final.fresh configured reached final.early
      (bad_held _ _ _ _ _ final.begun m.around status None passed moved final.talk);
  rest = ap (λ (x : Scene). x.around) rest;
}

abbrev MetBadLine : Errand → Around → Around → Type 0
MetBadLine q s n = MeetsBody q s n 400 × IfSome (data_at s.body) (λ d. (d.whole ≡ false) × (d.bad ≡ true))

bad_line_of : (q : Errand) (first : List ℕ) (s : Around) (past : List Round) (a m n : Scene) (status : ℕ) → IsEarly q first s a.around → IsOwnCause q first past a m status
    → n ≡ record m { around = record m.around { client = n.around.client } } → status ≡ 400 → MetBadLine q s n.around
bad_line_of q first s past a m n status early (inl none) rest is = absurd (omega (arith, is, none.0))
bad_line_of q first s past a m n status early (inr (inl forced)) rest is = absurd (omega (arith, is, forced.0))
bad_line_of q first s past a m n status early (inr (inr (inl full))) rest is = absurd (omega (arith, is, full.0))
bad_line_of q first s past a m n status early (inr (inr (inr (r, round, inl (large, by))))) rest is = absurd (omega (arith, is, by))
bad_line_of q first s past a m n status early (inr (inr (inr (r, round, inr (inl (cause, given, by)))))) rest is = absurd (not_failed_by (is_status cause) status 400 by is (omega arith))
bad_line_of q first s past a m n status early (inr (inr (inr (r, round, inr (inr bad))))) rest is =
    let final = final_of_round q first s _ _ a m r None _ early round bad.ended in
    let held = bad_held _ _ _ _ _ final.begun m.around status None bad.passed bad.moved final.talk in (
      subst (MeetsBody q s n.around) is (meets_body q first s m n r status bad.passed bad.moved round.configured round.reached final rest),
      bad_before q first s final.begun _ status final.early held.talk.why is,
    )

unfit_of : (q : Errand) (first : List ℕ) (r : Round) (fresh : Bool) (a m : Around) → HasRun q first r.member r.config r.endpoint fresh a m ran_is.TooLarge
    → FitsForward r.endpoint.packet (forward_for q.head q.peer q.balancer.book.direct r.config r.endpoint) → ⊥
unfit_of q first r fresh a m (inl (fits, run)) = absurd run
unfit_of q first r fresh a m (inr (inl (is, unfit, none))) = unfit
unfit_of q first r fresh a m (inr (inr (is, none))) = absurd cc

too_large_of : (q : Errand) (first : List ℕ) (s : Around) (past : List Round) (a m n : Scene) (status : ℕ) → IsEarly q first s a.around → IsOwnCause q first past a m status
    → n ≡ record m { around = record m.around { client = n.around.client } } → status ≡ 413
    → IsTooLarge q n ⊎ (MeetsBody q s n.around 413 × IsLimited (data_at s.body) (most_of s.body.body) (taken_of s.body.body))
too_large_of q first s past a m n status early (inl none) rest is = absurd (omega (arith, is, none.0))
too_large_of q first s past a m n status early (inr (inl forced)) rest is = absurd (omega (arith, is, forced.0))
too_large_of q first s past a m n status early (inr (inr (inl full))) rest is = absurd (omega (arith, is, full.0))
too_large_of q first s past a m n status early (inr (inr (inr (r, round, inl (large, by))))) rest is =
    inl (record {
      first = first;
      tried = _;
      fresh = is_later past;
      begun = a;
      over = m;
      round = r;
      chosen = round;
      unfit = unfit_of q first r (is_later past) a.around m.around
          (subst (λ (ran : Ran). HasRun q first r.member r.config r.endpoint (is_later past) a.around m.around ran) large round.talked);
      rest = rest;
    })
too_large_of q first s past a m n status early (inr (inr (inr (r, round, inr (inl (cause, given, by)))))) rest is = absurd (not_failed_by (is_status cause) status 413 by is (omega arith))
too_large_of q first s past a m n status early (inr (inr (inr (r, round, inr (inr bad))))) rest is =
    let final = final_of_round q first s _ _ a m r None _ early round bad.ended in
    let held = bad_held _ _ _ _ _ final.begun m.around status None bad.passed bad.moved final.talk in
    inr (
      subst (MeetsBody q s n.around) is (meets_body q first s m n r status bad.passed bad.moved round.configured round.reached final rest),
      long_before q first s final.begun _ status final.early held.talk.why is,
    )

gets_own : (q : Errand) (first : List ℕ) (s : Scene) (past : List Round) (a m n : Scene) (status : ℕ) (own : Own) → own_of status ≡ Some own → IsEarly q first s.around a.around
    → Extends s.desk a.desk → IsOwnCause q first past a m status → WritesOwn q m n status → GetsOwn q status s n
gets_own q first s past a m n status own is early extends cause writes = record {
  own = own;
  is_own = is;
  written = write_on s.around.client.sent m.around.client.sent n.around.client.sent _ (silent_own q first s.around past a m status early cause)
      (whole_own q m.around.client.sent n.around.client.sent status own is writes.written);
  bad_line = bad_line_of q first s.around past a m n status early cause writes.rest;
  too_large = too_large_of q first s.around past a m n status early cause writes.rest;
  internal = internal_of q first s a m n past status early extends cause (ap (λ (x : Scene). x.desk) writes.rest);
  gateway = gateway_of q first s a m n past status early cause writes.rest;
  unavailable = unavailable_of q first s a m n past status early extends cause writes.rest;
}

gets_broken : (q : Errand) (first : List ℕ) (s : Around) (past : List Round) (a m n : Scene) (status : ℕ) (own : Own) → own_of status ≡ Some own → IsEarly q first s a.around
    → IsOwnCause q first past a m status → BreaksOwn q m n status → GetsFront q s n.around
gets_broken q first s past a m n status own is early cause breaks =
    inr (inl (record {
      status = status;
      own = own;
      is_own = is;
      written = front_on s.client.sent m.around.client.sent n.around.client.sent _ (silent_own q first s past a m status early cause)
          (front_own q m.around.client.sent n.around.client.sent status own is breaks.written);
    }))

short_own : (q : Errand) (before now : Option (List ℕ)) (status : ℕ) (own : Own) → own_of status ≡ Some own
    → IfSome (own_of status) (λ own. PutsShort before now (own_bytes own (own_kind q))) → PutsShort before now (own_bytes own (own_kind q))
short_own q before now status own is written = subst (λ (o : Option Own). IfSome o (λ x. PutsShort before now (own_bytes x (own_kind q)))) is written

short_on : (s m n : Option (List ℕ)) (bytes : List ℕ) → m ≡ s → PutsShort m n bytes → PutsShort s n bytes
unfolding front_on
short_on s m n bytes same short = record { front = front_on s m n bytes same short.front; some = short.some }

gets_less : (q : Errand) (first : List ℕ) (s : Around) (past : List Round) (a m n : Scene) (status : ℕ) (own : Own) → own_of status ≡ Some own → IsEarly q first s a.around
    → IsOwnCause q first past a m status → WantsOwn q m n status → GetsLess q s n.around
gets_less q first s past a m n status own is early cause wants =
    inr (inl (record {
      status = status;
      own = own;
      is_own = is;
      written = short_on s.client.sent m.around.client.sent n.around.client.sent _ (silent_own q first s past a m status early cause)
          (short_own q m.around.client.sent n.around.client.sent status own is wants.written);
    }))

the_own : (status : ℕ) → IsSome (own_of status) → (own : Own) × (own_of status ≡ Some own)
the_own status some = some_of (own_of status) some
  where
    some_of : (o : Option Own) → IsSome o → (own : Own) × (o ≡ Some own)
    some_of None some = absurd cc
    some_of (Some own) some = (own, refl)

reply_of : (q : Errand) (first : List ℕ) (s m : Around) (r : Round) (told : Told) (reuse : Bool) (moved : ℕ)
    → slice_get q.balancer.book.members r.member ≡ Some r.config → slice_get q.balancer.ends r.member ≡ Some r.endpoint
    → (begun : Around) (fresh : Bool) → IsEarly q first s begun
    → IsHeld q.lb r.member r.endpoint (plan_for q first r.config r.endpoint) fresh begun m (Ok (ends.Done told reuse moved)) → GetsReply q r.member told s m
reply_of q first s m r told reuse moved configured reached begun fresh early held = record {
  reuse = reuse;
  moved = moved;
  last = last_talk q first s m r.member r.config r.endpoint (ends.Done told reuse moved) begun fresh configured reached early held;
  past = held.talk.past;
  came = held.talk.came;
  reply = record { spelled = held.talk.reply.spelled; form = held.talk.reply.form; sum = held.talk.reply.sum };
  unlisted = held.talk.unlisted;
  noted = noted_last q first s begun m r.member r.endpoint (plan_for q first r.config r.endpoint) fresh _ held.talk.came early held held.talk.traffic.came.kept;
  written = write_on s.client.sent begun.client.sent m.client.sent _ early.written held.talk.written;
  taken = first ++ held.talk.taken;
  takes = takes_twice s.body begun.body m.body first held.talk.taken early.takes held.talk.takes;
}

gets_reply : (q : Errand) (first : List ℕ) (s : Around) (a m : Scene) (r : Round) (past : List Round) (told : Told) → IsEarly q first s a.around → IsLast q first past a m r
    → HasReply r told → GetsReply q r.member told s m.around
gets_reply q first s a m r past told early round has =
    let final = final_of_round q first s _ _ a m r None _ early round has.ended in
    reply_of q first s m.around r told has.reuse has.moved round.configured round.reached final.begun final.fresh final.early
    (done_held _ _ _ _ _ final.begun m.around told has.reuse has.moved final.talk)

-- a reply that was broken off in a talk that failed
cut_by_failed : (q : Errand) (first : List ℕ) (s m : Around) (r : Round) (stage : Stage) (cause : Cause) (told : Told) (moved : ℕ)
    → slice_get q.balancer.book.members r.member ≡ Some r.config → slice_get q.balancer.ends r.member ≡ Some r.endpoint
    → (begun : Around) (fresh : Bool) → IsEarly q first s begun
    → (held : IsHeld q.lb r.member r.endpoint (plan_for q first r.config r.endpoint) fresh begun m (Ok (ends.Failed stage cause (Some told) moved)))
    → IsTalk (plan_on (plan_for q first r.config r.endpoint) r.endpoint held.dialled)
    (record { line = held.opened; client = begun.client; body = begun.body }) (record { line = held.closed; client = m.client; body = m.body })
    (Ok (ends.Failed stage cause (Some told) moved)) → GetsCut q r.member told s m
cut_by_failed q first s m r stage cause told moved configured reached begun fresh early held (inl failed) = record {
  end = ends.Failed stage cause (Some told) moved;
  is_break = refl;
  last = last_talk q first s m r.member r.config r.endpoint (ends.Failed stage cause (Some told) moved) begun fresh configured reached early held;
  past = failed.past;
  came = failed.came;
  rest = failed.rest;
  noted = noted_last q first s begun m r.member r.endpoint (plan_for q first r.config r.endpoint) fresh _ (failed.came ++ failed.rest) early held failed.traffic.came.kept;
  accepts = record { spelled = failed.accepts.spelled; front = failed.accepts.front; unlisted = failed.accepts.unlisted; within = failed.accepts.within };
  passed = told_some (kind_of (plan_for q first r.config r.endpoint)) (head_of failed.past) (chunks_of failed.past) told (sym failed.told_is);
  written = write_on s.client.sent begun.client.sent m.client.sent _ early.written failed.written;
}
cut_by_failed q first s m r stage cause told moved configured reached begun fresh early held (inr silent) =
    absurd (let none : Some told ≡ None = silent.told_is in cc)

cut_by_failure : (q : Errand) (first : List ℕ) (s m : Around) (r : Round) (stage : Stage) (cause : Cause) (told : Told) (moved : ℕ)
    → slice_get q.balancer.book.members r.member ≡ Some r.config → slice_get q.balancer.ends r.member ≡ Some r.endpoint
    → (begun : Around) (fresh : Bool) → IsEarly q first s begun
    → IsOneTalk q.lb r.member r.endpoint (plan_for q first r.config r.endpoint) fresh begun m (Ok (ends.Failed stage cause (Some told) moved)) → GetsCut q r.member told s m
cut_by_failure q first s m r stage cause told moved configured reached begun fresh early (inl held) =
    cut_by_failed q first s m r stage cause told moved configured reached begun fresh early held held.talk
cut_by_failure q first s m r stage cause told moved configured reached begun fresh early (inr (inl linkless)) =
    absurd (let is : Ok (ends.Failed stage cause (Some told) moved) ≡ Ok no_link = linkless.0 in cc)
cut_by_failure q first s m r stage cause told moved configured reached begun fresh early (inr (inr wanted)) =
    absurd (let is : Ok (ends.Failed stage cause (Some told) moved) ≡ Err wanted.0 = wanted.1 in cc)

cut_by_bad : (q : Errand) (first : List ℕ) (s m : Around) (r : Round) (status : ℕ) (told : Told) (passed : Bool) (moved : ℕ)
    → slice_get q.balancer.book.members r.member ≡ Some r.config → slice_get q.balancer.ends r.member ≡ Some r.endpoint
    → (begun : Around) (fresh : Bool) → IsEarly q first s begun
    → IsHeld q.lb r.member r.endpoint (plan_for q first r.config r.endpoint) fresh begun m (Ok (ends.BadBody status (Some told) passed moved)) → GetsCut q r.member told s m
cut_by_bad q first s m r status told passed moved configured reached begun fresh early held = record {
  end = ends.BadBody status (Some told) passed moved;
  is_break = refl;
  last = last_talk q first s m r.member r.config r.endpoint (ends.BadBody status (Some told) passed moved) begun fresh configured reached early held;
  past = Ask held.talk.ask ∷ held.talk.past;
  came = held.talk.came;
  rest = [];
  noted = noted_last q first s begun m r.member r.endpoint (plan_for q first r.config r.endpoint) fresh _ (held.talk.came ++ []) early held
      (no_rest _ _ _ held.talk.came held.talk.traffic.came.kept);
  accepts = record { spelled = held.talk.accepts.spelled; front = held.talk.accepts.front; unlisted = held.talk.accepts.unlisted; within = held.talk.accepts.within };
  passed = told_some (kind_of (plan_for q first r.config r.endpoint)) (head_of held.talk.past) (chunks_of held.talk.past) told (sym held.talk.told_is);
  written = write_on s.client.sent begun.client.sent m.client.sent _ early.written held.talk.written;
}

cut_by_body : (q : Errand) (first : List ℕ) (s m : Around) (r : Round) (status : ℕ) (told : Told) (passed : Bool) (moved : ℕ)
    → slice_get q.balancer.book.members r.member ≡ Some r.config → slice_get q.balancer.ends r.member ≡ Some r.endpoint
    → IsFinal q first s m r (ends.BadBody status (Some told) passed moved) → GetsCut q r.member told s m
cut_by_body q first s m r status told passed moved configured reached final =
    cut_by_bad q first s m r status told passed moved configured reached final.begun final.fresh final.early
    (bad_held _ _ _ _ _ final.begun m status (Some told) passed moved final.talk)

lost : (q : Errand) (first : List ℕ) (s : Around) (a m : Scene) (r : Round) (past : List Round) (truncated : Bool) → IsEarly q first s a.around → IsLast q first past a m r
    → (gone : LostClient r truncated) → (final : IsFinal q first s m.around r (ends.ClientGone truncated gone.keep gone.moved))
    × IsHeld q.lb r.member r.endpoint (plan_for q first r.config r.endpoint) final.fresh final.begun m.around (Ok (ends.ClientGone truncated gone.keep gone.moved))
lost q first s a m r past truncated early round gone =
    let final = final_of_round q first s _ _ a m r None _ early round gone.ended in
    (final, gone_held _ _ _ _ _ final.begun m.around truncated gone.keep gone.moved final.talk)

-- no fault of the client was forgotten before an own answer
pub silent_faults : (q : Errand) (first : List ℕ) (s : Around) (past : List Round) (a m : Scene) (status : ℕ) → IsEarly q first s a.around → IsOwnCause q first past a m status
    → s.client.faults ≤ m.around.client.faults
silent_faults q first s past a m status early (inl none) = omega (arith, early.client_faults, ap (λ (x : Around). x.client.faults) none.1.around)
silent_faults q first s past a m status early (inr (inl forced)) = omega (arith, early.client_faults, ap (λ (x : Around). x.client.faults) forced.1.around)
silent_faults q first s past a m status early (inr (inr (inl full))) = omega (arith, early.client_faults, ap (λ (x : Around). x.client.faults) full.1.around)
silent_faults q first s past a m status early (inr (inr (inr (r, round, why)))) =
    omega (arith, early.client_faults, (round_grows q first _ _ a m r None round).client_faults)

-- the client's bytes ended within its body
cut_gone : (q : Errand) (first : List ℕ) (plan : TalkPlan) (s b n : Around) (opened closed : Moment) (keep : Bool) (moved : ℕ) → IsEarly q first s b
    → IsGone plan (record { line = opened; client = b.client; body = b.body }) (record { line = closed; client = n.client; body = n.body }) true keep moved
    → IfSome (data_at s.body) (λ d. (d.whole ≡ false) × (d.bad ≡ false))
cut_gone q first plan s b n opened closed keep moved early gone =
    cut_before (data_at s.body) (piece_len q) (asked plan.piece gone.past) false
    (subst (λ (told : Option Data). IfSome told (λ d. (reaches (asked plan.piece gone.past) d ≡ false) × (d.bad ≡ false))) early.left (gone.ended refl).2)

-- The client after the last round, by the end of the exchange.
gives_last : (q : Errand) (first : List ℕ) (s a m n : Scene) (past : List Round) (end : ExchangeEnd) → IsEarly q first s.around a.around → Extends s.desk a.desk
    → EndsIn q first past a m n end → GivesClient q s n end
gives_last q first s a m n past (exchange_end.Done member told) early extends (r, round, is, has, rest) =
    subst (λ (x : Scene). GetsReply q member told s.around x.around) (sym rest)
    (subst (λ (k : ℕ). GetsReply q k told s.around m.around) is (gets_reply q first s.around a m r past told early round has))
gives_last q first s a m n past (exchange_end.Own status) early extends (cause, writes) =
    let own = the_own status (some_own q first s.around past a m status early cause) in
    gets_own q first s past a m n status own.0 own.1 early extends cause writes
gives_last q first s a m n past (exchange_end.Cut member told) early extends (r, round, is, rest, inl (cause, given)) =
    let final = final_of_round q first s.around _ _ a m r None _ early round given.ended in
    subst (λ (x : Scene). GetsCut q member told s.around x.around) (sym rest)
    (subst (λ (k : ℕ). GetsCut q k told s.around m.around) is
    (cut_by_failure q first s.around m.around r given.stage cause told given.moved round.configured round.reached final.begun final.fresh final.early final.talk))
gives_last q first s a m n past (exchange_end.Cut member told) early extends (r, round, is, rest, inr (status, bad)) =
    subst (λ (x : Scene). GetsCut q member told s.around x.around) (sym rest)
    (subst (λ (k : ℕ). GetsCut q k told s.around m.around) is
    (cut_by_body q first s.around m.around r status told bad.passed bad.moved round.configured round.reached (final_of_round q first s.around _ _ a m r None _ early round bad.ended)))
gives_last q first s a m n past exchange_end.ClientFault early extends (inl (r, round, gone, rest)) =
    let both = lost q first s.around a m r past false early round gone in
    subst (λ (x : Scene). Rose s.around.client.faults x.around.client.faults × GetsFront q s.around x.around) (sym rest) (
      rose_on s.around.client.faults both.0.begun.client.faults m.around.client.faults (omega (arith, both.0.early.client_faults)) (both.1.talk.failed refl),
      as_front q s.around m.around (front_of_one q first r.config s.around both.0.begun m.around r.member r.endpoint both.0.fresh _ (record { configured = round.configured; reached = round.reached }) both.0.early (inl both.1)),
    )
gives_last q first s a m n past exchange_end.ClientFault early extends (inr (status, cause, breaks, rose)) =
    let own = the_own status (some_own q first s.around past a m status early cause) in (
      rose_on s.around.client.faults m.around.client.faults n.around.client.faults (silent_faults q first s.around past a m status early cause) rose,
      gets_broken q first s.around past a m n status own.0 own.1 early cause breaks,
    )
gives_last q first s a m n past exchange_end.Truncated early extends (r, round, gone, rest) =
    let both = lost q first s.around a m r past true early round gone in
    subst (λ (x : Scene). IfSome (data_at s.around.body) (λ d. (d.whole ≡ false) × (d.bad ≡ false)) × GetsFront q s.around x.around) (sym rest) (
      cut_gone q first _ s.around both.0.begun m.around both.1.opened both.1.closed gone.keep gone.moved both.0.early both.1.talk,
      as_front q s.around m.around (front_of_one q first r.config s.around both.0.begun m.around r.member r.endpoint both.0.fresh _ (record { configured = round.configured; reached = round.reached }) both.0.early (inl both.1)),
    )
gives_last q first s a m n past (exchange_end.Stray ticket returned_at) early extends (r, stray, round, is, at, rest) =
    subst (λ (x : Scene). Rose s.desk.strays x.desk.strays × GetsFront q s.around x.around) (sym rest) (
      rose_on s.desk.strays round.desk.strays m.desk.strays (omega (arith, round.chose.stray, extends.none.strays)) (rose_by_one round.desk.strays m.desk.strays round.back.rose),
      as_front q s.around m.around (front_of_run q first s.around a.around m.around r.member r.config r.endpoint _ r.ran (record { configured = round.configured; reached = round.reached }) early round.talked),
    )
gives_last q first s a m n past exchange_end.NoMemory early extends (inl (none, rest)) =
    inl (ap (λ (x : Scene). x.around.client.sent) rest ∙ ap (λ (x : Around). x.client.sent) none.around ∙ early.written)
gives_last q first s a m n past exchange_end.NoMemory early extends (inr (inl (r, bytes, round, is, rest))) =
    subst (λ (x : Scene). GetsLess q s.around x.around) (sym rest)
    (as_less q s.around m.around (front_of_run q first s.around a.around m.around r.member r.config r.endpoint _ r.ran (record { configured = round.configured; reached = round.reached }) early round.talked))
gives_last q first s a m n past exchange_end.NoMemory early extends (inr (inr (status, cause, wants))) =
    let own = the_own status (some_own q first s.around past a m status early cause) in
    gets_less q first s.around past a m n status own.0 own.1 early cause wants

cut_first : (told : Option Data) (len : ℕ) → IfSome told (λ d. (reaches len d ≡ false) × (d.bad ≡ false)) → IfSome told (λ d. (d.whole ≡ false) × (d.bad ≡ false))
cut_first None len is = is
cut_first (Some d) len is = (not_whole (nat_le len (length d.bytes)) d.whole is.0, is.1)

-- before a first round nothing was written
gives_none : (q : Errand) (s n : Scene) (end : ExchangeEnd) → IsFirstFailure (piece_len q) s.around.body s.around.client.faults n.around.client.faults end
    → n.around.client.sent ≡ s.around.client.sent → GivesClient q s n end
gives_none q s n (exchange_end.Done member told) why same = absurd why
gives_none q s n (exchange_end.Own status) why same = absurd why
gives_none q s n (exchange_end.Cut member told) why same = absurd why
gives_none q s n exchange_end.ClientFault why same = (why, inl same)
gives_none q s n exchange_end.Truncated why same = (cut_first (data_at s.around.body) (piece_len q) why, inl same)
gives_none q s n (exchange_end.Stray ticket returned_at) why same = absurd why
gives_none q s n exchange_end.NoMemory why same = inl same

pub gives : (q : Errand) (s n : Scene) (end : ExchangeEnd) → IsExchange q s n end → GivesClient q s n end
gives q s n end (inl none) = gives_none q s n end none.why none.written
gives q s n end (inr rounds) =
    let start = begun_with s rounds.client rounds.body in
    gives_last q rounds.first s rounds.through.asked rounds.through.ruled n rounds.through.past end
    (still_early q rounds.first s.around start.around rounds.through.asked.around (starts_early q rounds.first s rounds.client rounds.body rounds.took rounds.unwritten rounds.steady)
    (rounds_unmoved q rounds.first start rounds.through.past rounds.through.asked rounds.through.gone_on)
    (rounds_grow q rounds.first start rounds.through.past rounds.through.asked rounds.through.gone_on))
    (rounds_extend q rounds.first start rounds.through.past rounds.through.asked rounds.through.gone_on) rounds.through.ends_in
