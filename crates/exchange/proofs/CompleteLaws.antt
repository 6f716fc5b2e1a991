-- Where the first link has a whole reply to come and nothing fails, the exchange ends with it.
use Rattle.std.proofs.Common.{◌≡◌, ℕ, ◌<◌, ◌≤◌, Bool, true, false, List, [], ◌∷◌, ◌++◌, length, take, drop, slice_get, Option, Some, None, IfSome, Result, Ok, Err, refl, sym, ap, ◌∙◌, subst, inl, inr, arith, append_assoc, length-append, length-take, length-drop}
use Rattle.std.proofs.lemmas.List.{append_cancel_left}
use Rattle.jk_io.specs.Told.{appended, Rose}
use Rattle.jk_io.specs.declared.failures.NoMemory.{NoMemory}
use Rattle.jk_io.specs.declared.reaching.Talk.{Talk}
use Rattle.lb_model.specs.declared.member.MemberConfig.{MemberConfig}
use Rattle.ajp_reply.specs.declared.message.Message.{Message}
use Rattle.ajp_talk.specs.Complete.{Brings, BringsWhole as HasWholeTalk, IsCompleted as IsTalkCompleted}
use Rattle.jk_io.specs.Moments.{Moment}
use Rattle.ajp_talk.specs.Moments.{data_at}
use Rattle.ajp_talk.specs.Owed.{pong_of}
use Rattle.ajp_talk.specs.Replies.{IsReply, IsUnlisted, bytes_for}
use Rattle.ajp_talk.specs.declared.ending.TalkEnd.{TalkEnd}
use Rattle.ajp_talk.specs.declared.ending.TalkEnd.TheVariants as ends
use Rattle.ajp_talk.specs.declared.ending.Told.{Told}
use Rattle.ajp_talk.specs.declared.plan.TalkPlan.{TalkPlan}
use Rattle.forwarding.specs.FirstPiece.{first_len}
use Rattle.http_front.specs.declared.head.Head.{Head}
use Rattle.http_front.specs.Body.{Data, dropped}
use Rattle.site_config.specs.declared.endpoint.Endpoint.{Endpoint}
use Rattle.exchange.specs.Complete.{BringsIn, Completes, HasWhole, IsCompleted, plan_of_note}
use Rattle.exchange.specs.Exchanges.{EndsIn, IsExchange, IsOwnCause, begun_with as scene_with}
use Rattle.exchange.specs.OneTalk.{Around, IsHeld, IsOneTalk, plan_on}
use Rattle.exchange.specs.Requests.{Errand, plan_for}
use Rattle.exchange.specs.Rounds.{HaveGoneOn, IsRound, MayGoOn, Round, Scene}
use Rattle.exchange.specs.Talks.{HasRun, HaveFailed}
use Rattle.exchange.specs.declared.ending.ExchangeEnd.{ExchangeEnd}
use Rattle.exchange.specs.declared.ending.ExchangeEnd.TheVariants as exchange_end
use Rattle.exchange.specs.declared.ending.Ran.{Ran}
use Rattle.exchange.specs.declared.ending.Ran.TheVariants as ran_is
use Rattle.exchange.proofs.EarlyLaws.{IsEarly, rose_by_one, starts_early}
use Rattle.exchange.proofs.ClientLaws.{silent_faults}
use Rattle.exchange.proofs.GrowLaws.{Grows, appended_no_talk, bytes_in, grows_none, grows_twice, held_noted, note_of, told_received, one_grows, round_grows, rounds_grow, same_grows}
use Rattle.exchange.proofs.UnmovedLaws.{again_follows, may_follow}
use Rattle.exchange.proofs.WholeLaws.{known}

-- A talk of the exchange to which nothing had been noted before it: the talks only grow after it.
pub record IsOldest (q : Errand) (first : List ℕ) (s e : Around) (answer : Result TalkEnd NoMemory) : Type 0 where
  pub member : ℕ
  pub config : MemberConfig
  pub endpoint : Endpoint
  pub configured : slice_get q.balancer.book.members member ≡ Some config
  pub reached : slice_get q.balancer.ends member ≡ Some endpoint
  pub fresh : Bool
  pub now : Around
  pub talk : IsOneTalk q.lb member endpoint (plan_for q first config endpoint) fresh s now answer
  pub grows : Grows now e

-- the oldest of talks that failed
oldest_failed : (lb member : ℕ) (endpoint : Endpoint) (q : Errand) (plan : TalkPlan) (fresh : Bool) (s : Around) (end : TalkEnd) (past : List TalkEnd) (n : Around)
    → HaveFailed lb member endpoint q.head plan fresh s (end ∷ past) n
    → (first_end : TalkEnd) × (now : Around) × IsOneTalk lb member endpoint plan fresh s now (Ok first_end) × (may_follow endpoint q.head first_end ≡ true) × Grows now n
oldest_failed lb member endpoint q plan fresh s end [] n (mid, same, talk, again) =
    (end, n, subst (λ (x : Around). IsOneTalk lb member endpoint plan fresh x n (Ok end)) same talk, again_follows endpoint q.head end again, grows_none n)
oldest_failed lb member endpoint q plan fresh s end (other ∷ past) n (mid, before, talk, again) =
    let old = oldest_failed lb member endpoint q plan fresh s other past mid before in
    (old.0, old.1, old.2, old.3, grows_twice old.1 mid n old.4 (one_grows lb member endpoint plan _ mid n (Ok end) talk))

-- A failing talk is the oldest of a round, where another one followed.
pub record FailsFirst (q : Errand) (first : List ℕ) (s e : Around) : Type 0 where
  pub end : TalkEnd
  pub oldest : IsOldest q first s e (Ok end)
  pub may : may_follow oldest.endpoint q.head end ≡ true

fails_first : (q : Errand) (first : List ℕ) (member : ℕ) (config : MemberConfig) (endpoint : Endpoint) (fresh : Bool) (s m e : Around) (end : TalkEnd) (past : List TalkEnd)
    → slice_get q.balancer.book.members member ≡ Some config → slice_get q.balancer.ends member ≡ Some endpoint
    → HaveFailed q.lb member endpoint q.head (plan_for q first config endpoint) fresh s (end ∷ past) m → Grows m e → FailsFirst q first s e
fails_first q first member config endpoint fresh s m e end past configured reached failed grows =
    let old = oldest_failed q.lb member endpoint q (plan_for q first config endpoint) fresh s end past m failed in
    record {
      end = old.0;
      oldest = record {
        member = member;
        config = config;
        endpoint = endpoint;
        configured = configured;
        reached = reached;
        fresh = fresh;
        now = old.1;
        talk = old.2;
        grows = grows_twice old.1 m e old.4 grows;
      };
      may = old.3;
    }

run_fails_first : (q : Errand) (first : List ℕ) (member : ℕ) (config : MemberConfig) (endpoint : Endpoint) (fresh : Bool) (s n e : Around) (end : TalkEnd) (bytes : ℕ)
    → slice_get q.balancer.book.members member ≡ Some config → slice_get q.balancer.ends member ≡ Some endpoint
    → HasRun q first member config endpoint fresh s n (ran_is.Ended end bytes) → may_follow endpoint q.head end ≡ true → Grows n e → FailsFirst q first s e
run_fails_first q first member config endpoint fresh s n e end bytes configured reached (inl (fits, ([], runs, told))) may grows = record {
  end = end;
  oldest = record {
    member = member;
    config = config;
    endpoint = endpoint;
    configured = configured;
    reached = reached;
    fresh = fresh;
    now = n;
    talk = subst (λ (x : Around). IsOneTalk q.lb member endpoint (plan_for q first config endpoint) fresh x n (Ok end)) runs.failed runs.final;
    grows = grows;
  };
  may = may;
}
run_fails_first q first member config endpoint fresh s n e end bytes configured reached (inl (fits, (other ∷ before, runs, told))) may grows =
    fails_first q first member config endpoint fresh s runs.mid e other before configured reached runs.failed
    (grows_twice runs.mid n e (one_grows q.lb member endpoint (plan_for q first config endpoint) _ runs.mid n (Ok end) runs.final) grows)
run_fails_first q first member config endpoint fresh s n e end bytes configured reached (inr (inl (is, unfit, none))) may grows = absurd cc
run_fails_first q first member config endpoint fresh s n e end bytes configured reached (inr (inr (is, none))) may grows = absurd cc

round_fails_first : (q : Errand) (first : List ℕ) (tried : ℕ) (fresh : Bool) (s n : Scene) (e : Around) (r : Round) → IsRound q first tried fresh s n r None → MayGoOn q r
    → Grows n.around e → FailsFirst q first s.around e
round_fails_first q first tried fresh s n e r round next grows =
    run_fails_first q first r.member r.config r.endpoint fresh s.around n.around e _ next.ended.0 round.configured round.reached
    (subst (λ (ran : Ran). HasRun q first r.member r.config r.endpoint fresh s.around n.around ran) next.ended.1 round.talked) next.allowed grows

rounds_fail_first : (q : Errand) (first : List ℕ) (s : Scene) (r : Round) (past : List Round) (n : Scene) (e : Around) → HaveGoneOn q first s (r ∷ past) n → Grows n.around e
    → FailsFirst q first s.around e
rounds_fail_first q first s r [] n e (mid, same, round, next) grows =
    subst (λ (x : Scene). FailsFirst q first x.around e) same (round_fails_first q first _ _ mid n e r round next grows)
rounds_fail_first q first s r (other ∷ past) n e (mid, before, round, next) grows =
    rounds_fail_first q first s other past mid e before (grows_twice mid.around n.around e (round_grows q first _ _ mid n r None round) grows)

-- ---- the oldest talk is the one that is told

same_first : (before gained later : List Talk) (note t : Talk) (told : Option (List Talk)) → told ≡ Some before
    → appended (appended told (note ∷ [])) gained ≡ Some (before ++ t ∷ later) → (note ≡ t) × (gained ≡ later)
same_first before gained later note t told is same =
    let here : appended (appended told (note ∷ [])) gained ≡ Some ((before ++ note ∷ []) ++ gained) = ap (λ (o : Option (List Talk)). appended (appended o (note ∷ [])) gained) is in
    let both : Some ((before ++ note ∷ []) ++ gained) ≡ Some (before ++ t ∷ later) = sym here ∙ same in
    let lists : (before ++ note ∷ []) ++ gained ≡ before ++ t ∷ later = cc in
    let rest : note ∷ gained ≡ t ∷ later = append_cancel_left before (note ∷ gained) (t ∷ later) (sym (append_assoc before (note ∷ []) gained) ∙ lists) in
    (cc, cc)

rose_within : (before mid late now : ℕ) → before ≤ mid → late ≤ now → Rose mid late → Rose before now
rose_within before mid late now early after rose = omega (arith, early, after, rose)

same_plan : (q : Errand) (a b : List ℕ) (c d : MemberConfig) (e f : Endpoint) (x y : Bool) → a ≡ b → c ≡ d → e ≡ f → x ≡ y
    → plan_on (plan_for q a c e) e x ≡ plan_on (plan_for q b d f) f y
same_plan q a b c d e f x y first config endpoint dialled =
    ap (λ (z : List ℕ). plan_on (plan_for q z c e) e x) first ∙ ap (λ (z : MemberConfig). plan_on (plan_for q b z e) e x) config
    ∙ ap (λ (z : Endpoint). plan_on (plan_for q b d z) z x) endpoint ∙ ap (λ (z : Bool). plan_on (plan_for q b d f) f z) dialled

-- the plan of the first talk is that of its note
note_plan : (q : Errand) (first : List ℕ) (s n : Scene) (t : Talk) (all : List Message) (has : HasWhole q s n t all) (b : Around) → IsEarly q first s.around b
    → (member : ℕ) (config : MemberConfig) (endpoint : Endpoint) (dialled : Bool) → dialled ≡ t.dialled → has.config ≡ config → has.endpoint ≡ endpoint
    → plan_of_note q has.data' has.config has.endpoint t ≡ plan_on (plan_for q first config endpoint) endpoint dialled
note_plan q first s n t all has b early member config endpoint dialled dials same_config same_endpoint =
    let piece : first ≡ take (first_len q.head.plan q.balancer.ends) has.data'.bytes =
    subst (λ (o : Option Data). IfSome o (λ d. first ≡ take (first_len q.head.plan q.balancer.ends) d.bytes)) has.told early.piece in
    same_plan q _ _ _ _ _ _ _ _ (sym piece) same_config same_endpoint (sym dials)

no_follow : (endpoint : Endpoint) (head : Head) (end : TalkEnd) (told : Told) (reuse : Bool) (moved : ℕ) → end ≡ ends.Done told reuse moved → may_follow endpoint head end ≡ true → ⊥
no_follow endpoint head end told reuse moved is may =
    let no : false ≡ true = subst (λ (e : TalkEnd). may_follow endpoint head e ≡ true) is may in cc

-- what the note says that the link brings, the link told
brings : (lb member : ℕ) (endpoint : Endpoint) (plan : TalkPlan) (fresh : Bool) (s n : Around) (answer : Result TalkEnd NoMemory)
    (held : IsHeld lb member endpoint plan fresh s n answer) (t : Talk) (before : List Talk) (bytes : List ℕ) → s.talks ≡ Some before
    → note_of lb member endpoint plan fresh s n answer held ≡ t → BringsIn t bytes → Brings held.opened held.closed bytes
brings lb member endpoint plan fresh s n answer held t before bytes talks noted (inl came) = inl (ap (λ (x : Talk). x.came) noted ∙ came)
brings lb member endpoint plan fresh s n answer held t before bytes talks noted (inr received) =
    let here : bytes_in held.closed.received ≡ bytes = ap (λ (x : Talk). x.received) noted ∙ received in
    inr (held.nothing_yet.1, told_received lb member endpoint plan fresh s n answer held before talks ∙ ap Some here)

-- what is told of the whole is told of its first talk
whole_talk : (q : Errand) (first : List ℕ) (s n : Scene) (b now : Around) (member : ℕ) (config : MemberConfig) (endpoint : Endpoint) (fresh : Bool) (t : Talk) (all : List Message)
    (answer : Result TalkEnd NoMemory) (has : HasWhole q s n t all) (held : IsHeld q.lb member endpoint (plan_for q first config endpoint) fresh b now answer)
    → IsEarly q first s.around b → s.around.faults ≤ b.faults → Grows now n.around
    → note_of q.lb member endpoint (plan_for q first config endpoint) fresh b now answer held ≡ t → has.config ≡ config → has.endpoint ≡ endpoint
    → b.talks ≡ Some has.before
    → HasWholeTalk (plan_on (plan_for q first config endpoint) endpoint held.dialled)
    (record { line = held.opened; client = b.client; body = b.body }) (record { line = held.closed; client = now.client; body = now.body }) all
whole_talk q first s n b now member config endpoint fresh t all answer has held early reach grows noted same_config same_endpoint talks =
    let piece : first ≡ take (first_len q.head.plan q.balancer.ends) has.data'.bytes =
    subst (λ (o : Option Data). IfSome o (λ d. first ≡ take (first_len q.head.plan q.balancer.ends) d.bytes)) has.told early.piece in
    let plan_is : plan_of_note q has.data' has.config has.endpoint t ≡ plan_on (plan_for q first config endpoint) endpoint held.dialled =
    note_plan q first s n t all has b early member config endpoint held.dialled (ap (λ (x : Talk). x.dialled) noted) same_config same_endpoint in
    let left : data_at b.body ≡ Some (record { bytes = drop (first_len q.head.plan q.balancer.ends) has.data'.bytes; whole = has.data'.whole; bad = has.data'.bad }) =
    early.left ∙ ap (dropped (first_len q.head.plan q.balancer.ends)) has.told in
    record {
      reply = has.reply;
      more = has.more;
      comes =
          subst (λ (p : TalkPlan). Brings held.opened held.closed ((pong_of p ++ has.reply) ++ has.more)) plan_is
          (brings q.lb member endpoint (plan_for q first config endpoint) fresh b now answer held t has.before _ talks noted has.comes);
      is = subst (λ (p : TalkPlan). IsReply p all has.reply) plan_is has.is;
      unlisted = subst (λ (p : TalkPlan). IsUnlisted p all) plan_is has.unlisted;
      below = subst (λ (p : TalkPlan). length (pong_of p ++ has.reply) < 1099511627776) plan_is has.below;
      data' = record { bytes = drop (first_len q.head.plan q.balancer.ends) has.data'.bytes; whole = has.data'.whole; bad = has.data'.bad };
      told = left;
      whole = has.whole;
      limit = omega (
        arith,
        has.within,
        early.takes.most,
        early.takes.counted,
        ap (λ (bytes : List ℕ). length bytes) piece,
        length-take (first_len q.head.plan q.balancer.ends) has.data'.bytes,
        length-drop (first_len q.head.plan q.balancer.ends) has.data'.bytes,
      );
      line = λ rose. has.reach (rose_within _ held.opened.faults held.closed.faults _ (omega (arith, reach, held.faults_before)) (omega (arith, held.faults_after, grows.reach_faults)) rose);
      client = λ rose. has.client (rose_within _ b.client.faults now.client.faults _ (omega (arith, early.client_faults)) grows.client_faults rose);
    }

-- ---- what the first talk comes to

-- It brought the whole reply over this member's link.
pub record IsDoneFirst (q : Errand) (s n : Scene) (t : Talk) (all : List Message) (has : HasWhole q s n t all) (b now : Around) (member : ℕ) (gained : List Talk) (end : TalkEnd) : Type 0 where
  pub told : Told
  pub reuse : Bool
  pub moved : ℕ
  pub is_done : end ≡ ends.Done told reuse moved
  pub mine : member ≡ t.member
  pub later : has.later ≡ gained
  pub written : now.client.sent ≡ appended b.client.sent (bytes_for (plan_of_note q has.data' has.config has.endpoint t) all)

abbrev IsFirst : (q : Errand) (s n : Scene) (t : Talk) (all : List Message) → HasWhole q s n t all → (b now : Around) (member : ℕ) (gained : List Talk) → Result TalkEnd NoMemory → Type 0
IsFirst q s n t all has b now member gained (Ok end) = IsDoneFirst q s n t all has b now member gained end
IsFirst q s n t all has b now member gained (Err e) = Unit {0}

first_held : (q : Errand) (s n : Scene) (t : Talk) (all : List Message) (has : HasWhole q s n t all) (b now : Around) (member : ℕ) (gained : List Talk) (plan : TalkPlan) (opened closed : Moment)
    (answer : Result TalkEnd NoMemory) → member ≡ t.member → has.later ≡ gained → plan_of_note q has.data' has.config has.endpoint t ≡ plan
    → IsTalkCompleted plan (record { line = opened; client = b.client; body = b.body }) (record { line = closed; client = now.client; body = now.body }) all answer
    → IsFirst q s n t all has b now member gained answer
first_held q s n t all has b now member gained plan opened closed (Ok (ends.Done told reuse moved)) mine later same completed = record {
  told = told;
  reuse = reuse;
  moved = moved;
  is_done = refl;
  mine = mine;
  later = later;
  written = completed ∙ ap (λ (p : TalkPlan). appended b.client.sent (bytes_for p all)) (sym same);
}
first_held q s n t all has b now member gained plan opened closed (Ok (ends.Failed stage cause told moved)) mine later same completed = absurd completed
first_held q s n t all has b now member gained plan opened closed (Ok (ends.ClientGone truncated keep moved)) mine later same completed = absurd completed
first_held q s n t all has b now member gained plan opened closed (Ok (ends.BadBody status told passed moved)) mine later same completed = absurd completed
first_held q s n t all has b now member gained plan opened closed (Err e) mine later same completed = tt

first_talk : (q : Errand) (first : List ℕ) (s n : Scene) (t : Talk) (all : List Message) (has : HasWhole q s n t all) (b now : Around) (member : ℕ) (config : MemberConfig)
    (endpoint : Endpoint) (fresh : Bool) (answer : Result TalkEnd NoMemory) → slice_get q.balancer.book.members member ≡ Some config → slice_get q.balancer.ends member ≡ Some endpoint
    → IsEarly q first s.around b → s.around.faults ≤ b.faults → b.talks ≡ s.around.talks → (grows : Grows now n.around)
    → IsOneTalk q.lb member endpoint (plan_for q first config endpoint) fresh b now answer → IsFirst q s n t all has b now member grows.gained answer
first_talk q first s n t all has b now member config endpoint fresh answer configured reached early reach same grows (inl held) =
    let note = note_of q.lb member endpoint (plan_for q first config endpoint) fresh b now answer held in
    let noted : now.talks ≡ appended b.talks (note ∷ []) = held_noted q.lb member endpoint (plan_for q first config endpoint) fresh b now answer held in
    let both : (note ≡ t) × (grows.gained ≡ has.later) =
    same_first has.before grows.gained has.later note t b.talks (same ∙ has.talks_before)
    (sym (grows.talks ∙ ap (λ (o : Option (List Talk)). appended o grows.gained) noted) ∙ has.talks_after) in
    let mine : member ≡ t.member = ap (λ (x : Talk). x.member) both.0 in
    let same_config : has.config ≡ config = known _ _ _ _ _ mine has.configured configured in
    let same_endpoint : has.endpoint ≡ endpoint = known _ _ _ _ _ mine has.reached reached in
    let whole = whole_talk q first s n b now member config endpoint fresh t all answer has held early reach grows both.0 same_config same_endpoint (same ∙ has.talks_before) in
    first_held q s n t all has b now member grows.gained _ held.opened held.closed answer mine (sym both.1)
    (note_plan q first s n t all has b early member config endpoint held.dialled (ap (λ (x : Talk). x.dialled) both.0) same_config same_endpoint) (held.complete all whole)
first_talk q first s n t all has b now member config endpoint fresh answer configured reached early reach same grows (inr (inl linkless)) =
    absurd (has.reach (rose_within s.around.faults b.faults now.faults n.around.faults reach grows.reach_faults linkless.1.rose))
first_talk q first s n t all has b now member config endpoint fresh (Ok end) configured reached early reach same grows (inr (inr wanted)) =
    absurd (let is : Ok end ≡ Err wanted.0 = wanted.1 in cc)
first_talk q first s n t all has b now member config endpoint fresh (Err e) configured reached early reach same grows (inr (inr wanted)) = tt

-- a talk that fails can't be the first
no_failure : (q : Errand) (first : List ℕ) (s n : Scene) (t : Talk) (all : List Message) (has : HasWhole q s n t all) (b : Around)
    → IsEarly q first s.around b → s.around.faults ≤ b.faults → b.talks ≡ s.around.talks → FailsFirst q first b n.around → ⊥
no_failure q first s n t all has b early reach same fails =
    let old = fails.oldest in
    let done : IsDoneFirst q s n t all has b old.now old.member old.grows.gained fails.end =
    first_talk q first s n t all has b old.now old.member old.config old.endpoint old.fresh (Ok fails.end) old.configured old.reached early reach same old.grows old.talk in
    no_follow old.endpoint q.head fails.end done.told done.reuse done.moved done.is_done fails.may

-- ---- by the end

no_talk : (before later : List Talk) (t : Talk) (now then : Option (List Talk)) → now ≡ Some (before ++ t ∷ later) → then ≡ Some before → now ≡ then → ⊥
no_talk before later t now then after first same =
    let both : Some (before ++ t ∷ later) ≡ Some before = sym after ∙ same ∙ first in
    let lists : before ++ t ∷ later ≡ before = cc in
    omega (arith, ap (λ (ts : List Talk). length ts) lists, length-append before (t ∷ later))

-- The only round and its end.
abbrev IsRunOf : (q : Errand) (s n : Scene) (t : Talk) (all : List Message) → HasWhole q s n t all → (b m : Around) (member : ℕ) → Ran → Type 0
IsRunOf q s n t all has b m member ran_is.TooLarge = ⊥
IsRunOf q s n t all has b m member (ran_is.Wanted bytes) = Unit {0}
IsRunOf q s n t all has b m member (ran_is.Ended end bytes) = IsDoneFirst q s n t all has b m member [] end

abbrev no_more : (m n : Around) → n.talks ≡ m.talks → Grows m n → Grows m n
no_more m n same grows = record { gained = []; talks = same ∙ sym (appended_no_talk m.talks); reach_faults = grows.reach_faults; client_faults = grows.client_faults }

run_first : (q : Errand) (first : List ℕ) (s n : Scene) (t : Talk) (all : List Message) (has : HasWhole q s n t all) (b m : Around) (member : ℕ) (config : MemberConfig)
    (endpoint : Endpoint) (fresh : Bool) (ran : Ran) → slice_get q.balancer.book.members member ≡ Some config → slice_get q.balancer.ends member ≡ Some endpoint
    → IsEarly q first s.around b → s.around.faults ≤ b.faults → b.talks ≡ s.around.talks → n.around.talks ≡ m.talks → Grows m n.around
    → HasRun q first member config endpoint fresh b m ran → IsRunOf q s n t all has b m member ran
run_first q first s n t all has b m member config endpoint fresh ran_is.TooLarge configured reached early reach same rest grows (inl (fits, run)) = absurd run
run_first q first s n t all has b m member config endpoint fresh ran_is.TooLarge configured reached early reach same rest grows (inr (inl (is, unfit, none))) =
    no_talk has.before has.later t n.around.talks s.around.talks has.talks_after has.talks_before (rest ∙ ap (λ (x : Around). x.talks) none ∙ same)
run_first q first s n t all has b m member config endpoint fresh ran_is.TooLarge configured reached early reach same rest grows (inr (inr (is, none))) = absurd cc
run_first q first s n t all has b m member config endpoint fresh (ran_is.Wanted bytes) configured reached early reach same rest grows run = tt
run_first q first s n t all has b m member config endpoint fresh (ran_is.Ended end bytes) configured reached early reach same rest grows (inl (fits, ([], runs, told))) =
    first_talk q first s n t all has b m member config endpoint fresh (Ok end) configured reached early reach same (no_more m n.around rest grows)
    (subst (λ (x : Around). IsOneTalk q.lb member endpoint (plan_for q first config endpoint) fresh x m (Ok end)) runs.failed runs.final)
run_first q first s n t all has b m member config endpoint fresh (ran_is.Ended end bytes) configured reached early reach same rest grows (inl (fits, (other ∷ before, runs, told))) =
    absurd (no_failure q first s n t all has b early reach same
    (fails_first q first member config endpoint fresh b runs.mid n.around other before configured reached runs.failed
    (grows_twice runs.mid m n.around (one_grows q.lb member endpoint (plan_for q first config endpoint) _ runs.mid m (Ok end) runs.final) grows)))
run_first q first s n t all has b m member config endpoint fresh (ran_is.Ended end bytes) configured reached early reach same rest grows (inr (inl (is, unfit, none))) = absurd cc
run_first q first s n t all has b m member config endpoint fresh (ran_is.Ended end bytes) configured reached early reach same rest grows (inr (inr (is, none))) = absurd cc

-- a round that ended so is the only one
ended_first : (q : Errand) (first : List ℕ) (s n : Scene) (t : Talk) (all : List Message) (has : HasWhole q s n t all) (tried : ℕ) (fresh : Bool) (a m : Scene) (r : Round) (ran : Ran)
    → IsEarly q first s.around a.around → s.around.faults ≤ a.around.faults → a.around.talks ≡ s.around.talks → n.around.talks ≡ m.around.talks → Grows m.around n.around
    → IsRound q first tried fresh a m r None → r.ran ≡ ran → IsRunOf q s n t all has a.around m.around r.member ran
ended_first q first s n t all has tried fresh a m r ran early reach same rest grows round is =
    run_first q first s n t all has a.around m.around r.member r.config r.endpoint fresh ran round.configured round.reached early reach same rest grows
    (subst (λ (x : Ran). HasRun q first r.member r.config r.endpoint fresh a.around m.around x) is round.talked)

scene_grows : (m n : Scene) → n ≡ m → Grows m.around n.around
scene_grows m n same = same_grows m.around n.around (ap (λ (x : Scene). x.around) same)

own_grows : (m n : Scene) → n ≡ record m { around = record m.around { client = n.around.client } } → m.around.client.faults ≤ n.around.client.faults → Grows m.around n.around
own_grows m n rest no_fewer = record {
  gained = [];
  talks = ap (λ (x : Scene). x.around.talks) rest ∙ sym (appended_no_talk m.around.talks);
  reach_faults = omega (arith, ap (λ (x : Scene). x.around.faults) rest);
  client_faults = no_fewer;
}

-- no own answer is given
no_own : (q : Errand) (first : List ℕ) (s n : Scene) (t : Talk) (all : List Message) (has : HasWhole q s n t all) (past : List Round) (a m : Scene) (status : ℕ)
    → IsEarly q first s.around a.around → s.around.faults ≤ a.around.faults → a.around.talks ≡ s.around.talks → n.around.talks ≡ m.around.talks → Grows m.around n.around
    → IsOwnCause q first past a m status → ⊥
no_own q first s n t all has past a m status early reach same rest grows (inl none) =
    no_talk has.before has.later t n.around.talks s.around.talks has.talks_after has.talks_before (rest ∙ ap (λ (x : Around). x.talks) none.1.around ∙ same)
no_own q first s n t all has past a m status early reach same rest grows (inr (inl forced)) =
    no_talk has.before has.later t n.around.talks s.around.talks has.talks_after has.talks_before (rest ∙ ap (λ (x : Around). x.talks) forced.1.around ∙ same)
no_own q first s n t all has past a m status early reach same rest grows (inr (inr (inl full))) =
    no_talk has.before has.later t n.around.talks s.around.talks has.talks_after has.talks_before (rest ∙ ap (λ (x : Around). x.talks) full.1.around ∙ same)
no_own q first s n t all has past a m status early reach same rest grows (inr (inr (inr (r, round, inl (large, is))))) =
    ended_first q first s n t all has _ _ a m r ran_is.TooLarge early reach same rest grows round large
no_own q first s n t all has past a m status early reach same rest grows (inr (inr (inr (r, round, inr (inl (cause, given, is)))))) =
    let done = ended_first q first s n t all has _ _ a m r (ran_is.Ended _ given.ended.0) early reach same rest grows round given.ended.1 in
    let is : ends.Failed given.stage cause None given.moved ≡ ends.Done done.told done.reuse done.moved = done.is_done in
    cc
no_own q first s n t all has past a m status early reach same rest grows (inr (inr (inr (r, round, inr (inr bad))))) =
    let done = ended_first q first s n t all has _ _ a m r (ran_is.Ended _ bad.ended.0) early reach same rest grows round bad.ended.1 in
    let is : ends.BadBody status None bad.passed bad.moved ≡ ends.Done done.told done.reuse done.moved = done.is_done in
    cc

-- the faults that rose before an own answer was broken off
no_break : (q : Errand) (first : List ℕ) (s : Around) (past : List Round) (a m : Scene) (status : ℕ) → IsEarly q first s a.around → IsOwnCause q first past a m status
    → s.client.faults ≤ m.around.client.faults
no_break q first s past a m status early cause = silent_faults q first s past a m status early cause

completes_last : (q : Errand) (first : List ℕ) (s n : Scene) (t : Talk) (all : List Message) (has : HasWhole q s n t all) (past : List Round) (a m : Scene) (end : ExchangeEnd)
    → IsEarly q first s.around a.around → s.around.faults ≤ a.around.faults → a.around.talks ≡ s.around.talks → a.desk.strays ≡ s.desk.strays
    → EndsIn q first past a m n end → IsCompleted q s n t all has end
completes_last q first s n t all has past a m (exchange_end.Done member told) early reach same strays (r, round, is, reply, rest) =
    let done : IsDoneFirst q s n t all has a.around m.around r.member [] _ =
    ended_first q first s n t all has _ _ a m r (ran_is.Ended _ reply.ended.0) early reach same (ap (λ (x : Scene). x.around.talks) rest) (scene_grows m n rest) round reply.ended.1 in (
      sym is ∙ done.mine,
      done.later,
      ap (λ (x : Scene). x.around.client.sent) rest ∙ done.written ∙ ap (λ (o : Option (List ℕ)). appended o (bytes_for (plan_of_note q has.data' has.config has.endpoint t) all)) early.written,
    )
completes_last q first s n t all has past a m (exchange_end.Own status) early reach same strays (cause, writes) =
    no_own q first s n t all has past a m status early reach same (ap (λ (x : Scene). x.around.talks) writes.rest) (own_grows m n writes.rest (omega (arith, writes.steady))) cause
completes_last q first s n t all has past a m (exchange_end.Cut member told) early reach same strays (r, round, is, rest, inl (cause, given)) =
    let done = ended_first q first s n t all has _ _ a m r (ran_is.Ended _ given.ended.0) early reach same (ap (λ (x : Scene). x.around.talks) rest) (scene_grows m n rest) round given.ended.1 in
    let is : ends.Failed given.stage cause (Some told) given.moved ≡ ends.Done done.told done.reuse done.moved = done.is_done in
    cc
completes_last q first s n t all has past a m (exchange_end.Cut member told) early reach same strays (r, round, is, rest, inr (status, bad)) =
    let done = ended_first q first s n t all has _ _ a m r (ran_is.Ended _ bad.ended.0) early reach same (ap (λ (x : Scene). x.around.talks) rest) (scene_grows m n rest) round bad.ended.1 in
    let is : ends.BadBody status (Some told) bad.passed bad.moved ≡ ends.Done done.told done.reuse done.moved = done.is_done in
    cc
completes_last q first s n t all has past a m exchange_end.ClientFault early reach same strays (inl (r, round, gone, rest)) =
    let done = ended_first q first s n t all has _ _ a m r (ran_is.Ended _ gone.ended.0) early reach same (ap (λ (x : Scene). x.around.talks) rest) (scene_grows m n rest) round gone.ended.1 in
    let is : ends.ClientGone false gone.keep gone.moved ≡ ends.Done done.told done.reuse done.moved = done.is_done in
    cc
completes_last q first s n t all has past a m exchange_end.ClientFault early reach same strays (inr (status, cause, breaks, rose)) =
    has.client (rose_within s.around.client.faults m.around.client.faults n.around.client.faults n.around.client.faults
    (no_break q first s.around past a m status early cause) (omega arith) rose)
completes_last q first s n t all has past a m exchange_end.Truncated early reach same strays (r, round, gone, rest) =
    let done = ended_first q first s n t all has _ _ a m r (ran_is.Ended _ gone.ended.0) early reach same (ap (λ (x : Scene). x.around.talks) rest) (scene_grows m n rest) round gone.ended.1 in
    let is : ends.ClientGone true gone.keep gone.moved ≡ ends.Done done.told done.reuse done.moved = done.is_done in
    cc
completes_last q first s n t all has past a m (exchange_end.Stray ticket returned_at) early reach same strays (r, stray, round, is, at, rest) =
    has.strays (rose_within s.desk.strays round.desk.strays m.desk.strays n.desk.strays (omega (arith, round.chose.stray, strays))
    (omega (arith, ap (λ (x : Scene). x.desk.strays) rest)) (rose_by_one round.desk.strays m.desk.strays round.back.rose))
completes_last q first s n t all has past a m exchange_end.NoMemory early reach same strays ends_so = tt

-- how the talks and faults went on after the others
end_grows : (q : Errand) (first : List ℕ) (past : List Round) (a m n : Scene) (end : ExchangeEnd) → EndsIn q first past a m n end → Grows m.around n.around
end_grows q first past a m n (exchange_end.Done member told) (r, round, is, reply, rest) = scene_grows m n rest
end_grows q first past a m n (exchange_end.Own status) (cause, writes) = own_grows m n writes.rest (omega (arith, writes.steady))
end_grows q first past a m n (exchange_end.Cut member told) (r, round, is, rest, why) = scene_grows m n rest
end_grows q first past a m n exchange_end.ClientFault (inl (r, round, gone, rest)) = scene_grows m n rest
end_grows q first past a m n exchange_end.ClientFault (inr (status, cause, breaks, rose)) = own_grows m n breaks.rest breaks.no_fewer
end_grows q first past a m n exchange_end.Truncated (r, round, gone, rest) = scene_grows m n rest
end_grows q first past a m n (exchange_end.Stray ticket returned_at) (r, stray, round, is, at, rest) = scene_grows m n rest
end_grows q first past a m n exchange_end.NoMemory (inl (none, rest)) = scene_grows m n rest
end_grows q first past a m n exchange_end.NoMemory (inr (inl (r, bytes, round, is, rest))) = scene_grows m n rest
end_grows q first past a m n exchange_end.NoMemory (inr (inr (status, cause, wants))) = own_grows m n wants.rest (omega (arith, wants.steady))

unchosen_grows : (a m : Scene) → m.around ≡ a.around → Grows a.around m.around
unchosen_grows a m same = same_grows a.around m.around same

own_round_grows : (q : Errand) (first : List ℕ) (past : List Round) (a m : Scene) (status : ℕ) → IsOwnCause q first past a m status → Grows a.around m.around
own_round_grows q first past a m status (inl none) = unchosen_grows a m none.1.around
own_round_grows q first past a m status (inr (inl forced)) = unchosen_grows a m forced.1.around
own_round_grows q first past a m status (inr (inr (inl full))) = unchosen_grows a m full.1.around
own_round_grows q first past a m status (inr (inr (inr (r, round, why)))) = round_grows q first _ _ a m r None round

last_grows : (q : Errand) (first : List ℕ) (past : List Round) (a m n : Scene) (end : ExchangeEnd) → EndsIn q first past a m n end → Grows a.around m.around
last_grows q first past a m n (exchange_end.Done member told) (r, round, is, reply, rest) = round_grows q first _ _ a m r None round
last_grows q first past a m n (exchange_end.Own status) (cause, writes) = own_round_grows q first past a m status cause
last_grows q first past a m n (exchange_end.Cut member told) (r, round, is, rest, why) = round_grows q first _ _ a m r None round
last_grows q first past a m n exchange_end.ClientFault (inl (r, round, gone, rest)) = round_grows q first _ _ a m r None round
last_grows q first past a m n exchange_end.ClientFault (inr (status, cause, breaks, rose)) = own_round_grows q first past a m status cause
last_grows q first past a m n exchange_end.Truncated (r, round, gone, rest) = round_grows q first _ _ a m r None round
last_grows q first past a m n (exchange_end.Stray ticket returned_at) (r, stray, round, is, at, rest) = round_grows q first _ _ a m r (Some stray) round
last_grows q first past a m n exchange_end.NoMemory (inl (none, rest)) = unchosen_grows a m none.around
last_grows q first past a m n exchange_end.NoMemory (inr (inl (r, bytes, round, is, rest))) = round_grows q first _ _ a m r None round
last_grows q first past a m n exchange_end.NoMemory (inr (inr (status, cause, breaks))) = own_round_grows q first past a m status cause

-- nothing is completed by failing first
completes_rounds : (q : Errand) (first : List ℕ) (s n b : Scene) (t : Talk) (all : List Message) (has : HasWhole q s n t all) (past : List Round) (a m : Scene) (end : ExchangeEnd)
    → IsEarly q first s.around b.around → s.around.faults ≤ b.around.faults → b.around.talks ≡ s.around.talks → b.desk.strays ≡ s.desk.strays
    → HaveGoneOn q first b past a
    → EndsIn q first past a m n end → IsCompleted q s n t all has end
completes_rounds q first s n b t all has [] a m end early reach same strays gone_on ends_so =
    completes_last q first s n t all has [] b m end early reach same strays (subst (λ (x : Scene). EndsIn q first [] x m n end) gone_on ends_so)
completes_rounds q first s n b t all has (r ∷ past) a m end early reach same strays gone_on ends_so =
    absurd (no_failure q first s n t all has b.around early reach same (rounds_fail_first q first b r past a n.around gone_on
    (grows_twice a.around m.around n.around (last_grows q first (r ∷ past) a m n end ends_so) (end_grows q first (r ∷ past) a m n end ends_so))))

pub completes : (q : Errand) (s n : Scene) (end : ExchangeEnd) → IsExchange q s n end → Completes q s n end
completes q s n end (inl none) = λ t all has.
    absurd (no_talk has.before has.later t n.around.talks s.around.talks has.talks_after has.talks_before none.talks)
completes q s n end (inr rounds) = λ t all has.
    let start = scene_with s rounds.client rounds.body in
    completes_rounds q rounds.first s n start t all has rounds.through.past rounds.through.asked rounds.through.ruled end
    (starts_early q rounds.first s rounds.client rounds.body rounds.took rounds.unwritten rounds.steady) (omega arith) refl refl rounds.through.gone_on rounds.through.ends_in

-- ---- the talks that were noted

-- however an exchange ended
pub exchange_grows : (q : Errand) (s n : Scene) (end : ExchangeEnd) → IsExchange q s n end → (noted : List Talk) × (n.around.talks ≡ appended s.around.talks noted)
exchange_grows q s n end (inl none) = ([], none.talks ∙ sym (appended_no_talk s.around.talks))
exchange_grows q s n end (inr rounds) =
    let start = scene_with s rounds.client rounds.body in
    let all : Grows start.around n.around =
    grows_twice start.around rounds.through.asked.around n.around (rounds_grow q rounds.first start rounds.through.past rounds.through.asked rounds.through.gone_on)
    (grows_twice rounds.through.asked.around rounds.through.ruled.around n.around
    (last_grows q rounds.first rounds.through.past rounds.through.asked rounds.through.ruled n end rounds.through.ends_in)
    (end_grows q rounds.first rounds.through.past rounds.through.asked rounds.through.ruled n end rounds.through.ends_in)) in
    (all.gained, all.talks)
