-- A talk after which another one is allowed wrote nothing to the client, and took nothing of the body.
use Rattle.std.proofs.Common.{◌≡◌, ℕ, ◌+◌, ◌≤◌, Bool, true, false, not, ◌&&◌, nat_lt, List, [], ◌∷◌, ◌++◌, length, Option, Some, None, Ok, Err, refl, sym, ap, ◌∙◌, subst, inl, inr, arith}
use Rattle.std.proofs.lemmas.Bool.{ltb-false}
use Rattle.std.proofs.lemmas.List.{append-nil, length-append}
use Rattle.std.specs.Option.{option_map}
use Rattle.jk_io.specs.Told.{appended}
use Rattle.ajp_reply.specs.declared.message.ReplyParts.{ReplyParts}
use Rattle.ajp_reply.specs.Stream.{head_of}
use Rattle.jk_io.specs.Moments.{Moment}
use Rattle.ajp_talk.specs.Moments.{BodyAt, TakesOfBody, data_at}
use Rattle.ajp_talk.specs.Replies.{chunks_of, has_passed, head_out, kind_of, passed_of}
use Rattle.ajp_talk.specs.Talk.{HasFailed, HasNoPong, IsCalmEnd, IsTalk}
use Rattle.ajp_talk.specs.declared.ending.Cause.{Cause}
use Rattle.ajp_reply.specs.declared.stage.Stage.{Stage}
use Rattle.ajp_talk.specs.declared.ending.TalkEnd.{TalkEnd}
use Rattle.ajp_talk.specs.declared.ending.TalkEnd.TheVariants as ends
use Rattle.ajp_talk.specs.declared.ending.Told.{Told}
use Rattle.ajp_talk.specs.declared.plan.TalkPlan.{TalkPlan}
use Rattle.http_front.proofs.BodyLemmas.{Uses-nil, Uses-then}
use Rattle.http_front.specs.State.{failed_of, place_of, taken_of}
use Rattle.http_front.specs.declared.head.Head.{Head}
use Rattle.http_out.specs.ReplyBytes.{so_far}
use Rattle.http_out.specs.declared.framing.RequestKind.{RequestKind}
use Rattle.forwarding.specs.Recovery.{may_retry_of}
use Rattle.forwarding.specs.declared.method.MethodKind.{MethodKind}
use Rattle.site_config.specs.declared.endpoint.Endpoint.{Endpoint}
use Rattle.exchange.specs.Ends.{is_status, tries_again}
use Rattle.exchange.specs.OneTalk.{Around, IsOneTalk}
use Rattle.exchange.specs.Requests.{allows, method_of}
use Rattle.exchange.specs.Talks.{HaveFailed}

pub record IsUnmoved (s n : Around) : Type 0 where
  pub written : n.client.sent ≡ s.client.sent
  pub taken : taken_of n.body.body ≡ taken_of s.body.body
  pub going : failed_of s.body.body ≡ None → failed_of n.body.body ≡ None
  pub left : data_at n.body ≡ data_at s.body
  pub takes : failed_of s.body.body ≡ None → TakesOfBody s.body n.body []
  pub reach_faults : s.faults ≤ n.faults
  pub client_faults : n.client.faults ≡ s.client.faults

-- nothing happened
pub takes_none : (b : BodyAt) → failed_of b.body ≡ None → TakesOfBody b b []
takes_none b going = record { uses = Uses-nil b.unread (place_of b.body); counted = omega arith; going = going; most = refl }

same_takes : (s n : BodyAt) → n ≡ s → failed_of s.body ≡ None → TakesOfBody s n []
same_takes s n same going = subst (λ (x : BodyAt). TakesOfBody s x []) (sym same) (takes_none s going)

none_of_length : (bytes : List ℕ) → length bytes ≡ 0 → bytes ≡ []
none_of_length [] none = refl
none_of_length (b ∷ bytes) none = absurd (omega (arith, none))

takes_nothing : (s n : BodyAt) (taken : List ℕ) → TakesOfBody s n taken → taken_of n.body ≡ taken_of s.body → TakesOfBody s n []
takes_nothing s n taken takes same = subst (TakesOfBody s n) (none_of_length taken (omega (arith, takes.counted, same))) takes

pub takes_twice : (s m n : BodyAt) (first second : List ℕ) → TakesOfBody s m first → TakesOfBody m n second → TakesOfBody s n (first ++ second)
takes_twice s m n first second one two = record {
  uses = Uses-then s.unread m.unread n.unread (place_of s.body) (place_of m.body) (place_of n.body) first second one.uses two.uses;
  counted = omega (arith, one.counted, two.counted, length-append first second);
  going = two.going;
  most = two.most ∙ one.most;
}

pub appended_none : (told : Option (List ℕ)) → appended told [] ≡ told
appended_none None = refl
appended_none (Some bytes) = ap Some (append-nil bytes)

-- no byte was passed, so nothing is written so far
pub none_so_far : (kind : RequestKind) (parts : Option ReplyParts) (chunks : List (List ℕ)) → has_passed kind parts chunks ≡ false
    → so_far kind (option_map head_out parts) chunks ≡ []
none_so_far kind None chunks none = refl
none_so_far kind (Some parts) chunks none = rw none refl

-- neither was a byte passed nor was anything taken, where another try is allowed
pub allowed_early : (options : ℕ) (kind : MethodKind) (got headers passed beyond : Bool)
    → may_retry_of options kind (record { got = got; headers = headers; passed = passed; beyond = beyond }) ≡ true → (passed ≡ false) × (beyond ≡ false)
allowed_early options kind got headers false false allowed = (refl, refl)
allowed_early options kind got headers false true allowed = cc
allowed_early options kind got headers true beyond allowed = cc

behind_and : (a b : Bool) → (a && b) ≡ true → b ≡ true
behind_and true b both = both
behind_and false b both = cc

none_taken : (before now more : ℕ) → now ≡ before + more → nat_lt before now ≡ false → now ≡ before
none_taken before now more counted none = let below : now ≤ before = ltb-false before now none in omega (arith, counted, below)

failed_unmoved : (plan : TalkPlan) (s n : Around) (opened closed : Moment) → s.faults ≤ n.faults → n.client.faults ≡ s.client.faults → (stage : Stage) (cause : Cause) (told : Option Told) (bytes : ℕ)
    → HasFailed plan (record { line = opened; client = s.client; body = s.body }) (record { line = closed; client = n.client; body = n.body }) stage cause told bytes
    → stage.passed ≡ false → stage.beyond ≡ false → IsUnmoved s n
failed_unmoved plan s n opened closed reach client stage cause told bytes failed not_passed not_beyond =
    let passed : passed_of plan failed.past ≡ false = sym (ap (λ (x : Stage). x.passed) failed.stage_is) ∙ not_passed in
    let beyond : nat_lt (taken_of s.body.body) (taken_of n.body.body) ≡ false = sym (ap (λ (x : Stage). x.beyond) failed.stage_is) ∙ not_beyond in
    let same : taken_of n.body.body ≡ taken_of s.body.body = none_taken _ _ (length failed.taken) failed.takes.counted beyond in
    record {
      written = failed.written ∙ ap (λ (b : List ℕ). appended s.client.sent b) (none_so_far (kind_of plan) (head_of failed.past) (chunks_of failed.past) passed)
          ∙ appended_none s.client.sent;
      taken = same;
      going = λ _. failed.takes.going;
      left = failed.again same;
      takes = λ _. takes_nothing s.body n.body failed.taken failed.takes same;
      reach_faults = reach;
      client_faults = client;
    }

-- the talk failed, and another try is allowed after it
abbrev pub may_follow : Endpoint → Head → TalkEnd → Bool
may_follow endpoint head (ends.Done told reuse bytes) = false
may_follow endpoint head (ends.Failed stage cause told bytes) = allows endpoint head stage
may_follow endpoint head (ends.ClientGone truncated keep bytes) = false
may_follow endpoint head (ends.BadBody status told passed bytes) = false

pub again_follows : (endpoint : Endpoint) (head : Head) (end : TalkEnd) → tries_again endpoint head end ≡ true → may_follow endpoint head end ≡ true
again_follows endpoint head (ends.Done told reuse bytes) again = again
again_follows endpoint head (ends.Failed stage cause told bytes) again = behind_and (not (is_status cause)) (allows endpoint head stage) again
again_follows endpoint head (ends.ClientGone truncated keep bytes) again = again
again_follows endpoint head (ends.BadBody status told passed bytes) again = again

silent_unmoved : (plan : TalkPlan) (s n : Around) (opened closed : Moment) → s.faults ≤ n.faults → n.client.faults ≡ s.client.faults → (stage : Stage) (cause : Cause) (told : Option Told) (bytes : ℕ)
    → HasNoPong plan (record { line = opened; client = s.client; body = s.body }) (record { line = closed; client = n.client; body = n.body }) stage cause told bytes
    → IsUnmoved s n
silent_unmoved plan s n opened closed reach client stage cause told bytes silent = record {
  written = ap (λ (x : Moment). x.sent) silent.client;
  taken = ap (λ (x : BodyAt). taken_of x.body) silent.body;
  going = λ going. ap (λ (x : BodyAt). failed_of x.body) silent.body ∙ going;
  left = ap data_at silent.body;
  takes = same_takes s.body n.body silent.body;
  reach_faults = reach;
  client_faults = client;
}

held_unmoved : (endpoint : Endpoint) (head : Head) (plan : TalkPlan) (s n : Around) (opened closed : Moment) → s.faults ≤ n.faults → (end : TalkEnd) → (IsCalmEnd (Ok end) → n.client.faults ≡ s.client.faults)
    → IsTalk plan (record { line = opened; client = s.client; body = s.body }) (record { line = closed; client = n.client; body = n.body }) (Ok end)
    → may_follow endpoint head end ≡ true → IsUnmoved s n
held_unmoved endpoint head plan s n opened closed reach (ends.Done told reuse bytes) client talk again = cc
held_unmoved endpoint head plan s n opened closed reach (ends.ClientGone truncated keep bytes) client talk again = cc
held_unmoved endpoint head plan s n opened closed reach (ends.BadBody status told passed bytes) client talk again = cc
held_unmoved endpoint head plan s n opened closed reach (ends.Failed stage cause told bytes) client (inl failed) again =
    let early : (stage.passed ≡ false) × (stage.beyond ≡ false) =
    allowed_early endpoint.recovery (method_of head) stage.got stage.headers stage.passed stage.beyond again in
    failed_unmoved plan s n opened closed reach (client tt) stage cause told bytes failed early.0 early.1
held_unmoved endpoint head plan s n opened closed reach (ends.Failed stage cause told bytes) client (inr silent) again =
    silent_unmoved plan s n opened closed reach (client tt) stage cause told bytes silent

pub follow_unmoved : (lb member : ℕ) (endpoint : Endpoint) (head : Head) (plan : TalkPlan) (fresh : Bool) (s n : Around) (end : TalkEnd)
    → IsOneTalk lb member endpoint plan fresh s n (Ok end) → may_follow endpoint head end ≡ true → IsUnmoved s n
follow_unmoved lb member endpoint head plan fresh s n end (inl held) again =
    held_unmoved endpoint head _ s n held.opened held.closed (omega (arith, held.faults_before, held.faults_within, held.faults_after)) end held.calm held.talk again
follow_unmoved lb member endpoint head plan fresh s n end (inr (inl linkless)) again = record {
  written = ap (λ (x : Moment). x.sent) linkless.1.client;
  taken = ap (λ (x : BodyAt). taken_of x.body) linkless.1.body;
  going = λ going. ap (λ (x : BodyAt). failed_of x.body) linkless.1.body ∙ going;
  left = ap data_at linkless.1.body;
  takes = same_takes s.body n.body linkless.1.body;
  reach_faults = linkless.1.no_fewer;
  client_faults = ap (λ (x : Moment). x.faults) linkless.1.client;
}
follow_unmoved lb member endpoint head plan fresh s n end (inr (inr wanted)) again = absurd (let apart : Ok end ≡ Err wanted.0 = wanted.1 in cc)

pub unmoved : (lb member : ℕ) (endpoint : Endpoint) (head : Head) (plan : TalkPlan) (fresh : Bool) (s n : Around) (end : TalkEnd)
    → IsOneTalk lb member endpoint plan fresh s n (Ok end) → tries_again endpoint head end ≡ true → IsUnmoved s n
unmoved lb member endpoint head plan fresh s n end talk again =
    follow_unmoved lb member endpoint head plan fresh s n end talk (again_follows endpoint head end again)

pub unmoved_twice : (s m n : Around) → IsUnmoved s m → IsUnmoved m n → IsUnmoved s n
unmoved_twice s m n first second = record {
  written = second.written ∙ first.written;
  taken = second.taken ∙ first.taken;
  going = λ going. second.going (first.going going);
  left = second.left ∙ first.left;
  reach_faults = omega (arith, first.reach_faults, second.reach_faults);
  client_faults = second.client_faults ∙ first.client_faults;
  takes = λ going. takes_twice s.body m.body n.body [] [] (first.takes going) (second.takes (first.going going));
}

pub still : (s : Around) → IsUnmoved s s
still s = record { written = refl; taken = refl; going = λ going. going; left = refl; takes = takes_none s.body; reach_faults = omega arith; client_faults = refl }

pub all_unmoved : (lb member : ℕ) (endpoint : Endpoint) (head : Head) (plan : TalkPlan) (fresh : Bool) (s : Around) (past : List TalkEnd) (n : Around)
    → HaveFailed lb member endpoint head plan fresh s past n → IsUnmoved s n
all_unmoved lb member endpoint head plan fresh s [] n same =
    subst (λ (x : Around). IsUnmoved s x) (sym same) (still s)
all_unmoved lb member endpoint head plan fresh s (end ∷ past) n (mid, before, talk, again) =
    unmoved_twice s mid n (all_unmoved lb member endpoint head plan fresh s past mid before) (unmoved lb member endpoint head plan _ mid n end talk again)
