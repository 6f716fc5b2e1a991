-- The talks of a round, one after another.
use Rattle.std.proofs.Common.{◌≡◌, ℕ, ◌+◌, ◌-◌, ◌<◌, min, Bool, true, List, [], ◌∷◌, length, None, Result, Ok, Err, refl, sym, ap, ◌∙◌, subst, inl, inr, arith}
use Rattle.jk_io.specs.declared.failures.NoMemory.{NoMemory}
use Rattle.ajp_talk.specs.Ends.{IsPlan}
use Rattle.ajp_talk.specs.declared.ending.TalkEnd.{TalkEnd}
use Rattle.ajp_talk.specs.declared.plan.TalkPlan.{TalkPlan}
use Rattle.http_front.specs.State.{failed_of, taken_of}
use Rattle.http_front.specs.declared.head.Head.{Head}
use Rattle.site_config.specs.declared.endpoint.Endpoint.{Endpoint}
use Rattle.exchange.specs.Ends.{bytes_of, told_bytes, tries_again}
use Rattle.exchange.specs.OneTalk.{Around, IsOneTalk, IsPlanOf}
use Rattle.exchange.specs.Talks.{HaveFailed, HaveTalked, is_fresh}
use Rattle.exchange.specs.declared.ending.Ran.TheVariants as ran_is
use Rattle.exchange.proofs.UnmovedLaws.{IsUnmoved, unmoved}

-- Talks failed, and another one is to follow.
pub record IsUnderWay (lb member : ℕ) (endpoint : Endpoint) (head : Head) (plan : TalkPlan) (fresh : Bool) (s n : Around)
    (plan_now : TalkPlan) (fresh_now : Bool) (bytes left : ℕ) : Type 0 where
  pub past : List TalkEnd
  pub failed : HaveFailed lb member endpoint head plan fresh s past n
  pub fresh_is : fresh_now ≡ is_fresh fresh past
  pub told : bytes ≡ told_bytes past
  pub count : left + length past ≡ endpoint.retries
  pub some : 0 < left
  pub same_plan : IsPlanOf plan plan_now
  pub taken : taken_of n.body.body ≡ length plan.first
  pub going : failed_of n.body.body ≡ None

pub still_plan : (plan other : TalkPlan) → IsPlanOf plan other → IsPlan plan → IsPlan other
still_plan plan other same is =
    subst IsPlan (sym same) (record { some_piece = is.some_piece; piece = is.piece; some_bytes = is.some_bytes; most = is.most; forward = is.forward; first = is.first })

pub same_twice : (plan other last : TalkPlan) → IsPlanOf plan other → IsPlanOf other last → IsPlanOf plan last
same_twice plan other last first second = second ∙ ap (λ (p : TalkPlan). record p { ping = last.ping; limits = record p.limits { pong = last.limits.pong } }) first

replanned : (lb member : ℕ) (endpoint : Endpoint) (plan : TalkPlan) (ping : Bool) (pong : ℕ) (fresh : Bool) (s n : Around) (answer : Result TalkEnd NoMemory)
    → IsOneTalk lb member endpoint (record plan { ping = ping; limits = record plan.limits { pong = pong } }) fresh s n answer → IsOneTalk lb member endpoint plan fresh s n answer
replanned lb member endpoint plan ping pong fresh s n answer (inl held) = inl (record {
  dialled = held.dialled;
  opened = held.opened;
  closed = held.closed;
  new_link = held.new_link;
  nothing_yet = held.nothing_yet;
  talk = held.talk;
  complete = held.complete;
  noted = held.noted;
  faults_before = held.faults_before;
  calm = held.calm;
  faults_within = held.faults_within;
  faults_after = held.faults_after;
  client_faults = held.client_faults;
})
replanned lb member endpoint plan ping pong fresh s n answer (inr rest) = inr rest

-- the talk by the plan of the round
pub of_round : (lb member : ℕ) (endpoint : Endpoint) (head : Head) (plan : TalkPlan) (fresh : Bool) (s n m : Around) (plan_now : TalkPlan) (fresh_now : Bool)
    (bytes left : ℕ) (answer : Result TalkEnd NoMemory) (way : IsUnderWay lb member endpoint head plan fresh s n plan_now fresh_now bytes left)
    → IsOneTalk lb member endpoint plan_now fresh_now n m answer → IsOneTalk lb member endpoint plan (is_fresh fresh way.past) n m answer
of_round lb member endpoint head plan fresh s n m plan_now fresh_now bytes left answer way talk =
    replanned lb member endpoint plan plan_now.ping plan_now.limits.pong _ n m answer
    (subst (λ (p : TalkPlan). IsOneTalk lb member endpoint p (is_fresh fresh way.past) n m answer) way.same_plan
    (subst (λ (f : Bool). IsOneTalk lb member endpoint plan_now f n m answer) way.fresh_is talk))

more_told : (past : List TalkEnd) (end : TalkEnd) (bytes now : ℕ) → bytes ≡ told_bytes past → now ≡ min (bytes + bytes_of end) 17592186044416
    → now ≡ told_bytes (end ∷ past)
more_told past end bytes now before is = omega (arith, before, is)

pub goes_on : (lb member : ℕ) (endpoint : Endpoint) (head : Head) (plan : TalkPlan) (fresh : Bool) (s n m : Around) (plan_now plan_next : TalkPlan) (fresh_now : Bool)
    (bytes bytes_next left : ℕ) (end : TalkEnd) → IsUnderWay lb member endpoint head plan fresh s n plan_now fresh_now bytes left
    → IsOneTalk lb member endpoint plan_now fresh_now n m (Ok end) → tries_again endpoint head end ≡ true
    → bytes_next ≡ min (bytes + bytes_of end) 17592186044416 → 1 < left → IsPlanOf plan_now plan_next
    → IsUnderWay lb member endpoint head plan fresh s m plan_next true bytes_next (left - 1)
goes_on lb member endpoint head plan fresh s n m plan_now plan_next fresh_now bytes bytes_next left end way talk again counted more same =
    let kept : IsUnmoved n m = unmoved lb member endpoint head plan_now fresh_now n m end talk again in
    record {
      past = end ∷ way.past;
      failed = (n, way.failed, of_round _ _ _ _ _ _ _ _ _ _ _ _ _ _ way talk, again);
      fresh_is = refl;
      told = more_told way.past end bytes bytes_next way.told counted;
      count = omega (arith, way.count, more);
      some = omega (arith, more);
      same_plan = same_twice plan plan_now plan_next way.same_plan same;
      taken = kept.taken ∙ way.taken;
      going = kept.going way.going;
    }

pub is_over : (lb member : ℕ) (endpoint : Endpoint) (head : Head) (plan : TalkPlan) (fresh : Bool) (s n m : Around) (plan_now : TalkPlan) (fresh_now : Bool)
    (bytes bytes_next left : ℕ) (end : TalkEnd) → IsUnderWay lb member endpoint head plan fresh s n plan_now fresh_now bytes left
    → IsOneTalk lb member endpoint plan_now fresh_now n m (Ok end) → (tries_again endpoint head end ≡ true → left ≡ 1)
    → bytes_next ≡ min (bytes + bytes_of end) 17592186044416
    → HaveTalked lb member endpoint head plan fresh s m (ran_is.Ended end bytes_next)
is_over lb member endpoint head plan fresh s n m plan_now fresh_now bytes bytes_next left end way talk last counted = (
  way.past,
  record {
    mid = n;
    failed = way.failed;
    final = of_round _ _ _ _ _ _ _ _ _ _ _ _ _ _ way talk;
    within = omega (arith, way.count, way.some);
    spent = λ again. let one : left ≡ 1 = last again in omega (arith, way.count, one);
  },
  more_told way.past end bytes bytes_next way.told counted,
)

pub is_wanted : (lb member : ℕ) (endpoint : Endpoint) (head : Head) (plan : TalkPlan) (fresh : Bool) (s n m : Around) (plan_now : TalkPlan) (fresh_now : Bool)
    (bytes left : ℕ) (e : NoMemory) → IsUnderWay lb member endpoint head plan fresh s n plan_now fresh_now bytes left
    → IsOneTalk lb member endpoint plan_now fresh_now n m (Err e)
    → HaveTalked lb member endpoint head plan fresh s m (ran_is.Wanted bytes)
is_wanted lb member endpoint head plan fresh s n m plan_now fresh_now bytes left e way talk = (
  way.past,
  e,
  record {
    mid = n;
    failed = way.failed;
    final = of_round _ _ _ _ _ _ _ _ _ _ _ _ _ _ way talk;
    within = omega (arith, way.count, way.some);
    spent = tt;
  },
  way.told,
)

-- ---- before the first talk, and after another

pub no_talk_yet : (lb member : ℕ) (endpoint : Endpoint) (head : Head) (plan : TalkPlan) (fresh : Bool) (s : Around) → taken_of s.body.body ≡ length plan.first
    → failed_of s.body.body ≡ None → IsUnderWay lb member endpoint head plan fresh s s plan fresh 0 endpoint.retries
no_talk_yet lb member endpoint head plan fresh s taken going = record {
  past = [];
  failed = refl;
  fresh_is = refl;
  told = refl;
  count = omega arith;
  some = omega (arith, endpoint.retries_above);
  same_plan = refl;
  taken = taken;
  going = going;
}

-- just the first piece of the plan as it stands was taken
pub first_taken : (lb member : ℕ) (endpoint : Endpoint) (head : Head) (plan : TalkPlan) (fresh : Bool) (s n : Around) (plan_now : TalkPlan) (fresh_now : Bool)
    (bytes left : ℕ) → IsUnderWay lb member endpoint head plan fresh s n plan_now fresh_now bytes left → taken_of n.body.body ≡ length plan_now.first
first_taken lb member endpoint head plan fresh s n plan_now fresh_now bytes left way =
    way.taken ∙ sym (ap (λ (p : TalkPlan). length p.first) way.same_plan)
