-- The talks of one round: up to `retries` on the member, while each fails and its options allow another.
use Rattle.std.specs.Prelude.{◌≡◌, ℕ, ◌+◌, ◌<◌, ◌⊎◌, Bool, true, List, [], ◌∷◌, length, IfOk, Result, Ok, Err}
use Rattle.jk_io.specs.declared.failures.NoMemory.{NoMemory}
use Rattle.lb_model.specs.declared.member.MemberConfig.{MemberConfig}
use Rattle.ajp_request.specs.Writing.{FitsForward}
use Rattle.ajp_talk.specs.declared.ending.TalkEnd.{TalkEnd}
use Rattle.ajp_talk.specs.declared.plan.TalkPlan.{TalkPlan}
use Rattle.forwarding.specs.Forwards.{forward_for}
use Rattle.http_front.specs.declared.head.Head.{Head}
use Rattle.site_config.specs.declared.endpoint.Endpoint.{Endpoint}
use Rattle.exchange.specs.Ends.{tries_again, told_bytes}
use Rattle.exchange.specs.OneTalk.{Around, IsOneTalk}
use Rattle.exchange.specs.Requests.{Errand, plan_for}
use Rattle.exchange.specs.declared.ending.Ran.{Ran}
use Rattle.exchange.specs.declared.ending.Ran.TheVariants as ran_is

-- a talk after a failed one asks for a fresh link
abbrev pub is_fresh : Bool → List TalkEnd → Bool
is_fresh fresh [] = fresh
is_fresh fresh (end ∷ past) = true

-- These talks were held on the member, the newest first; each failed, and another was allowed.
abbrev pub HaveFailed : (lb member : ℕ) → Endpoint → Head → TalkPlan → (fresh : Bool) → Around → List TalkEnd → Around → Type 0
HaveFailed lb member endpoint head plan fresh s [] n = n ≡ s
HaveFailed lb member endpoint head plan fresh s (end ∷ past) n =
    (mid : Around) × HaveFailed lb member endpoint head plan fresh s past mid
    × IsOneTalk lb member endpoint plan (is_fresh fresh past) mid n (Ok end) × (tries_again endpoint head end ≡ true)

-- The talks of a round: those that another one followed, and the last. Another one was allowed and didn't follow only
-- where `retries` talks were held.
pub record HaveRun (lb member : ℕ) (endpoint : Endpoint) (head : Head) (plan : TalkPlan) (fresh : Bool) (s n : Around)
    (before : List TalkEnd) (last : Result TalkEnd NoMemory) : Type 0 where
  pub mid : Around
  pub failed : HaveFailed lb member endpoint head plan fresh s before mid
  pub final : IsOneTalk lb member endpoint plan (is_fresh fresh before) mid n last
  pub within : length before < endpoint.retries
  pub spent : IfOk last (λ end. tries_again endpoint head end ≡ true → length before + 1 ≡ endpoint.retries)

-- Where memory was wanted before or in a talk, the lease tells the talks before it alone.
abbrev pub HaveTalked : (lb member : ℕ) → Endpoint → Head → TalkPlan → (fresh : Bool) → Around → Around → Ran → Type 0
HaveTalked lb member endpoint head plan fresh s n ran_is.TooLarge = ⊥
HaveTalked lb member endpoint head plan fresh s n (ran_is.Wanted bytes) =
    (before : List TalkEnd) × (e : NoMemory) × HaveRun lb member endpoint head plan fresh s n before (Err e) × (bytes ≡ told_bytes before)
HaveTalked lb member endpoint head plan fresh s n (ran_is.Ended end bytes) =
    (before : List TalkEnd) × HaveRun lb member endpoint head plan fresh s n before (Ok end) × (bytes ≡ told_bytes (end ∷ before))

-- The packet of a member fits what it takes, and the talks were held; or it doesn't, and none was; or memory was wanted
-- before the first.
abbrev pub HasRun : Errand → (first : List ℕ) → (member : ℕ) → MemberConfig → Endpoint → (fresh : Bool) → Around → Around → Ran → Type 0
HasRun q first member config endpoint fresh s n ran =
    (FitsForward endpoint.packet (forward_for q.head q.peer q.balancer.book.direct config endpoint)
    × HaveTalked q.lb member endpoint q.head (plan_for q first config endpoint) fresh s n ran)
    ⊎ (((ran ≡ ran_is.TooLarge) × (FitsForward endpoint.packet (forward_for q.head q.peer q.balancer.book.direct config endpoint) → ⊥) × (n ≡ s))
    ⊎ ((ran ≡ ran_is.Wanted 0) × (n ≡ s)))
