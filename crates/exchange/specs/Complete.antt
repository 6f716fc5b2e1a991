-- An exchange to which nothing happens but that a member is chosen and its reply comes whole.
use Rattle.std.specs.Prelude.{◌≡◌, ℕ, ◌+◌, ◌<◌, ◌⊎◌, true, List, [], ◌∷◌, ◌++◌, length, take, slice_get, Some}
use Rattle.jk_io.specs.Told.{appended, Rose}
use Rattle.jk_io.specs.declared.reaching.Talk.{Talk}
use Rattle.lb_model.specs.declared.member.MemberConfig.{MemberConfig}
use Rattle.ajp_reply.specs.declared.message.Message.{Message}
use Rattle.ajp_talk.specs.Moments.{data_at}
use Rattle.ajp_talk.specs.Owed.{pong_of}
use Rattle.ajp_talk.specs.Replies.{IsReply, IsUnlisted, bytes_for}
use Rattle.ajp_talk.specs.declared.plan.TalkPlan.{TalkPlan}
use Rattle.forwarding.specs.FirstPiece.{first_len}
use Rattle.http_front.specs.Body.{Data}
use Rattle.http_front.specs.State.{taken_of, most_of}
use Rattle.site_config.specs.declared.endpoint.Endpoint.{Endpoint}
use Rattle.exchange.specs.OneTalk.{plan_on}
use Rattle.exchange.specs.Requests.{Errand, plan_for}
use Rattle.exchange.specs.Rounds.{Scene}
use Rattle.exchange.specs.declared.ending.ExchangeEnd.{ExchangeEnd}
use Rattle.exchange.specs.declared.ending.ExchangeEnd.TheVariants as exchange_end

-- the plan of a noted talk, where the request's body has this data
abbrev pub plan_of_note : Errand → Data → MemberConfig → Endpoint → Talk → TalkPlan
plan_of_note q data' config endpoint t =
    plan_on (plan_for q (take (first_len q.head.plan q.balancer.ends) data'.bytes) config endpoint) endpoint t.dialled

-- These bytes were to come on the link of a noted talk, where it told that; or it received just these.
abbrev pub BringsIn : Talk → List ℕ → Type 0
BringsIn t bytes = (t.came ≡ Some bytes) ⊎ (t.received ≡ bytes)

-- The first talk that the exchange noted is t, with this member's link. What the link brings begins with CPong, where the
-- talk pings, and this reply, whose status isn't listed, below the limit. The client's bytes have the body whole and below its
-- own limit. No fault rises, and no ticket is a stray.
pub record HasWhole (q : Errand) (s n : Scene) (t : Talk) (all : List Message) : Type 0 where
  pub before : List Talk
  pub later : List Talk
  pub talks_before : s.around.talks ≡ Some before
  pub talks_after : n.around.talks ≡ Some (before ++ t ∷ later)
  pub config : MemberConfig
  pub endpoint : Endpoint
  pub configured : slice_get q.balancer.book.members t.member ≡ Some config
  pub reached : slice_get q.balancer.ends t.member ≡ Some endpoint
  pub data' : Data
  pub told : data_at s.around.body ≡ Some data'
  pub whole : data'.whole ≡ true
  pub within : taken_of s.around.body.body + length data'.bytes < most_of s.around.body.body
  pub reply : List ℕ
  pub more : List ℕ
  pub comes : BringsIn t ((pong_of (plan_of_note q data' config endpoint t) ++ reply) ++ more)
  pub is : IsReply (plan_of_note q data' config endpoint t) all reply
  pub unlisted : IsUnlisted (plan_of_note q data' config endpoint t) all
  pub below : length (pong_of (plan_of_note q data' config endpoint t) ++ reply) < 1099511627776
  pub reach : Rose s.around.faults n.around.faults → ⊥
  pub client : Rose s.around.client.faults n.around.client.faults → ⊥
  pub strays : Rose s.desk.strays n.desk.strays → ⊥

-- It was the only talk, and the client has the reply whole; or memory was wanted.
abbrev pub IsCompleted : (q : Errand) (s n : Scene) (t : Talk) (all : List Message) → HasWhole q s n t all → ExchangeEnd → Type 0
IsCompleted q s n t all has (exchange_end.Done member told) =
    (member ≡ t.member) × (has.later ≡ [])
    × (n.around.client.sent ≡ appended s.around.client.sent (bytes_for (plan_of_note q has.data' has.config has.endpoint t) all))
IsCompleted q s n t all has (exchange_end.Own status) = ⊥
IsCompleted q s n t all has (exchange_end.Cut member told) = ⊥
IsCompleted q s n t all has exchange_end.ClientFault = ⊥
IsCompleted q s n t all has exchange_end.Truncated = ⊥
IsCompleted q s n t all has (exchange_end.Stray ticket returned_at) = ⊥
IsCompleted q s n t all has exchange_end.NoMemory = Unit {0}

abbrev pub Completes : Errand → Scene → Scene → ExchangeEnd → Type 0
Completes q s n end = (t : Talk) (all : List Message) → (has : HasWhole q s n t all) → IsCompleted q s n t all has end
