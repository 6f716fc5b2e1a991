-- How often a request is sent whole.
use Rattle.std.specs.Prelude.{◌≡◌, ℕ, ◌<◌, ◌≤◌, true, false, List, ◌++◌, length, take, slice_get, Some, IfSome}
use Rattle.std.specs.List.{All}
use Rattle.jk_io.specs.Told.{appended}
use Rattle.jk_io.specs.declared.reaching.Talk.{Talk}
use Rattle.lb_model.specs.declared.member.MemberConfig.{MemberConfig}
use Rattle.ajp_talk.specs.Moments.{data_at}
use Rattle.ajp_talk.specs.Owed.{opening}
use Rattle.forwarding.specs.FirstPiece.{first_len}
use Rattle.forwarding.specs.Recovery.{is_on}
use Rattle.forwarding.specs.declared.options.RecoveryOption.TheVariants.{NotOnceGot, AlwaysHead, AlwaysGet}
use Rattle.site_config.specs.declared.endpoint.Endpoint.{Endpoint}
use Rattle.exchange.specs.OneTalk.{Around, plan_on}
use Rattle.exchange.specs.Requests.{Errand, plan_for}
use Rattle.exchange.specs.Rounds.{Scene}
use Rattle.exchange.specs.declared.ending.ExchangeEnd.{ExchangeEnd}

-- no other try once the container got the request, whatever its method
pub record IsStrict (endpoint : Endpoint) : Type 0 where
  pub once : is_on endpoint.recovery NotOnceGot ≡ true
  pub no_head : is_on endpoint.recovery AlwaysHead ≡ false
  pub no_get : is_on endpoint.recovery AlwaysGet ≡ false

abbrev pub AreStrict : List Endpoint → Type 0
AreStrict ends = (m : ℕ) (endpoint : Endpoint) → slice_get ends m ≡ Some endpoint → IsStrict endpoint

-- The bytes sent in this talk are less than its ping, the Forward Request and the first piece.
abbrev pub IsPartial : Errand → (first : List ℕ) → Talk → Type 0
IsPartial q first t =
    (config : MemberConfig) (endpoint : Endpoint) → slice_get q.balancer.book.members t.member ≡ Some config
    → slice_get q.balancer.ends t.member ≡ Some endpoint
    → length t.sent < length (opening (plan_on (plan_for q first config endpoint) endpoint t.dialled))

-- The talks that the reach noted: all but one at most didn't hold the request whole.
pub record SendsOnce (q : Errand) (s n : Around) : Type 0 where
  pub first : List ℕ
  pub piece : IfSome (data_at s.body) (λ d. first ≡ take (first_len q.head.plan q.balancer.ends) d.bytes)
  pub partial : List Talk
  pub last : List Talk
  pub noted : n.talks ≡ appended s.talks (partial ++ last)
  pub partly : All (IsPartial q first) partial
  pub one : length last ≤ 1

abbrev pub IsWholeOnce : Errand → Around → Around → Type 0
IsWholeOnce q s n = AreStrict q.balancer.ends → SendsOnce q s n

-- however the exchange ended
abbrev pub GoesWholeOnce : Errand → Scene → Scene → ExchangeEnd → Type 0
GoesWholeOnce q s n end = IsWholeOnce q s.around n.around
