-- A request as a balancer is asked for it, and as a talk is planned for a member.
use Rattle.std.specs.Prelude.{ℕ, ◌≡◌, Bool, true, false, List, [], ◌∷◌, length, map, codes, bytes_eq, Option, None, Some, slice_get, if◌then◌else◌}
use Rattle.ajp_reply.specs.declared.stage.Stage.{Stage}
use Rattle.ajp_talk.specs.declared.plan.TalkPlan.{TalkPlan}
use Rattle.forwarding.specs.FirstPiece.{piece_for}
use Rattle.ajp_request.specs.declared.forward.Forward.{Forward}
use Rattle.forwarding.specs.Forwards.{forward_for, packet_for}
use Rattle.http_front.specs.declared.head.Head.{Head}
use Rattle.http_out.specs.declared.own_answers.OwnKind.{OwnKind}
use Rattle.httpdate.specs.declared.date.HttpDate.{HttpDate}
use Rattle.jk_io.specs.declared.traits.surroundings.Peer.{Peer}
use Rattle.lb_model.specs.declared.ask.Ask.{Ask}
use Rattle.lb_model.specs.declared.member.MemberConfig.{MemberConfig}
use Rattle.forwarding.specs.Recovery.{is_on, may_retry_of}
use Rattle.forwarding.specs.declared.method.MethodKind.{MethodKind}
use Rattle.forwarding.specs.declared.method.MethodKind.TheVariants as method
use Rattle.forwarding.specs.declared.options.RecoveryOption.TheVariants.{CloseWithClient}
use Rattle.site_config.specs.Limits.{reply_limit}
use Rattle.site_config.specs.declared.endpoint.Endpoint.{Endpoint}
use Rattle.forwarding.specs.Ids.{ids_of}
use Rattle.forwarding.specs.Routes.{routed_of}
use Rattle.lb_model.specs.declared.ask.Terms.{Terms}
use Rattle.site_config.specs.declared.balancer.Lb.{Lb}
use Rattle.exchange.specs.declared.request.Request.{Request}

-- The errand of an exchange: a client's request, and the balancer where it is mounted.
pub record Errand : Type 0 where
  pub head : Head
  pub peer : List ℕ
  pub last : Bool
  pub date : Option HttpDate
  pub session : ℕ
  pub lb : ℕ
  pub balancer : Lb
  pub terms : Terms

abbrev pub errand : Head → Peer → (last : Bool) → Option HttpDate → (session lb : ℕ) → Terms → Lb → Errand
errand head peer last date session lb terms balancer = record {
  head = head;
  peer = peer.addr;
  last = last;
  date = date;
  session = session;
  lb = lb;
  balancer = balancer;
  terms = terms;
}

abbrev pub errand_of : Request → Errand
errand_of q = errand q.head.now q.peer.now q.last q.date q.session q.lb q.terms q.balancer.now

-- P of the balancer at this place
abbrev pub AtPlace : List Lb → (lb : ℕ) → (Lb → Type 0) → Type 0
AtPlace lbs lb P = (balancer : Lb) → slice_get lbs lb ≡ Some balancer → P balancer

-- the numbers of members of these balancers
abbrev pub sizes_of : List Lb → List ℕ
sizes_of lbs = map (λ lb. length lb.book.members) lbs

abbrev pub is_get : Head → Bool
is_get head = bytes_eq head.method (codes "GET")

abbrev pub is_head : Head → Bool
is_head head = bytes_eq head.method (codes "HEAD")

-- what decides the bytes of an own answer to it
abbrev pub own_kind : Errand → OwnKind
own_kind q = record { head_only = is_head q.head; date = q.date }

-- its method, as far as a member's options speak of one
abbrev pub method_of : Head → MethodKind
method_of head = if is_head head then method.Head else (if is_get head then method.Get else method.Other)

-- the session ids of the request, by the balancer's cookie and path
abbrev pub ids_in : Errand → List (List ℕ)
ids_in q = ids_of q.head q.balancer.cookie q.balancer.path

-- the member that its session names, unless the mount ignores sessions
abbrev pub route_in : Errand → Option ℕ
route_in q = if q.terms.sticky_ignore then None else routed_of (ids_in q) q.balancer.book.members

abbrev pub is_none_there : List (List ℕ) → Bool
is_none_there [] = true
is_none_there (id ∷ ids) = false

-- The ask to the balancer, where these members were tried: the mount's terms go with it, and a request without a
-- session id is fresh.
abbrev pub ask_for : Errand → ℕ → Ask
ask_for q tried = record {
  routed = route_in q;
  fresh = is_none_there (ids_in q);
  tried = tried;
  disabled = q.terms.disabled;
  stopped = q.terms.stopped;
}

-- the Forward Request of the errand for a member
abbrev pub forward_to : Errand → MemberConfig → Endpoint → Forward
forward_to q member endpoint = forward_for q.head q.peer q.balancer.book.direct member endpoint

-- how a member's talk goes, where this piece of the body was taken before
abbrev pub plan_for : Errand → (first : List ℕ) → MemberConfig → Endpoint → TalkPlan
plan_for q first member endpoint = record {
  forward = packet_for q.head q.peer q.balancer.book.direct member endpoint;
  first = first;
  piece = piece_for endpoint;
  packet = endpoint.packet;
  ping = false;
  most = 1099511627776;
  old = q.head.old;
  head_only = is_head q.head;
  last = q.last;
  date = q.date;
  close_on_client = is_on endpoint.recovery CloseWithClient;
  fail_on = endpoint.fail_on;
  limits = record { pong = 0; reply = reply_limit q.terms.reply_timeout endpoint.limits };
}

-- the member's options allow another try after a talk that came so far
abbrev pub allows : Endpoint → Head → Stage → Bool
allows endpoint head stage = may_retry_of endpoint.recovery (method_of head) stage
