-- The visit that a session is of, and each of its requests: its worker, its new body, whether it is the last.
use Rattle.std.specs.Prelude.{ℕ, ◌+◌, ◌==◌, ◌&&◌, ◌||◌, ◌≡◌, Bool, true, false, not, List, [], Option, None, codes, if◌then◌else◌}
use Rattle.jk_io.specs.declared.traits.surroundings.Peer.{Peer}
use Rattle.http_front.specs.declared.head.BodyPlan.{BodyPlan}
use Rattle.http_front.specs.declared.head.BodyPlan.TheVariants as plan_is
use Rattle.http_front.specs.declared.head.Head.{Head}
use Rattle.http_front.specs.Places.{start_of}
use Rattle.http_out.specs.declared.framing.RequestKind.{RequestKind}
use Rattle.http_out.specs.declared.own_answers.OwnKind.{OwnKind}
use Rattle.httpdate.specs.declared.date.HttpDate.{HttpDate}
use Rattle.exchange.specs.Requests.{is_head}
use Rattle.http_front.specs.State.{failed_of, most_of, place_of, taken_of}
use Rattle.http_front.specs.declared.body.BodyIn.{BodyIn}
use Rattle.site_config.specs.declared.config.Config.{Config}
use Rattle.site_config.specs.declared.config.Named.{Named}
use Rattle.site_mounts.specs.Mounts.{mount}
use Rattle.site_mounts.specs.declared.rule.Rule.{Rule}
use Rattle.client_session.specs.declared.inquiry.Inquiry.{Inquiry}
use Rattle.client_session.specs.declared.session_site.SessionSite.{SessionSite}

-- The site, the number of the worker that serves, the client, whether answers tell their moment, and the moment that they tell.
pub record Visit : Type 0 where
  pub cfg : Config
  pub rules : List Rule
  pub session : ℕ
  pub peer : Peer
  pub dated : Bool
  pub date : Option HttpDate

-- one whose answers tell their moment
abbrev pub visit : Config → List Rule → (session : ℕ) → Peer → Visit
visit cfg rules session peer = record { cfg = cfg; rules = rules; session = session; peer = peer; dated = true; date = None }

-- the visit where no answer tells one
abbrev pub undated : Visit → Visit
undated v = record v { dated = false }

abbrev pub visit_of : SessionSite → Visit
visit_of site = record (visit site.cfg.now site.map.now site.session site.peer.now) { dated = site.dated }

-- the visit at another moment
abbrev pub visit_at : Visit → Option HttpDate → Visit
visit_at v date = record v { date = date }

abbrev pub visit_in : Inquiry → Visit
visit_in i = visit_at (visit_of i.site.now) i.date

-- what decides the bytes of a page and of an own answer
abbrev pub kind_at : Visit → Head → (last : Bool) → RequestKind
kind_at v head last = record { old = head.old; head_only = is_head head; last = last; date = v.date }

abbrev pub own_kind_at : Visit → Head → OwnKind
own_kind_at v head = record { head_only = is_head head; date = v.date }

-- and of the own answer to a refused head, which always has its body
abbrev pub refused_kind : Option HttpDate → OwnKind
refused_kind date = record { head_only = false; date = date }

-- No request follows it: it is of HTTP/1.0, or says so, or it is the 1,000th. The number is how many came before it.
abbrev pub is_last : (number : ℕ) → Head → Bool
is_last number head = head.old || (head.close || (number + 1 == 1000))

abbrev pub has_body : BodyPlan → Bool
has_body plan_is.None = false
has_body (plan_is.Exact len) = true
has_body plan_is.Chunked = true

-- the client of HTTP/1.1 waits for 100 Continue before it sends the body
abbrev pub awaits_continue : Head → Bool
awaits_continue head = head.expect && (not head.old && has_body head.plan)

-- what such a client is told once its request is known to be mounted
abbrev pub continue_for : Head → List ℕ
continue_for head = if awaits_continue head then codes "HTTP/1.1 100 Continue\r\n\r\n" else []

-- the worker at which the request's path is mounted
abbrev pub mounted_at : Visit → Head → Option Named
mounted_at v head = mount v.rules head.clean

-- a body of this plan of which nothing was taken
pub record IsNewBody (plan : BodyPlan) (body : BodyIn) : Type 0 where
  pub place : place_of body ≡ start_of plan
  pub most : most_of body ≡ 1099511627776
  pub taken : taken_of body ≡ 0
  pub going : failed_of body ≡ None
