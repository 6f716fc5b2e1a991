-- A talk of which EndToEnd speaks, with a body: a client posts five bytes to `/echo`.
use Rattle.std.specs.Prelude.{◌≡◌, ℕ, Bool, true, false, List, [], ◌∷◌, codes, Some, None}
use Rattle.lb_model.specs.declared.ask.Terms.{Terms}
use Rattle.lb_model.specs.declared.member.MemberConfig.{MemberConfig}
use Rattle.http_front.specs.declared.head.BodyPlan.TheVariants as plan
use Rattle.http_front.specs.declared.head.Head.{Head}
use Rattle.http_front.specs.Body.{Data}
use Rattle.http_front.specs.State.{failed_of, place_of}
use Rattle.http_front.specs.declared.body.BodyIn.{BodyIn}
use Rattle.http_front.specs.declared.place.Place.TheVariants as at
use Rattle.site_config.specs.declared.balancer.Lb.{Lb}
use Rattle.site_config.specs.declared.endpoint.Endpoint.{Endpoint}
use Rattle.ajp_request.specs.declared.forward.Forward.{Forward}
use Rattle.ajp_talk.specs.Moments.{TalkMoment}
use Rattle.ajp_talk.specs.Replies.{is_listed}
use Rattle.exchange.specs.Requests.{Errand}
use Rattle.ajp_container.specs.declared.app_config.AppConfig.{AppConfig}
use Rattle.drill.specs.Meeting.{IsDoneWith}

-- the client's bytes up to its body
abbrev pub post_bytes : List ℕ
post_bytes = codes "POST /echo HTTP/1.1\r\nHost: localhost\r\nContent-Length: 5\r\n\r\n"

-- the head that they are
abbrev pub post_head : Head
post_head = record {
  method = codes "POST";
  target = codes "/echo";
  path = codes "/echo";
  query = None;
  clean = codes "/echo";
  old = false;
  headers = (codes "Host", codes "localhost") ∷ (codes "Content-Length", codes "5") ∷ [];
  server = codes "localhost";
  port = 80;
  plan = plan.Exact 5;
  close = false;
  expect = false;
}

abbrev pub hello : List ℕ
hello = codes "hello"

abbrev pub hello_data : Data
hello_data = record { bytes = hello; whole = true; bad = false }

-- the request, from this machine, as a balancer is asked for it
abbrev pub post_errand : (session lb : ℕ) → Lb → Terms → Errand
post_errand session lb balancer terms = record {
  head = post_head;
  peer = codes "127.0.0.1";
  last = false;
  date = None;
  session = session;
  lb = lb;
  balancer = balancer;
  terms = terms;
}

-- A container and a member of the least packet, without secret, in a balancer of its own; the status 200 doesn't count as a
-- failure, and the whole body was taken as the first piece.
pub record IsFirstPost (app : AppConfig) (balancer : Lb) (endpoint : Endpoint) (body : BodyIn) : Type 0 where
  pub app_packet : app.packet ≡ 8192
  pub app_secret : app.secret ≡ None
  pub direct : balancer.book.direct ≡ true
  pub packet : endpoint.packet ≡ 8192
  pub secret : endpoint.secret ≡ None
  pub unlisted : is_listed endpoint.fail_on 200 ≡ false
  pub taken : place_of body ≡ at.Exact 0
  pub going : failed_of body ≡ None

-- what the client gets
abbrev pub post_reply : List ℕ
post_reply = codes "HTTP/1.1 200 OK\r\nContent-Length: 5\r\n\r\nhello"

-- There is such a talk over a link that is newly dialled or not, on which these bytes had gone and come before, and its client
-- gets its own bytes. Where the member asks for CPing, it goes before the request.
abbrev pub FirstPost : Type 0
FirstPost =
    (app : AppConfig) (balancer : Lb) (member : MemberConfig) (endpoint : Endpoint) (body : BodyIn) (session lb : ℕ) (terms : Terms)
    (dialled : Bool) (sent received answered : List ℕ)
    → IsFirstPost app balancer endpoint body
    → (f : Forward) × (s : TalkMoment) × (n : TalkMoment)
    × (talk : IsDoneWith app (post_errand session lb balancer terms) member endpoint hello_data f s n)
    × (talk.dialled ≡ dialled) × (s.line.sent ≡ Some sent) × (s.line.received ≡ Some received) × (talk.before.sent ≡ Some answered)
    × (s.body.body ≡ body) × (n.client.sent ≡ Some post_reply)
