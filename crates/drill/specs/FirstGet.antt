-- A talk of which EndToEnd speaks, worked out by hand: a client asks for `/`, where the container has no application.
use Rattle.std.specs.Prelude.{◌≡◌, ℕ, Bool, true, false, List, [], ◌∷◌, codes, Some, None}
use Rattle.lb_model.specs.declared.ask.Terms.{Terms}
use Rattle.lb_model.specs.declared.member.MemberConfig.{MemberConfig}
use Rattle.http_front.specs.declared.head.BodyPlan.TheVariants as plan
use Rattle.http_front.specs.declared.head.Head.{Head}
use Rattle.http_front.specs.Body.{Data}
use Rattle.http_front.specs.State.{failed_of, place_of}
use Rattle.http_front.specs.declared.body.BodyIn.{BodyIn}
use Rattle.http_front.specs.declared.place.Place.TheVariants as at
use Rattle.site_config.specs.declared.balancer.Lb.{Lb}
use Rattle.site_config.specs.declared.endpoint.Endpoint.{Endpoint}
use Rattle.ajp_request.specs.declared.forward.Forward.{Forward}
use Rattle.ajp_talk.specs.Moments.{TalkMoment}
use Rattle.ajp_talk.specs.Replies.{is_listed}
use Rattle.exchange.specs.Requests.{Errand}
use Rattle.ajp_container.specs.declared.app_config.AppConfig.{AppConfig}
use Rattle.drill.specs.Meeting.{IsDoneWith}

-- the client's bytes
abbrev pub first_bytes : List ℕ
first_bytes = codes "GET / HTTP/1.1\r\nHost: localhost\r\n\r\n"

-- the head that they are
abbrev pub first_head : Head
first_head = record {
  method = codes "GET";
  target = codes "/";
  path = codes "/";
  query = None;
  clean = codes "/";
  old = false;
  headers = (codes "Host", codes "localhost") ∷ [];
  server = codes "localhost";
  port = 80;
  plan = plan.None;
  close = false;
  expect = false;
}

abbrev pub no_data : Data
no_data = record { bytes = []; whole = true; bad = false }

-- the request, from this machine, as a balancer is asked for it
abbrev pub first_errand : (session lb : ℕ) → Lb → Terms → Errand
first_errand session lb balancer terms = record {
  head = first_head;
  peer = codes "127.0.0.1";
  last = false;
  date = None;
  session = session;
  lb = lb;
  balancer = balancer;
  terms = terms;
}

-- A container and a member of the least packet, without secret, in a balancer of its own; the status 404 doesn't count as a
-- failure, and the request has no body.
pub record IsFirstGet (app : AppConfig) (balancer : Lb) (endpoint : Endpoint) (body : BodyIn) : Type 0 where
  pub app_packet : app.packet ≡ 8192
  pub app_secret : app.secret ≡ None
  pub direct : balancer.book.direct ≡ true
  pub packet : endpoint.packet ≡ 8192
  pub secret : endpoint.secret ≡ None
  pub unlisted : is_listed endpoint.fail_on 404 ≡ false
  pub no_body : place_of body ≡ at.Done
  pub going : failed_of body ≡ None

-- what the client gets
abbrev pub first_reply : List ℕ
first_reply = codes "HTTP/1.1 404 Status\r\nContent-Length: 15\r\n\r\nno application\n"

-- There is such a talk over a link that is newly dialled or not, on which these bytes had gone and come before, and its client
-- gets just this. Where the member asks for CPing, it goes before the request.
abbrev pub FirstGet : Type 0
FirstGet =
    (app : AppConfig) (balancer : Lb) (member : MemberConfig) (endpoint : Endpoint) (body : BodyIn) (session lb : ℕ) (terms : Terms)
    (dialled : Bool) (sent received answered : List ℕ)
    → IsFirstGet app balancer endpoint body
    → (f : Forward) × (s : TalkMoment) × (n : TalkMoment)
    × (talk : IsDoneWith app (first_errand session lb balancer terms) member endpoint no_data f s n)
    × (talk.dialled ≡ dialled) × (s.line.sent ≡ Some sent) × (s.line.received ≡ Some received) × (talk.before.sent ≡ Some answered)
    × (s.body.body ≡ body) × (n.client.sent ≡ Some first_reply)
