-- A talk whose other end is the container. Connector and container meet in bytes alone: what each of them says of its end
-- stands in its own definitions, and here stands what the two ends have to do with one another. Read this first.
use Rattle.std.specs.Prelude.{◌≡◌, ℕ, Bool, not, IsTrue, List, ◌++◌, reverse, take, Some}
use Rattle.std.specs.Option.{option_map}
use Rattle.jk_io.specs.Moments.{Moment}
use Rattle.jk_io.specs.Told.{appended}
use Rattle.lb_model.specs.declared.member.MemberConfig.{MemberConfig}
use Rattle.http_front.specs.Request.{IsHeadOf}
use Rattle.http_front.specs.declared.head.Head.{Head}
use Rattle.http_front.specs.Body.{Data, data_from, dropped}
use Rattle.http_front.specs.Places.{start_of}
use Rattle.http_out.specs.declared.framing.RequestKind.{RequestKind}
use Rattle.site_config.specs.declared.endpoint.Endpoint.{Endpoint}
use Rattle.ajp_request.specs.Spelling.{SpellsForward}
use Rattle.ajp_request.specs.Writing.{FitsForward, payload_of}
use Rattle.ajp_request.specs.declared.forward.Forward.{Forward}
use Rattle.ajp_reply.specs.Stream.{head_of}
use Rattle.ajp_reply.specs.declared.message.Message.{Message}
use Rattle.ajp_talk.specs.Moments.{BodyAt, TalkMoment, data_at}
use Rattle.ajp_talk.specs.Replies.{chunks_of, head_out, whole_of}
use Rattle.ajp_talk.specs.Talk.{IsDone}
use Rattle.ajp_talk.specs.declared.ending.TalkEnd.TheVariants as ends
use Rattle.ajp_talk.specs.declared.ending.Told.{Told}
use Rattle.ajp_talk.specs.declared.plan.TalkPlan.{TalkPlan}
use Rattle.forwarding.specs.FirstPiece.{first_len}
use Rattle.forwarding.specs.Forwards.{forward_for}
use Rattle.exchange.specs.Clients.{HasLastTalk}
use Rattle.exchange.specs.OneTalk.{Around, plan_on as on_link}
use Rattle.exchange.specs.Requests.{Errand, is_head, plan_for}
use Rattle.ajp_container.specs.Answer.{answer_of}
use Rattle.ajp_container.specs.Applications.{drops}
use Rattle.ajp_container.specs.Ends.{Goes, IsTalk, end_of}
use Rattle.ajp_container.specs.Request.{application_of}
use Rattle.ajp_container.specs.Turns.{ContainerTurn, Turns, requests_in}
use Rattle.ajp_container.specs.declared.ends.Stopped.{Stopped}
use Rattle.ajp_container.specs.declared.app_config.AppConfig.{AppConfig}
use Rattle.ajp_container.specs.declared.ends.ContainerEnd.{ContainerEnd}

-- A client's request: its head was read, and its own data are those that the bytes after the head bring.
pub record IsClientRequest (head : Head) (own : Data) : Type 0 where
  pub used : List ℕ
  pub behind : List ℕ
  pub read : IsHeadOf used head
  pub brings : own ≡ data_from behind (start_of head.plan)

-- the Forward Request of a request for a member
abbrev pub forward_to : Errand → MemberConfig → Endpoint → Forward
forward_to q member endpoint = forward_for q.head q.peer q.balancer.book.direct member endpoint

-- how much of its data is sent right after the Forward Request
abbrev pub front_of : Errand → ℕ
front_of q = first_len q.head.plan q.balancer.ends

-- A request before a talk: it fits the member's packet, and just the first piece of its data was taken. So it is before
-- each talk of an exchange: a request that doesn't fit has none, and after a talk that took more there is no other.
pub record IsReadyForTalk (q : Errand) (member : MemberConfig) (endpoint : Endpoint) (own : Data) (first : List ℕ) (b : BodyAt) : Type 0 where
  pub request : IsClientRequest q.head own
  pub fits : FitsForward endpoint.packet (forward_to q member endpoint)
  pub first_is : first ≡ take (front_of q) own.bytes
  pub left : data_at b ≡ dropped (front_of q) (Some own)

-- how its talk goes, over a link that is newly dialled or not
abbrev pub plan_on : Errand → (first : List ℕ) → MemberConfig → Endpoint → (dialled : Bool) → TalkPlan
plan_on q first member endpoint dialled = on_link (plan_for q first member endpoint) endpoint dialled

-- The two ends of a link, whatever had come and gone on it before: what the connector sent is what the container had to come,
-- and what the container sent is what the connector received.
pub record Meet (s n : Moment) (before after : Moment) : Type 0 where
  pub asked : List ℕ
  pub answered : List ℕ
  pub sent_before : List ℕ
  pub received_before : List ℕ
  pub answered_before : List ℕ
  pub had_sent : s.sent ≡ Some sent_before
  pub had_received : s.received ≡ Some received_before
  pub sent : n.sent ≡ Some (sent_before ++ asked)
  pub received : n.received ≡ Some (received_before ++ answered)
  pub to_come : before.incoming ≡ Some asked
  pub had_answered : before.sent ≡ Some answered_before
  pub answers : after.sent ≡ Some (answered_before ++ answered)

-- A done talk of a request with a member that has the container's packet size, and the container at the other end, whatever
-- its end, from where it stood between two turns. It reads the Forward Request as f, which isn't for `/drop`.
pub record IsDoneWith (app : AppConfig) (q : Errand) (member : MemberConfig) (endpoint : Endpoint) (own : Data) (f : Forward) (s n : TalkMoment) : Type 0 where
  pub first : List ℕ
  pub dialled : Bool
  pub told : Told
  pub reuse : Bool
  pub bytes : ℕ
  pub before : Moment
  pub after : Moment
  pub end : ContainerEnd
  pub size : endpoint.packet ≡ app.packet
  pub ready : IsReadyForTalk q member endpoint own first s.body
  pub connector : IsDone (plan_on q first member endpoint dialled) s n told reuse bytes
  pub container : IsTalk app before after end
  pub meet : Meet s.line n.line before after
  pub spelled : SpellsForward f (payload_of (forward_to q member endpoint))
  pub answered : IsTrue (not (drops (application_of app f)))

abbrev pub kind_for : Errand → RequestKind
kind_for q = record { old = q.head.old; head_only = is_head q.head; last = q.last; date = q.date }

-- the client's bytes for a whole list of a container's messages, the oldest first
abbrev pub reply_for : Errand → List Message → List ℕ
reply_for q messages = whole_of (kind_for q) (option_map head_out (head_of (reverse messages))) (chunks_of (reverse messages))

-- End to end: the client has the reply that the application's answer to its request is, with the request's own data.
abbrev pub EndToEnd : Type 0
EndToEnd =
    (app : AppConfig) (q : Errand) (member : MemberConfig) (endpoint : Endpoint) (own : Data) (f : Forward) (s n : TalkMoment)
    → IsDoneWith app q member endpoint own f s n
    → n.client.sent ≡ appended s.client.sent (reply_for q (answer_of app f own.bytes))

-- An exchange that ended with a whole reply, and the container at the other end of its last talk. The request's own data
-- are those that were there when the exchange began.
pub record IsExchangeWith (app : AppConfig) (q : Errand) (member : ℕ) (own : Data) (f : Forward) (s n : Around) : Type 0 where
  pub told : Told
  pub reuse : Bool
  pub moved : ℕ
  pub before : Moment
  pub after : Moment
  pub end : ContainerEnd
  pub last : HasLastTalk q member s n (ends.Done told reuse moved)
  pub request : IsClientRequest q.head own
  pub there : data_at s.body ≡ Some own
  pub size : last.endpoint.packet ≡ app.packet
  pub fits : FitsForward last.endpoint.packet (forward_to q last.config last.endpoint)
  pub container : IsTalk app before after end
  pub meet : Meet last.talk.opened last.talk.closed before after
  pub spelled : SpellsForward f (payload_of (forward_to q last.config last.endpoint))
  pub answered : IsTrue (not (drops (application_of app f)))

-- The same of an exchange, whatever talks failed before the last.
abbrev pub EndToEndOfExchange : Type 0
EndToEndOfExchange =
    (app : AppConfig) (q : Errand) (member : ℕ) (own : Data) (f : Forward) (s n : Around) → IsExchangeWith app q member own f s n
    → n.client.sent ≡ appended s.client.sent (reply_for q (answer_of app f own.bytes))

-- A container's talk from where it stood once the earlier of its turns were over: what came and was sent until then, and the
-- talk that it is from there on, with the later ones.
pub record GoesOnAfter (app : AppConfig) (earlier later : List ContainerTurn) (start after : Moment) (stop : Stopped) : Type 0 where
  pub came : List ℕ
  pub sent : List ℕ
  pub turns : Turns app earlier came sent
  pub mid : Moment
  pub goes : Goes start mid came sent
  pub talk : IsTalk app mid after (end_of (requests_in later) stop)

-- A container that has answered any number of requests on a link serves the next one as if the link were new: each of its
-- talks is one from each of its turns on.
abbrev pub GoesOnAsNew : Type 0
GoesOnAsNew =
    (app : AppConfig) (start after : Moment) (end : ContainerEnd) (talk : IsTalk app start after end) (earlier later : List ContainerTurn)
    → talk.past ≡ later ++ earlier → GoesOnAfter app earlier later start after talk.stop
