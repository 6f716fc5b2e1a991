-- A talk of which the law speaks: GET of a path where the container has no application.
use Rattle.std.proofs.Common.{◌≡◌, ℕ, zero, suc, ◌+◌, ◌^◌, ◌<◌, ◌≤◌, Bool, true, false, IsTrue, List, [], ◌∷◌, ◌++◌, length, reverse, slice_index, take, codes, Option, Some, None, Ok, All, refl, sym, ap, subst, ◌∙◌, arith, inl, append-nil, leb-true, length-append, ltb-true}
use Rattle.std.specs.Prelude.{IfSome, if◌then◌else◌}
use Rattle.std.proofs.lemmas.List.Sums.{AllPass-from_list_all}
use Rattle.std.proofs.lemmas.Str.{IsUtf8-from_ascii}
use Rattle.std.specs.Fmt.{digits}
use Rattle.percent_encoding.specs.Percent.{percent_decode}
use Rattle.httparse.specs.Grammar.{Field, IsField, IsRequestHead, RequestHead, crlf, is_token_byte, is_uri_byte, is_value_byte, print_request, ReadsRequest, trim_ows}
use Rattle.jk_io.specs.Moments.{Moment}
use Rattle.jk_io.specs.Talks.{IsNoteOf, talk_of}
use Rattle.jk_io.specs.declared.reaching.Begun.{Begun}
use Rattle.jk_io.specs.declared.reaching.Talk.{Talk}
use Rattle.lb_model.specs.declared.ask.Terms.{Terms}
use Rattle.lb_model.specs.declared.member.MemberConfig.{MemberConfig}
use Rattle.ajp_wire.specs.Packet.{FitsPacket, packet}
use Rattle.ajp_request.specs.Spelling.{SpellsForward}
use Rattle.ajp_request.specs.Writing.{FieldsFit, IsForward, as_read, payload_of}
use Rattle.ajp_request.specs.declared.forward.Forward.{Forward}
use Rattle.ajp_request.proofs.SpelledLaws.{written_spells}
use Rattle.ajp_reply.specs.Stream.{Spelled}
use Rattle.ajp_reply.specs.declared.message.Message.{Message}
use Rattle.ajp_reply.specs.declared.message.Message.TheVariants.{Headers, Chunk, End}
use Rattle.ajp_reply.specs.declared.message.ReplyParts.{ReplyParts}
use Rattle.ajp_talk.specs.Moments.{BodyAt, TalkMoment, data_at}
use Rattle.ajp_talk.specs.Owed.{opening, ping_of, pong_of}
use Rattle.ajp_talk.specs.Replies.{agrees, chunks_of, head_out, is_good, is_listed, kind_of, told_by, whole_of}
use Rattle.ajp_talk.specs.Talk.{IsDone}
use Rattle.ajp_talk.specs.declared.ending.TalkEnd.TheVariants as ends
use Rattle.ajp_talk.specs.declared.ending.Told.{Told}
use Rattle.ajp_talk.specs.declared.plan.TalkPlan.{TalkPlan}
use Rattle.ajp_talk.proofs.CompleteLaws.{completed}
use Rattle.exchange.specs.Clients.{HasLastTalk}
use Rattle.exchange.specs.OneTalk.{Around, begun_with}
use Rattle.exchange.specs.Requests.{Errand}
use Rattle.http_front.specs.Request.{IsHeadOf, judged}
use Rattle.http_front.specs.declared.head_lines.TheConstants.{MAX_HEAD_LINES}
use Rattle.http_front.specs.declared.inbox.TheConstants.{MAX_HEAD_BYTES}
use Rattle.http_front.specs.Cut.{header_lines}
use Rattle.http_front.specs.Body.{Data, dropped, ended_at}
use Rattle.http_front.specs.State.{failed_of, place_of}
use Rattle.http_front.specs.declared.body.BodyIn.{BodyIn}
use Rattle.http_front.specs.declared.place.Place.{Place}
use Rattle.http_front.proofs.BodyLemmas.{Uses-nil}
use Rattle.http_out.specs.Framing.{framing_of}
use Rattle.http_out.specs.ReplyBytes.{head_bytes}
use Rattle.http_out.specs.declared.framing.RequestKind.{RequestKind}
use Rattle.site_config.specs.declared.balancer.Lb.{Lb}
use Rattle.site_config.specs.declared.endpoint.Endpoint.{Endpoint}
use Rattle.ajp_container.specs.Answer.{bytes_of}
use Rattle.ajp_container.specs.Ends.{IsTalk, end_of}
use Rattle.ajp_container.specs.Request.{application_of}
use Rattle.ajp_container.specs.Turns.{Came, Idle, Ping, Request, Taken, ContainerTurn, Turns, is_over, owed, requests_in}
use Rattle.ajp_container.specs.declared.app_config.AppConfig.{AppConfig}
use Rattle.ajp_container.specs.declared.application.Application.TheVariants.{Unknown}
use Rattle.ajp_container.specs.declared.ends.Stopped.TheVariants.{Closed}
use Rattle.ajp_container.proofs.SentLaws.{owed-spelled}
use Rattle.drill.specs.FirstExchange.{FirstExchange}
use Rattle.drill.specs.FirstGet.{FirstGet, first_bytes, first_errand, first_head, first_reply, no_data}
use Rattle.drill.specs.Meeting.{IsDoneWith, IsExchangeWith, IsClientRequest, forward_to, front_of, plan_on}

-- ---- the head

all-one : {X : Type 0} (P : X → Type 0) (x : X) → P x → All P (x ∷ [])
all-one P x p zero d lt = p
all-one P x p (suc k) d lt = absurd (omega (arith, lt))

host_field : Field
host_field = record { name = codes "Host"; raw = codes " localhost"; end = crlf }

parsed : RequestHead
parsed = record {
  blank = [];
  method = codes "GET";
  target = codes "/";
  minor = 1;
  line_end = crlf;
  fields = host_field ∷ [];
  last = crlf;
}

host-is : IsField host_field
unfolding host_field is_token_byte
host-is = record {
  name = (ltb-true 0 4 refl, AllPass-from_list_all is_token_byte (codes "Host") refl);
  raw = AllPass-from_list_all is_value_byte (codes " localhost") refl;
}

slash-ascii : (i : ℕ) → slice_index (codes "/") i < 128
slash-ascii zero = ltb-true 47 128 refl
slash-ascii (suc i) = ltb-true 0 128 refl

head-is : IsRequestHead parsed
unfolding parsed is_token_byte
head-is = record {
  method = (ltb-true 0 3 refl, AllPass-from_list_all is_token_byte (codes "GET") refl);
  target = (ltb-true 0 1 refl, AllPass-from_list_all is_uri_byte (codes "/") refl);
  target_text = IsUtf8-from_ascii (codes "/") slash-ascii;
  minor = omega arith;
  fields = all-one IsField host_field host-is;
}

reads : ReadsRequest first_bytes parsed []
unfolding parsed host_field print_request
reads = (head-is, refl)

judged-is : judged parsed ≡ Ok first_head
unfolding parsed host_field trim_ows percent_decode
judged-is = refl

few-fields : length (parsed.fields) ≤ MAX_HEAD_LINES
unfolding parsed
few-fields = omega arith

is_head : IsHeadOf first_bytes first_head
is_head = record {
  blank = [];
  front = first_bytes;
  parsed = parsed;
  cut = record { whole = refl; empty = refl; begins = refl; ends = refl };
  within = leb-true (length first_bytes) MAX_HEAD_BYTES refl;
  few = leb-true (header_lines first_bytes) MAX_HEAD_LINES refl;
  reads = record { reads = reads; room = few-fields };
  is = judged-is;
}

request : IsClientRequest first_head no_data
request = record { used = first_bytes; behind = []; read = is_head; brings = refl }

-- ---- its Forward Request

abbrev sent_forward : Forward
sent_forward = record {
  method = codes "GET";
  protocol = codes "HTTP/1.1";
  uri = codes "/";
  remote_addr = codes "127.0.0.1";
  remote_host = codes "127.0.0.1";
  server = codes "localhost";
  port = 80;
  ssl = false;
  headers = (codes "Host", codes "localhost") ∷ [];
  attributes = [];
}

fields-fit : FieldsFit sent_forward
fields-fit = record {
  protocol = ltb-true 8 65535 refl;
  uri = ltb-true 1 65535 refl;
  remote_addr = ltb-true 9 65535 refl;
  remote_host = ltb-true 9 65535 refl;
  server = ltb-true 9 65535 refl;
  headers = (record { name = ltb-true 4 40960 refl; value = ltb-true 9 65535 refl }, tt);
  attributes = tt;
  method = tt;
}

packet-fits : FitsPacket 8192 (payload_of sent_forward)
unfolding payload_of
packet-fits = record { within = leb-true (length (payload_of sent_forward) + 4) 8192 refl; narrow = ltb-true (length (payload_of sent_forward)) 65536 refl }

forward-is : IsForward sent_forward
forward-is = record { port = ltb-true 80 65536 refl; few_headers = leb-true 1 100 refl; attributes = tt }

read_forward : Forward
read_forward = as_read sent_forward

spelled : SpellsForward (as_read sent_forward) (payload_of sent_forward)
spelled = written_spells sent_forward forward-is fields-fit

forwarded-is : (balancer : Lb) (member : MemberConfig) (endpoint : Endpoint) (session lb : ℕ) (terms : Terms) → balancer.book.direct ≡ true → endpoint.secret ≡ None
    → forward_to (first_errand session lb balancer terms) member endpoint ≡ sent_forward
forwarded-is balancer member endpoint session lb terms direct secret = rw (direct, secret) refl

-- ---- what the container sends

abbrev turn : ContainerTurn
turn = Request (as_read sent_forward) (Taken [] [])

abbrev parts : ReplyParts
parts = record { status = 404; message = codes "Status"; headers = (codes "Content-Length", codes "15") ∷ [] }

abbrev past : List Message
past = Chunk (codes "no application\n") ∷ Headers parts ∷ []

unknown-is : (app : AppConfig) → app.secret ≡ None → application_of app (as_read sent_forward) ≡ Unknown
unknown-is app open_to_all = rw open_to_all refl

owed-is : (app : AppConfig) → app.packet ≡ 8192 → app.secret ≡ None
    → owed app turn ≡ Headers parts ∷ Chunk (codes "no application\n") ∷ End true ∷ []
unfolding digits
owed-is app size open_to_all = rw (open_to_all, size) refl

answer-spelled : (app : AppConfig) → app.packet ≡ 8192 → app.secret ≡ None → Spelled 8192 (End true ∷ past) (bytes_of (owed app turn))
answer-spelled app size open_to_all =
    subst (λ (m : ℕ). Spelled m (End true ∷ past) (bytes_of (owed app turn))) size
    (subst (λ (l : List Message). Spelled app.packet l (bytes_of (owed app turn))) (ap reverse (owed-is app size open_to_all))
    (owed-spelled app turn (ltb-true 0 (2 ^ 64) refl)))

answer-short : (app : AppConfig) → app.packet ≡ 8192 → app.secret ≡ None → length (bytes_of (owed app turn)) < 8192
answer-short app size open_to_all =
    subst (λ (l : List Message). length (bytes_of l) < 8192) (sym (owed-is app size open_to_all))
    (ltb-true (length (bytes_of (Headers parts ∷ Chunk (codes "no application\n") ∷ End true ∷ []))) 8192 refl)

-- ---- the container's end

link : (incoming received sent : List ℕ) → Moment
link incoming received sent = record { incoming = Some incoming; received = Some received; sent = Some sent; faults = 0 }

-- CPing before the request, and the CPong for it
abbrev pub pings_for : Bool → List ContainerTurn
pings_for true = Ping ∷ []
pings_for false = []

abbrev pub ping_bytes : Bool → List ℕ
ping_bytes ping = if ping then packet false (10 ∷ []) else []

abbrev pub pong_bytes : Bool → List ℕ
pong_bytes ping = if ping then packet true (9 ∷ []) else []

pub pinged : (app : AppConfig) (ping : Bool) → Turns app (pings_for ping) (ping_bytes ping) (pong_bytes ping)
pinged app true = ([], packet false (10 ∷ []), [], (refl, refl), refl, refl, refl, sym (append-nil (packet true (9 ∷ []))))
pinged app false = (refl, refl)

pub no-request : (ping : Bool) → requests_in (pings_for ping) ≡ 0
no-request true = refl
no-request false = refl

pub short-pong : (ping : Bool) → length (pong_bytes ping) ≤ 5
short-pong true = leb-true (length (packet true (9 ∷ []))) 5 refl
short-pong false = omega arith

container : (app : AppConfig) (ping : Bool) (old : List ℕ) → app.packet ≡ 8192 → app.secret ≡ None
    → IsTalk app (link (ping_bytes ping ++ packet false (payload_of sent_forward)) [] old)
    (link [] (ping_bytes ping ++ packet false (payload_of sent_forward)) (old ++ (pong_bytes ping ++ bytes_of (owed app turn)))) (end_of 1 Closed)
unfolding link
container app ping old size open_to_all = record {
  past = turn ∷ pings_for ping;
  came = asked;
  sent = answered;
  turns = (ping_bytes ping, put, pong_bytes ping, pinged app ping, over, came, refl, refl);
  between = link [] asked (old ++ answered);
  goes = record { came = record { used = ap Some (sym (append-nil asked)); kept = refl }; sent = refl; steady = refl };
  stop = Closed;
  stops = record {
    turn = Idle;
    front = [];
    rest = [];
    came = refl;
    comes = record { used = refl; kept = ap Some (sym (append-nil asked)) };
    stops = inl (record { waits = refl; sent = ap Some (sym (append-nil (old ++ answered))); why = (refl, refl) });
  };
  end_is = ap (λ (n : ℕ). end_of (n + 1) Closed) (sym (no-request ping));
}
  where
    put : List ℕ
    put = packet false (payload_of sent_forward)

    asked : List ℕ
    asked = ping_bytes ping ++ put

    answered : List ℕ
    answered = pong_bytes ping ++ bytes_of (owed app turn)

    over : IsTrue (is_over app turn)
    over = rw open_to_all refl

    came : Came app turn put
    came = (
      put,
      [],
      record {
        payload = payload_of sent_forward;
        packet = record { whole = refl; fits = subst (λ (m : ℕ). FitsPacket m (payload_of sent_forward)) (sym size) packet-fits };
        spelled = spelled;
      },
      record { front = []; answers = []; begun = (refl, refl); answered = refl; asked = tt; whole = refl },
      sym (append-nil put),
    )

-- ---- the connector's end

abbrev kind : RequestKind
kind = record { old = false; head_only = false; last = false; date = None }

talk_moment : BodyIn → Moment → List ℕ → TalkMoment
talk_moment body line sent = record {
  line = line;
  client = record { incoming = Some []; received = Some first_bytes; sent = Some sent; faults = 0 };
  body = record { body = body; unread = Some [] };
}

good : is_good parts ≡ true
unfolding is_good
good = refl

reply-is : whole_of kind (Some (head_out parts)) (chunks_of past) ≡ first_reply
unfolding head_bytes digits
reply-is = refl

connector : (plan : TalkPlan) (body : BodyIn) (payload answer sent received : List ℕ) → plan.packet ≡ 8192 → plan.forward ≡ packet false payload
    → plan.first ≡ [] → plan.most ≡ 1099511627776 → kind_of plan ≡ kind → is_listed plan.fail_on 404 ≡ false → failed_of body ≡ None
    → Spelled 8192 (End true ∷ past) answer → length answer < 8192
    → IsDone plan (talk_moment body (link (pong_of plan ++ answer) received sent) [])
    (talk_moment body (link [] (received ++ (pong_of plan ++ answer)) (sent ++ (ping_of plan ++ packet false payload))) first_reply)
    (told_by (kind_of plan) parts (chunks_of past)) true (length (ping_of plan ++ packet false payload) + length (pong_of plan ++ answer))
unfolding link talk_moment
connector plan body payload answer sent received size forward first most kind_is unlisted going read short = record {
  past = past;
  came = answer;
  put = put;
  reply = record {
    spelled = subst (λ (m : ℕ). Spelled m (End true ∷ past) answer) (sym size) read;
    form = (refl, (refl, (refl, good, tt)));
    sum = subst (λ (k : RequestKind). agrees (framing_of k (head_out parts)) 15 ≡ true) (sym kind_is) refl;
  };
  unlisted = unlisted;
  traffic = record { came = record { used = ap Some (sym (append-nil (pong_of plan ++ answer))); kept = refl }; sent = refl };
  below =
      let pong : length (pong_of plan) ≤ 5 = short-pong plan.ping in
      omega (arith, most, short, pong, length-append (pong_of plan) answer);
  opened = record { rest = []; joined = sym (append-nil (opening plan) ∙ open_is) };
  sent = sym (append-nil (opening plan) ∙ open_is);
  steady = refl;
  written = ap Some (sym (ap (λ (k : RequestKind). whole_of k (Some (head_out parts)) (chunks_of past)) kind_is ∙ reply-is));
  told_is = refl;
  counted = refl;
  taken = [];
  takes = record { uses = Uses-nil (Some []) (place_of body); counted = omega arith; going = going; most = refl };
  left = refl;
}
  where
    put : List ℕ
    put = ping_of plan ++ packet false payload

    open_is : opening plan ≡ ping_of plan ++ packet false payload
    open_is = rw (forward, first) (ap (λ (b : List ℕ). ping_of plan ++ b) (append-nil (packet false payload)))

-- ---- the two of them

pub first_get : FirstGet
unfolding link talk_moment
first_get app balancer member endpoint body session lb terms dialled sent received answered is = (
  as_read sent_forward,
  talk_moment body (link (pong ++ answer) received sent) [],
  talk_moment body (link [] (received ++ (pong ++ answer)) (sent ++ (ping ++ put))) first_reply,
  talk,
  refl,
  refl,
  refl,
  refl,
  refl,
  refl,
)
  where
    put : List ℕ
    put = packet false (payload_of sent_forward)

    answer : List ℕ
    answer = bytes_of (owed app turn)

    plan : TalkPlan
    plan = plan_on (first_errand session lb balancer terms) [] member endpoint dialled

    ping : List ℕ
    ping = ping_of plan

    pong : List ℕ
    pong = pong_of plan

    same : forward_to (first_errand session lb balancer terms) member endpoint ≡ sent_forward
    same = forwarded-is balancer member endpoint session lb terms is.direct is.secret

    talk : IsDoneWith app (first_errand session lb balancer terms) member endpoint no_data (as_read sent_forward)
        (talk_moment body (link (pong ++ answer) received sent) [])
        (talk_moment body (link [] (received ++ (pong ++ answer)) (sent ++ (ping ++ put))) first_reply)
    talk = record {
      first = [];
      dialled = dialled;
      told = told_by (kind_of plan) parts (chunks_of past);
      reuse = true;
      bytes = length (ping ++ put) + length (pong ++ answer);
      before = link (ping ++ put) [] answered;
      after = link [] (ping ++ put) (answered ++ (pong ++ answer));
      end = end_of 1 Closed;
      size = is.packet ∙ sym is.app_packet;
      ready = record {
        request = request;
        fits = record {
          fields = subst FieldsFit (sym same) fields-fit;
          packet = subst (λ (m : ℕ). FitsPacket m (payload_of (forward_to (first_errand session lb balancer terms) member endpoint))) (sym is.packet)
              (subst (λ (g : Forward). FitsPacket 8192 (payload_of g)) (sym same) packet-fits);
        };
        first_is = refl;
        left = ap (λ (p : Place). Some (ended_at p)) is.no_body;
      };
      connector = connector plan body (payload_of sent_forward) answer sent received is.packet
          (ap (λ (g : Forward). packet false (payload_of g)) same) refl refl refl is.unlisted is.going (answer-spelled app is.app_packet is.app_secret)
          (answer-short app is.app_packet is.app_secret);
      container = container app plan.ping answered is.app_packet is.app_secret;
      meet = record {
        asked = ping ++ put;
        answered = pong ++ answer;
        sent_before = sent;
        received_before = received;
        answered_before = answered;
        had_sent = refl;
        had_received = refl;
        sent = refl;
        received = refl;
        to_come = refl;
        had_answered = refl;
        answers = refl;
      };
      spelled = subst (λ (g : Forward). SpellsForward (as_read sent_forward) (payload_of g)) (sym same) spelled;
      answered = rw is.app_secret refl;
    }

-- ---- an exchange

-- a note of which all is told is this one
note_is : (b : Begun) (sent received : List ℕ) (keep : Bool) (note : Talk) → IsNoteOf (Some b) (Some sent) (Some received) keep note → note ≡ talk_of b sent received keep
note_is b sent received keep note is =
    ap (λ (x : Begun). talk_of x note.sent note.received note.keep) (sym is.begun_with)
    ∙ ap (λ (x : List ℕ). talk_of b x note.received note.keep) (sym is.sent_in)
    ∙ ap (λ (x : List ℕ). talk_of b sent x note.keep) (sym is.received_in)
    ∙ ap (λ (x : Bool). talk_of b sent received x) (sym is.kept)

pub first_exchange : FirstExchange
unfolding link talk_moment
first_exchange app balancer m member endpoint body session lb terms dialled failed is configured reached =
    (as_read sent_forward, moment [] [], moment (failed ++ note ∷ []) first_reply, held, refl, refl, refl, refl)
  where
    q : Errand
    q = first_errand session lb balancer terms

    put : List ℕ
    put = packet false (payload_of sent_forward)

    answer : List ℕ
    answer = bytes_of (owed app turn)

    plan : TalkPlan
    plan = plan_on q [] member endpoint dialled

    ping : List ℕ
    ping = ping_of plan

    pong : List ℕ
    pong = pong_of plan

    opened : Moment
    opened = link (pong ++ answer) [] []

    closed : Moment
    closed = link [] (pong ++ answer) (ping ++ put)

    note : Talk
    note = talk_of (begun_with lb m endpoint dialled dialled opened) (ping ++ put) (pong ++ answer) true

    told : Told
    told = told_by (kind_of plan) parts (chunks_of past)

    moved : ℕ
    moved = length (ping ++ put) + length (pong ++ answer)

    own : BodyAt
    own = record { body = body; unread = Some [] }

    moment : List Talk → (sent : List ℕ) → Around
    moment talks sent = record {
      talks = Some talks;
      faults = 0;
      client = record { incoming = Some []; received = Some first_bytes; sent = Some sent; faults = 0 };
      body = own;
    }

    same : forward_to q member endpoint ≡ sent_forward
    same = forwarded-is balancer member endpoint session lb terms is.direct is.secret

    there : data_at own ≡ Some no_data
    there = ap (λ (p : Place). Some (ended_at p)) is.no_body

    done : IsDone plan (talk_moment body opened []) (talk_moment body closed first_reply) told true moved
    done = connector plan body (payload_of sent_forward) answer [] [] is.packet
        (ap (λ (g : Forward). packet false (payload_of g)) same) refl refl refl is.unlisted is.going (answer-spelled app is.app_packet is.app_secret)
        (answer-short app is.app_packet is.app_secret)

    last : HasLastTalk q m (moment [] []) (moment (failed ++ note ∷ []) first_reply) (ends.Done told true moved)
    last = record {
      config = member;
      endpoint = endpoint;
      configured = configured;
      reached = reached;
      first = [];
      fresh = dialled;
      begun = moment failed [];
      piece = subst (λ (o : Option Data). IfSome o (λ d. [] ≡ take (front_of q) d.bytes)) (sym there) refl;
      takes = record { uses = Uses-nil (Some []) (place_of body); counted = omega arith; going = is.going; most = refl };
      left = there ∙ ap (dropped (front_of q)) (sym there);
      unwritten = refl;
      others = failed;
      noted = refl;
      talk = record {
        dialled = dialled;
        opened = opened;
        closed = closed;
        new_link = λ new. new;
        nothing_yet = (refl, refl);
        talk = done;
        complete = λ all whole. completed plan (talk_moment body opened []) (talk_moment body closed first_reply) all whole (Ok (ends.Done told true moved)) done;
        noted = λ other is_note.
            ap (λ (t : Talk). Some (failed ++ t ∷ []))
            (sym (note_is (begun_with lb m endpoint dialled dialled opened) (ping ++ put) (pong ++ answer) true other is_note));
        faults_before = refl;
        faults_within = omega arith;
        faults_after = refl;
        client_faults = omega arith;
        calm = λ calm. refl;
      };
    }

    held : IsExchangeWith app q m no_data (as_read sent_forward) (moment [] []) (moment (failed ++ note ∷ []) first_reply)
    held = record {
      told = told;
      reuse = true;
      moved = moved;
      before = link (ping ++ put) [] [];
      after = link [] (ping ++ put) (pong ++ answer);
      end = end_of 1 Closed;
      last = last;
      request = request;
      there = there;
      size = is.packet ∙ sym is.app_packet;
      fits = record {
        fields = subst FieldsFit (sym same) fields-fit;
        packet = subst (λ (k : ℕ). FitsPacket k (payload_of (forward_to q member endpoint))) (sym is.packet)
            (subst (λ (g : Forward). FitsPacket 8192 (payload_of g)) (sym same) packet-fits);
      };
      container = container app plan.ping [] is.app_packet is.app_secret;
      meet = record {
        asked = ping ++ put;
        answered = pong ++ answer;
        sent_before = [];
        received_before = [];
        answered_before = [];
        had_sent = refl;
        had_received = refl;
        sent = refl;
        received = refl;
        to_come = refl;
        had_answered = refl;
        answers = refl;
      };
      spelled = subst (λ (g : Forward). SpellsForward (as_read sent_forward) (payload_of g)) (sym same) spelled;
      answered = rw is.app_secret refl;
    }
