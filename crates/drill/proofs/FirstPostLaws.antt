-- A talk of which the law speaks, with a body: POST of five bytes to the application that sends them back.
use Rattle.std.proofs.Common.{◌≡◌, ℕ, zero, suc, ◌+◌, ◌-◌, ◌^◌, ◌<◌, ◌≤◌, Bool, true, false, IsTrue, List, [], ◌∷◌, ◌++◌, length, reverse, take, slice_index, codes, Some, None, Ok, All, refl, sym, ap, subst, ◌∙◌, arith, inl, append-nil, leb-true, length-append, ltb-true}
use Rattle.std.proofs.lemmas.List.Sums.{AllPass-from_list_all}
use Rattle.std.proofs.lemmas.Str.{IsUtf8-from_ascii}
use Rattle.std.specs.Fmt.{digits}
use Rattle.percent_encoding.specs.Percent.{percent_decode}
use Rattle.httparse.specs.Grammar.{Field, IsField, IsRequestHead, RequestHead, crlf, is_token_byte, is_uri_byte, is_value_byte, print_request, ReadsRequest, trim_ows}
use Rattle.jk_io.specs.Moments.{Moment}
use Rattle.lb_model.specs.declared.ask.Terms.{Terms}
use Rattle.lb_model.specs.declared.member.MemberConfig.{MemberConfig}
use Rattle.ajp_wire.specs.Packet.{FitsPacket, body_packet, body_payload, packet}
use Rattle.ajp_request.specs.Spelling.{SpellsForward}
use Rattle.ajp_request.specs.Writing.{FieldsFit, IsForward, as_read, payload_of}
use Rattle.ajp_request.specs.declared.forward.Forward.{Forward}
use Rattle.ajp_request.proofs.SpelledLaws.{written_spells}
use Rattle.ajp_reply.specs.Stream.{Spelled}
use Rattle.ajp_reply.specs.declared.message.Message.{Message}
use Rattle.ajp_reply.specs.declared.message.Message.TheVariants.{Headers, Chunk, End}
use Rattle.ajp_reply.specs.declared.message.ReplyParts.{ReplyParts}
use Rattle.ajp_talk.specs.Moments.{TalkMoment}
use Rattle.ajp_talk.specs.Owed.{opening, ping_of, pong_of}
use Rattle.ajp_talk.specs.Replies.{agrees, chunks_of, head_out, is_good, is_listed, kind_of, told_by, whole_of}
use Rattle.ajp_talk.specs.Talk.{IsDone}
use Rattle.ajp_talk.specs.declared.plan.TalkPlan.{TalkPlan}
use Rattle.forwarding.specs.FirstPiece.{first_len, piece_for}
use Rattle.forwarding.proofs.FirstPieceLaws.{nothing_greater, within_length}
use Rattle.http_front.specs.Request.{IsHeadOf, judged}
use Rattle.http_front.specs.declared.head.BodyPlan.TheVariants as plan_is
use Rattle.http_front.specs.declared.head_lines.TheConstants.{MAX_HEAD_LINES}
use Rattle.http_front.specs.declared.inbox.TheConstants.{MAX_HEAD_BYTES}
use Rattle.http_front.specs.Cut.{header_lines}
use Rattle.http_front.specs.Body.{dropped, ended_at}
use Rattle.http_front.specs.State.{failed_of, place_of}
use Rattle.http_front.specs.declared.body.BodyIn.{BodyIn}
use Rattle.http_front.specs.declared.place.Place.{Place}
use Rattle.http_front.proofs.BodyLemmas.{Uses-nil}
use Rattle.http_out.specs.Framing.{framing_of}
use Rattle.http_out.specs.ReplyBytes.{head_bytes}
use Rattle.http_out.specs.declared.framing.RequestKind.{RequestKind}
use Rattle.site_config.specs.declared.balancer.Lb.{Lb}
use Rattle.site_config.specs.declared.endpoint.Endpoint.{Endpoint}
use Rattle.ajp_container.specs.Answer.{bytes_of}
use Rattle.ajp_container.specs.Ends.{IsTalk, end_of}
use Rattle.ajp_container.specs.Turns.{Came, CameFirst, Idle, Request, Taken, ContainerTurn, is_over, owed}
use Rattle.ajp_container.specs.Request.{has_first}
use Rattle.ajp_container.specs.declared.app_config.AppConfig.{AppConfig}
use Rattle.ajp_container.specs.declared.ends.Stopped.TheVariants.{Closed}
use Rattle.ajp_container.proofs.SentLaws.{owed-spelled}
use Rattle.drill.specs.FirstPost.{FirstPost, hello, hello_data, post_bytes, post_errand, post_head, post_reply}
use Rattle.drill.specs.Meeting.{IsDoneWith, IsClientRequest, forward_to, plan_on}
use Rattle.drill.proofs.FirstGetLaws.{no-request, ping_bytes, pinged, pings_for, pong_bytes, short-pong}

-- ---- the head

all-two : {X : Type 0} (P : X → Type 0) (x y : X) → P x → P y → All P (x ∷ y ∷ [])
all-two P x y p q zero d lt = p
all-two P x y p q (suc zero) d lt = q
all-two P x y p q (suc (suc k)) d lt = absurd (omega (arith, lt))

host_field : Field
host_field = record { name = codes "Host"; raw = codes " localhost"; end = crlf }

length_field : Field
length_field = record { name = codes "Content-Length"; raw = codes " 5"; end = crlf }

parsed : RequestHead
parsed = record {
  blank = [];
  method = codes "POST";
  target = codes "/echo";
  minor = 1;
  line_end = crlf;
  fields = host_field ∷ length_field ∷ [];
  last = crlf;
}

host-is : IsField host_field
unfolding host_field is_token_byte
host-is = record {
  name = (ltb-true 0 4 refl, AllPass-from_list_all is_token_byte (codes "Host") refl);
  raw = AllPass-from_list_all is_value_byte (codes " localhost") refl;
}

length-is : IsField length_field
unfolding length_field is_token_byte
length-is = record {
  name = (ltb-true 0 14 refl, AllPass-from_list_all is_token_byte (codes "Content-Length") refl);
  raw = AllPass-from_list_all is_value_byte (codes " 5") refl;
}

echo-ascii : (i : ℕ) → slice_index (codes "/echo") i < 128
echo-ascii zero = ltb-true 47 128 refl
echo-ascii (suc zero) = ltb-true 101 128 refl
echo-ascii (suc (suc zero)) = ltb-true 99 128 refl
echo-ascii (suc (suc (suc zero))) = ltb-true 104 128 refl
echo-ascii (suc (suc (suc (suc zero)))) = ltb-true 111 128 refl
echo-ascii (suc (suc (suc (suc (suc i))))) = ltb-true 0 128 refl

head-is : IsRequestHead parsed
unfolding parsed is_token_byte
head-is = record {
  method = (ltb-true 0 4 refl, AllPass-from_list_all is_token_byte (codes "POST") refl);
  target = (ltb-true 0 5 refl, AllPass-from_list_all is_uri_byte (codes "/echo") refl);
  target_text = IsUtf8-from_ascii (codes "/echo") echo-ascii;
  minor = omega arith;
  fields = all-two IsField host_field length_field host-is length-is;
}

reads : ReadsRequest post_bytes parsed []
unfolding parsed host_field length_field print_request
reads = (head-is, refl)

judged-is : judged parsed ≡ Ok post_head
unfolding parsed host_field length_field trim_ows percent_decode
judged-is = refl

few-fields : length (parsed.fields) ≤ MAX_HEAD_LINES
unfolding parsed
few-fields = omega arith

is_head : IsHeadOf post_bytes post_head
is_head = record {
  blank = [];
  front = post_bytes;
  parsed = parsed;
  cut = record { whole = refl; empty = refl; begins = refl; ends = refl };
  within = leb-true (length post_bytes) MAX_HEAD_BYTES refl;
  few = leb-true (header_lines post_bytes) MAX_HEAD_LINES refl;
  reads = record { reads = reads; room = few-fields };
  is = judged-is;
}

request : IsClientRequest post_head hello_data
request = record { used = post_bytes; behind = hello; read = is_head; brings = refl }

-- ---- its Forward Request and its first piece

abbrev sent_forward : Forward
sent_forward = record {
  method = codes "POST";
  protocol = codes "HTTP/1.1";
  uri = codes "/echo";
  remote_addr = codes "127.0.0.1";
  remote_host = codes "127.0.0.1";
  server = codes "localhost";
  port = 80;
  ssl = false;
  headers = (codes "Host", codes "localhost") ∷ (codes "Content-Length", codes "5") ∷ [];
  attributes = [];
}

fields-fit : FieldsFit sent_forward
fields-fit = record {
  protocol = ltb-true 8 65535 refl;
  uri = ltb-true 5 65535 refl;
  remote_addr = ltb-true 9 65535 refl;
  remote_host = ltb-true 9 65535 refl;
  server = ltb-true 9 65535 refl;
  headers = (record { name = ltb-true 4 40960 refl; value = ltb-true 9 65535 refl }, (record { name = ltb-true 14 40960 refl; value = ltb-true 1 65535 refl }, tt));
  attributes = tt;
  method = tt;
}

packet-fits : FitsPacket 8192 (payload_of sent_forward)
unfolding payload_of
packet-fits = record { within = leb-true (length (payload_of sent_forward) + 4) 8192 refl; narrow = ltb-true (length (payload_of sent_forward)) 65536 refl }

forward-is : IsForward sent_forward
forward-is = record { port = ltb-true 80 65536 refl; few_headers = leb-true 2 100 refl; attributes = tt }

spelled : SpellsForward (as_read sent_forward) (payload_of sent_forward)
spelled = written_spells sent_forward forward-is fields-fit

forwarded-is : (balancer : Lb) (member : MemberConfig) (endpoint : Endpoint) (session lb : ℕ) (terms : Terms) → balancer.book.direct ≡ true → endpoint.secret ≡ None
    → forward_to (post_errand session lb balancer terms) member endpoint ≡ sent_forward
forwarded-is balancer member endpoint session lb terms direct secret = rw (direct, secret) refl

-- five bytes are a first piece for each member
all-hold : (ends : List Endpoint) → All (λ endpoint. 5 ≤ piece_for endpoint) ends
all-hold [] k d lt = absurd (omega (arith, lt))
all-hold (e ∷ ends) zero d lt = let above = e.packet_above in omega (arith, above)
all-hold (e ∷ ends) (suc k) d lt = all-hold ends k d (omega (arith, lt))

five : (ends : List Endpoint) → first_len (plan_is.Exact 5) ends ≡ 5
five ends =
    let within : first_len (plan_is.Exact 5) ends ≤ 5 = within_length 5 ends in
    let above : 5 ≤ first_len (plan_is.Exact 5) ends = nothing_greater 5 ends 5 (omega arith) (all-hold ends) in
    omega (arith, within, above)

-- ---- what the container sends

abbrev turn : ContainerTurn
turn = Request (as_read sent_forward) (Taken hello [])

abbrev parts : ReplyParts
parts = record { status = 200; message = codes "OK"; headers = (codes "Content-Length", codes "5") ∷ [] }

abbrev past : List Message
past = Chunk hello ∷ Headers parts ∷ []

owed-is : (app : AppConfig) → app.packet ≡ 8192 → app.secret ≡ None → owed app turn ≡ Headers parts ∷ Chunk hello ∷ End true ∷ []
unfolding digits
owed-is app size open_to_all = rw (open_to_all, size) refl

answer-spelled : (app : AppConfig) → app.packet ≡ 8192 → app.secret ≡ None → Spelled 8192 (End true ∷ past) (bytes_of (owed app turn))
answer-spelled app size open_to_all =
    subst (λ (m : ℕ). Spelled m (End true ∷ past) (bytes_of (owed app turn))) size
    (subst (λ (l : List Message). Spelled app.packet l (bytes_of (owed app turn))) (ap reverse (owed-is app size open_to_all))
    (owed-spelled app turn (ltb-true 5 (2 ^ 64) refl)))

answer-short : (app : AppConfig) → app.packet ≡ 8192 → app.secret ≡ None → length (bytes_of (owed app turn)) < 8192
answer-short app size open_to_all =
    subst (λ (l : List Message). length (bytes_of l) < 8192) (sym (owed-is app size open_to_all))
    (ltb-true (length (bytes_of (Headers parts ∷ Chunk hello ∷ End true ∷ []))) 8192 refl)

-- ---- the container's end

link : (incoming received sent : List ℕ) → Moment
link incoming received sent = record { incoming = Some incoming; received = Some received; sent = Some sent; faults = 0 }

-- the Forward Request and the body's packet
abbrev put_bytes : List ℕ
put_bytes = packet false (payload_of sent_forward) ++ body_packet hello

piece-fits : FitsPacket 8192 (body_payload hello)
piece-fits = record { within = leb-true (length (body_payload hello) + 4) 8192 refl; narrow = ltb-true (length (body_payload hello)) 65536 refl }

container : (app : AppConfig) (ping : Bool) (old : List ℕ) → app.packet ≡ 8192 → app.secret ≡ None
    → IsTalk app (link (ping_bytes ping ++ put_bytes) [] old)
    (link [] (ping_bytes ping ++ put_bytes) (old ++ (pong_bytes ping ++ bytes_of (owed app turn)))) (end_of 1 Closed)
unfolding link
container app ping old size open_to_all = record {
  past = turn ∷ pings_for ping;
  came = asked;
  sent = answered;
  turns = (ping_bytes ping, put_bytes, pong_bytes ping, pinged app ping, over, came, refl, refl);
  between = link [] asked (old ++ answered);
  goes = record { came = record { used = ap Some (sym (append-nil asked)); kept = refl }; sent = refl; steady = refl };
  stop = Closed;
  stops = record {
    turn = Idle;
    front = [];
    rest = [];
    came = refl;
    comes = record { used = refl; kept = ap Some (sym (append-nil asked)) };
    stops = inl (record { waits = refl; sent = ap Some (sym (append-nil (old ++ answered))); why = (refl, refl) });
  };
  end_is = ap (λ (n : ℕ). end_of (n + 1) Closed) (sym (no-request ping));
}
  where
    asked : List ℕ
    asked = ping_bytes ping ++ put_bytes

    answered : List ℕ
    answered = pong_bytes ping ++ bytes_of (owed app turn)

    over : IsTrue (is_over app turn)
    over = rw open_to_all refl

    first : CameFirst app.packet (has_first (as_read sent_forward)) hello (body_packet hello)
    first = record {
      payload = body_payload hello;
      packet = record { whole = refl; fits = subst (λ (m : ℕ). FitsPacket m (body_payload hello)) (sym size) piece-fits };
      spelled = inl (ltb-true (length hello) 65536 refl, refl);
    }

    came : Came app turn put_bytes
    came = (
      packet false (payload_of sent_forward),
      body_packet hello,
      record {
        payload = payload_of sent_forward;
        packet = record { whole = refl; fits = subst (λ (m : ℕ). FitsPacket m (payload_of sent_forward)) (sym size) packet-fits };
        spelled = spelled;
      },
      record { front = body_packet hello; answers = []; begun = first; answered = refl; asked = tt; whole = sym (append-nil (body_packet hello)) },
      refl,
    )

-- ---- the connector's end

abbrev kind : RequestKind
kind = record { old = false; head_only = false; last = false; date = None }

talk_moment : BodyIn → Moment → List ℕ → TalkMoment
talk_moment body line sent = record {
  line = line;
  client = record { incoming = Some []; received = Some (post_bytes ++ hello); sent = Some sent; faults = 0 };
  body = record { body = body; unread = Some [] };
}

good : is_good parts ≡ true
unfolding is_good
good = refl

reply-is : whole_of kind (Some (head_out parts)) (chunks_of past) ≡ post_reply
unfolding head_bytes digits
reply-is = refl

connector : (plan : TalkPlan) (body : BodyIn) (answer sent received : List ℕ) → plan.packet ≡ 8192 → plan.forward ≡ packet false (payload_of sent_forward)
    → plan.first ≡ hello → plan.most ≡ 1099511627776 → kind_of plan ≡ kind → is_listed plan.fail_on 200 ≡ false → failed_of body ≡ None
    → Spelled 8192 (End true ∷ past) answer → length answer < 8192
    → IsDone plan (talk_moment body (link (pong_of plan ++ answer) received sent) [])
    (talk_moment body (link [] (received ++ (pong_of plan ++ answer)) (sent ++ (ping_of plan ++ put_bytes))) post_reply)
    (told_by (kind_of plan) parts (chunks_of past)) true (length (ping_of plan ++ put_bytes) + length (pong_of plan ++ answer))
unfolding link talk_moment
connector plan body answer sent received size forward first most kind_is unlisted going read short = record {
  past = past;
  came = answer;
  put = put;
  reply = record {
    spelled = subst (λ (m : ℕ). Spelled m (End true ∷ past) answer) (sym size) read;
    form = (refl, (refl, (refl, good, tt)));
    sum = subst (λ (k : RequestKind). agrees (framing_of k (head_out parts)) 5 ≡ true) (sym kind_is) refl;
  };
  unlisted = unlisted;
  traffic = record { came = record { used = ap Some (sym (append-nil (pong_of plan ++ answer))); kept = refl }; sent = refl };
  below =
      let pong : length (pong_of plan) ≤ 5 = short-pong plan.ping in
      omega (arith, most, short, pong, length-append (pong_of plan) answer);
  opened = record { rest = []; joined = sym (append-nil (opening plan) ∙ open_is) };
  sent = sym (append-nil (opening plan) ∙ open_is);
  steady = refl;
  written = ap Some (sym (ap (λ (k : RequestKind). whole_of k (Some (head_out parts)) (chunks_of past)) kind_is ∙ reply-is));
  told_is = refl;
  counted = refl;
  taken = [];
  takes = record { uses = Uses-nil (Some []) (place_of body); counted = omega arith; going = going; most = refl };
  left = refl;
}
  where
    put : List ℕ
    put = ping_of plan ++ put_bytes

    open_is : opening plan ≡ ping_of plan ++ put_bytes
    open_is = rw (forward, first) refl

-- ---- the two of them

pub first_post : FirstPost
unfolding link talk_moment
first_post app balancer member endpoint body session lb terms dialled sent received answered is = (
  as_read sent_forward,
  talk_moment body (link (pong ++ answer) received sent) [],
  talk_moment body (link [] (received ++ (pong ++ answer)) (sent ++ (ping ++ put_bytes))) post_reply,
  talk,
  refl,
  refl,
  refl,
  refl,
  refl,
  refl,
)
  where
    answer : List ℕ
    answer = bytes_of (owed app turn)

    plan : TalkPlan
    plan = plan_on (post_errand session lb balancer terms) hello member endpoint dialled

    ping : List ℕ
    ping = ping_of plan

    pong : List ℕ
    pong = pong_of plan

    same : forward_to (post_errand session lb balancer terms) member endpoint ≡ sent_forward
    same = forwarded-is balancer member endpoint session lb terms is.direct is.secret

    talk : IsDoneWith app (post_errand session lb balancer terms) member endpoint hello_data (as_read sent_forward)
        (talk_moment body (link (pong ++ answer) received sent) [])
        (talk_moment body (link [] (received ++ (pong ++ answer)) (sent ++ (ping ++ put_bytes))) post_reply)
    talk = record {
      first = hello;
      dialled = dialled;
      told = told_by (kind_of plan) parts (chunks_of past);
      reuse = true;
      bytes = length (ping ++ put_bytes) + length (pong ++ answer);
      before = link (ping ++ put_bytes) [] answered;
      after = link [] (ping ++ put_bytes) (answered ++ (pong ++ answer));
      end = end_of 1 Closed;
      size = is.packet ∙ sym is.app_packet;
      ready = record {
        request = request;
        fits = record {
          fields = subst FieldsFit (sym same) fields-fit;
          packet = subst (λ (m : ℕ). FitsPacket m (payload_of (forward_to (post_errand session lb balancer terms) member endpoint))) (sym is.packet)
              (subst (λ (g : Forward). FitsPacket 8192 (payload_of g)) (sym same) packet-fits);
        };
        first_is = ap (λ (n : ℕ). take n hello) (sym (five balancer.ends));
        left = ap (λ (p : Place). Some (ended_at p)) is.taken ∙ ap (λ (n : ℕ). dropped n (Some hello_data)) (sym (five balancer.ends));
      };
      connector = connector plan body answer sent received is.packet
          (ap (λ (g : Forward). packet false (payload_of g)) same) refl refl refl is.unlisted is.going (answer-spelled app is.app_packet is.app_secret)
          (answer-short app is.app_packet is.app_secret);
      container = container app plan.ping answered is.app_packet is.app_secret;
      meet = record {
        asked = ping ++ put_bytes;
        answered = pong ++ answer;
        sent_before = sent;
        received_before = received;
        answered_before = answered;
        had_sent = refl;
        had_received = refl;
        sent = refl;
        received = refl;
        to_come = refl;
        had_answered = refl;
        answers = refl;
      };
      spelled = subst (λ (g : Forward). SpellsForward (as_read sent_forward) (payload_of g)) (sym same) spelled;
      answered = rw is.app_secret refl;
    }
