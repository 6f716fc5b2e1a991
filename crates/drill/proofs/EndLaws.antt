-- End to end, from a connector's end and a container's.
use Rattle.std.proofs.Common.{◌≡◌, ℕ, ◌-◌, ◌^◌, ◌<◌, ◌≤◌, Bool, true, false, List, [], ◌∷◌, ◌++◌, length, reverse, take, Option, Some, None, IfSome, refl, sym, ap, subst, ◌∙◌, arith, append_assoc, length-append, length-take}
use Rattle.std.specs.Prelude.{if◌then◌else◌, replicate}
use Rattle.std.specs.Option.{option_map}
use Rattle.std.proofs.lemmas.List.{append_cancel_left, reverse-append}
use Rattle.jk_io.specs.Told.{appended}
use Rattle.ajp_wire.specs.Packet.{packet}
use Rattle.ajp_request.specs.Writing.{payload_of}
use Rattle.ajp_request.specs.declared.forward.Forward.{Forward}
use Rattle.ajp_reply.specs.Stream.{Spelled, head_of}
use Rattle.ajp_reply.specs.declared.message.Message.{Message}
use Rattle.ajp_reply.specs.declared.message.Message.TheVariants.{End, Ask}
use Rattle.ajp_talk.specs.Moments.{TalkMoment, data_at}
use Rattle.ajp_talk.specs.Owed.{answers, first_packet, behind_first, owed, ping_of, pong_of}
use Rattle.ajp_talk.specs.Replies.{chunks_of, head_out, reply_of_talk, whole_of}
use Rattle.ajp_talk.specs.declared.plan.TalkPlan.{TalkPlan}
use Rattle.http_front.specs.Body.{Data, dropped}
use Rattle.http_front.specs.declared.head.BodyPlan.{BodyPlan}
use Rattle.http_front.specs.declared.head.BodyPlan.TheVariants as plan_is
use Rattle.http_out.specs.declared.framing.RequestKind.{RequestKind}
use Rattle.site_config.specs.declared.endpoint.Endpoint.{Endpoint}
use Rattle.forwarding.specs.FirstPiece.{first_len}
use Rattle.forwarding.proofs.FirstPieceLaws.{within_length}
use Rattle.ajp_container.specs.Answer.{answer_of}
use Rattle.ajp_container.specs.declared.app_config.AppConfig.{AppConfig}
use Rattle.drill.specs.Meeting.{EndToEnd, EndToEndOfExchange, IsDoneWith, forward_to, front_of, kind_for, plan_on, reply_for}
use Rattle.drill.proofs.BoundLaws.{answers-short, few-messages, first-short}
use Rattle.drill.proofs.LengthLaws.{length_below, named_length}
use Rattle.drill.proofs.MeetingLaws.{Heard, SomeTalk, after_ping, heard, head-asks, chunks-asks, reverse-asks, some_talk, took_request}
use Rattle.drill.proofs.EchoLaws.{AreOwn, behind_request, same_answer}

-- what was added after the same bytes is the same
added-is : (old x y : List ℕ) → Some (old ++ x) ≡ Some (old ++ y) → x ≡ y
added-is old x y same = let lists : old ++ x ≡ old ++ y = cc in append_cancel_left old x y lists

if-some : {A : Type 0} (o : Option A) (P : A → Type 0) (x : A) → IfSome o P → o ≡ Some x → P x
if-some (Some y) P x p same = let is : y ≡ x = cc in subst P is p
if-some None P x p same = absurd cc

-- messages have bytes
some-bytes : (most : ℕ) (m : Message) (past : List Message) (bytes : List ℕ) → Spelled most (m ∷ past) bytes → bytes ≡ [] → ⊥
some-bytes most m past bytes s none =
    let few = few-messages most (m ∷ past) bytes s in
    let empty : length bytes ≡ 0 = ap length none in
    absurd (omega (arith, few, empty))

-- after the ping, where there is one
behind_ping : (app : AppConfig) (f : Forward) (b : Bool) (put came : List ℕ)
    → SomeTalk app ((if b then packet false (10 ∷ []) else []) ++ put) ((if b then packet true (9 ∷ []) else []) ++ came) → (came ≡ [] → ⊥)
    → SomeTalk app put came
behind_ping app f true put came talk some = after_ping app f put came talk.all talk.talks some
behind_ping app f false put came talk some = talk

-- what the client has of the messages that were heard is what it has of the answer
same_reply : (kind : RequestKind) (before : List Message) (k n : ℕ) (past : List Message) → past ≡ reverse before ++ reverse (replicate k (Ask n))
    → whole_of kind (option_map head_out (head_of past)) (chunks_of past)
    ≡ whole_of kind (option_map head_out (head_of (reverse (before ++ End true ∷ [])))) (chunks_of (reverse (before ++ End true ∷ [])))
same_reply kind before k n past is =
    let all : past ≡ reverse before ++ replicate k (Ask n) = is ∙ ap (λ (l : List Message). reverse before ++ l) (reverse-asks k n) in
    let turned : reverse (before ++ End true ∷ []) ≡ End true ∷ reverse before = reverse-append before (End true ∷ []) in
    rw (all, turned, head-asks (reverse before) k n, chunks-asks (reverse before) k n) refl

-- a first piece is short
first-below : (p : BodyPlan) (ends : List Endpoint) → ((n : ℕ) → p ≡ plan_is.Exact n → n < 2 ^ 40) → first_len p ends < 2 ^ 40
first-below plan_is.None ends small = omega arith
first-below (plan_is.Exact n) ends small =
    let within : first_len (plan_is.Exact n) ends ≤ n = within_length n ends in
    let below = small n refl in
    omega (arith, within, below)
first-below plan_is.Chunked ends small = omega arith

pub end_to_end : EndToEnd
end_to_end app q member endpoint own f s n t = t.connector.written ∙ ap (appended s.client.sent) reply
  where
    plan : TalkPlan
    plan = plan_on q t.first member endpoint t.dialled

    past : List Message
    past = t.connector.past

    rest : Data
    rest = behind_first (front_of q) own

    behind : List ℕ
    behind = behind_request plan.piece q.head.plan q.balancer.ends own t.first past

    payload : List ℕ
    payload = payload_of (forward_to q member endpoint)

    put_is : t.connector.put ≡ ping_of plan ++ (packet false payload ++ behind)
    put_is =
        if-some (data_at s.body) (λ (d : Data). t.connector.put ≡ owed plan d past) rest t.connector.sent t.ready.left
        ∙ append_assoc (ping_of plan) (packet false payload ++ first_packet t.first) (answers plan.piece rest past)
        ∙ ap (λ (b : List ℕ). ping_of plan ++ b) (append_assoc (packet false payload) (first_packet t.first) (answers plan.piece rest past))

    asked_is : t.meet.asked ≡ t.connector.put
    asked_is =
        added-is t.meet.sent_before t.meet.asked t.connector.put
        (sym t.meet.sent ∙ t.connector.traffic.sent ∙ ap (λ (o : Option (List ℕ)). appended o t.connector.put) t.meet.had_sent)

    answered_is : t.meet.answered ≡ pong_of plan ++ t.connector.came
    answered_is =
        added-is t.meet.received_before t.meet.answered (pong_of plan ++ t.connector.came)
        (sym t.meet.received ∙ t.connector.traffic.came.kept ∙ ap (λ (o : Option (List ℕ)). appended o (pong_of plan ++ t.connector.came)) t.meet.had_received)

    some : t.connector.came ≡ [] → ⊥
    some = some-bytes plan.packet (End t.reuse) past t.connector.came t.connector.reply.spelled

    talk : SomeTalk app (packet false payload ++ behind) t.connector.came
    talk =
        behind_ping app f plan.ping (packet false payload ++ behind) t.connector.came
        (subst (λ (b : List ℕ). SomeTalk app b (pong_of plan ++ t.connector.came)) put_is
        (subst (λ (b : List ℕ). SomeTalk app t.connector.put b) answered_is
        (subst (λ (b : List ℕ). SomeTalk app b t.meet.answered) asked_is
        (some_talk app t.before t.after t.end t.meet.asked t.meet.answered_before t.meet.answered t.container t.meet.to_come t.meet.had_answered t.meet.answers))))
        some

    few : length behind < 2 ^ 64
    few =
        let first = first-short t.first in
        let front : length t.first ≡ length (take (front_of q) own.bytes) = ap length t.ready.first_is in
        let taken = length-take (front_of q) own.bytes in
        let below = first-below q.head.plan q.balancer.ends (λ k is. length_below t.ready.request.used q.head k t.ready.request.read is) in
        let packets = endpoint.packet_below in
        let answered = answers-short plan.piece rest past (omega (arith, packets)) in
        let messages = few-messages plan.packet (End t.reuse ∷ past) t.connector.came t.connector.reply.spelled in
        let heard_all = length-append (pong_of plan) t.connector.came in
        let within : length (pong_of plan ++ t.connector.came) < 1099511627776 = t.connector.below in
        let both = length-append (first_packet t.first) (answers plan.piece rest past) in
        omega (arith, first, front, taken, below, answered, messages, heard_all, within, both)

    spelled : Spelled app.packet (End t.reuse ∷ past) t.connector.came
    spelled = subst (λ (m : ℕ). Spelled m (End t.reuse ∷ past) t.connector.came) t.size t.connector.reply.spelled

    hears : Heard app f behind past
    hears =
        heard app f behind t.connector.came t.reuse past t.answered few
        (took_request app f payload behind t.connector.came talk.all t.spelled talk.talks some) spelled t.connector.reply.form.1

    own_is : AreOwn f q.head.plan q.balancer.ends own t.first
    own_is = record {
      bytes = t.ready.request.behind;
      brings = t.ready.request.brings;
      names = named_length t.ready.request.used q.head q.peer q.balancer.book.direct member endpoint f t.ready.request.read t.ready.fits.fields t.spelled;
      first_is = t.ready.first_is;
    }

    size : plan.piece ≡ app.packet - 6
    size = ap (λ (k : ℕ). k - 6) t.size

    reply : reply_of_talk plan past ≡ reply_for q (answer_of app f own.bytes)
    reply =
        same_reply (kind_for q) hears.before (length hears.pieces) (app.packet - 6) past hears.heard
        ∙ ap (reply_for q) (sym hears.answer ∙ same_answer app f q.head.plan q.balancer.ends own t.first plan.piece past size own_is hears)

-- ---- the last talk of an exchange

pub end_to_end_of_exchange : EndToEndOfExchange
end_to_end_of_exchange app q member own f s n t =
    end_to_end app q t.last.config t.last.endpoint own f begun over with_it
    ∙ ap (λ (o : Option (List ℕ)). appended o (reply_for q (answer_of app f own.bytes))) t.last.unwritten
  where
    begun : TalkMoment
    begun = record { line = t.last.talk.opened; client = t.last.begun.client; body = t.last.begun.body }

    over : TalkMoment
    over = record { line = t.last.talk.closed; client = n.client; body = n.body }

    with_it : IsDoneWith app q t.last.config t.last.endpoint own f begun over
    with_it = record {
      first = t.last.first;
      dialled = t.last.talk.dialled;
      told = t.told;
      reuse = t.reuse;
      bytes = t.moved;
      before = t.before;
      after = t.after;
      end = t.end;
      size = t.size;
      ready = record {
        request = t.request;
        fits = t.fits;
        first_is = if-some (data_at s.body) (λ (d : Data). t.last.first ≡ take (front_of q) d.bytes) own t.last.piece t.there;
        left = t.last.left ∙ ap (dropped (front_of q)) t.there;
      };
      connector = t.last.talk.talk;
      container = t.container;
      meet = t.meet;
      spelled = t.spelled;
      answered = t.answered;
    }
