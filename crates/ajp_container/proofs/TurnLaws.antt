-- How a turn is served, and how turns make a talk.
use Rattle.std.proofs.Common.{◌≡◌, ◌≢◌, ℕ, ◌+◌, ◌<◌, Bool, true, false, IsTrue, List, [], ◌∷◌, ◌++◌, length, Result, Ok, Err, refl, sym, ap, subst, ◌∙◌, append_assoc, arith, inl, inr, ◌⊎◌}
use Rattle.std.specs.Prelude.{IfOk, not, ◌&&◌, if◌then◌else◌, ◌^◌, All}
use Rattle.std.proofs.lemmas.List.Elements.{All-from_recursion}
use Rattle.std.proofs.lemmas.List.{append-nil}
use Rattle.jk_io.specs.Told.{Rose}
use Rattle.jk_io.proofs.ToldLaws.{appended-nil, Rose-within}
use Rattle.ajp_wire.specs.Packet.{packet, HasCome}
use Rattle.ajp_wire.specs.declared.errors.DecodeError.{DecodeError}
use Rattle.ajp_wire.specs.declared.errors.DecodeError.TheVariants as errors
use Rattle.ajp_request.specs.declared.forward.Forward.{Forward}
use Rattle.ajp_request.specs.Spelling.{SpellsForward}
use Rattle.ajp_reply.specs.declared.message.Message.{Message}
use Rattle.ajp_reply.specs.declared.message.Message.TheVariants.{Pong}
use Rattle.ajp_container.specs.declared.app_config.AppConfig.{AppConfig}
use Rattle.ajp_container.specs.declared.ends.BadPacket.TheVariants.{Code, Request as BadRequest}
use Rattle.ajp_container.specs.declared.ends.ContainerEnd.{ContainerEnd}
use Rattle.ajp_container.specs.declared.ends.ContainerEnd.TheVariants as ends
use Rattle.ajp_container.specs.declared.ends.Stopped.{Stopped}
use Rattle.ajp_container.specs.declared.ends.Stopped.TheVariants.{Closed, Dropped, LinkFault, Truncated, Bad, NoMemory}
use Rattle.ajp_container.specs.declared.serving.TurnKind.{TurnKind}
use Rattle.ajp_container.specs.declared.serving.TurnKind.TheVariants as kinds
use Rattle.ajp_container.specs.Applications.{drops}
use Rattle.ajp_container.specs.Request.{application_of}
use Rattle.ajp_container.specs.Answer.{answer_of, bytes_of, IsSendable}
use Rattle.ajp_container.specs.Turns.{Taken, ContainerTurn, Idle, Ping, Request, Turns, data_of, asks_on, ask, owed_for, owed, requests_in}
use Rattle.jk_io.specs.Moments.{Moment}
use Rattle.ajp_container.specs.Ends.{Goes, TurnPlace, Between, Within, IsRefusedPacket, Stops, StopsWithin, StopsInTurn, IsTalk, end_of}
use Rattle.ajp_container.specs.Steps.{TookPacket, NotTaken, NotSent, TookBody, asks, ServedWhole, TookTurn, TakesTurn, ReadsForward, Sends, ServesForward, turn_after, is_request, kind_of, requests_of, stop_of}
use Rattle.ajp_container.proofs.StepLaws.{packet-unkept, comes-none, comes-then, goes-none, goes-then, no-fewer, stops-then, stops-reading, stops-sending, stops-wanting}
use Rattle.ajp_container.proofs.FitLaws.{answer-sendable}
use Rattle.ajp_container.proofs.BodyLaws.{bytes_of-append, goes-same}

-- ---- a request after its Forward Request

-- what stops after a whole body stops within the answer
answer-stops : (app : AppConfig) (forward : Forward) (m0 m1 m2 : Moment) (body : List ℕ) (stop : Stopped) → TookBody app forward m0 m1 body
    → HasCome m1 m2 [] → Stops app.packet Within false (drops (application_of app forward)) (bytes_of (answer_of app forward body)) m1 m2 [] stop
    → StopsWithin app forward m0 m2 stop
answer-stops app forward m0 m1 m2 body stop t none s = record {
  body = Taken t.first t.past;
  front = t.bytes;
  rest = [];
  came = t.came;
  comes = comes-then m0 m1 m2 t.bytes [] t.goes.came none;
  stops =
      subst (λ (b : Bool). Stops app.packet Within b (not b && drops (application_of app forward))
      (bytes_of (asks app t.past ++ (if b then ask app ∷ [] else answer_of app forward (data_of t.first t.past)))) m0 m2 [] stop) (sym t.all)
      (subst (λ (b : List ℕ). Stops app.packet Within false (drops (application_of app forward)) (bytes_of (asks app t.past ++ answer_of app forward b)) m0 m2 [] stop) t.body_is
      (subst (λ (b : List ℕ). Stops app.packet Within false (drops (application_of app forward)) b m0 m2 [] stop) (sym (bytes_of-append (asks app t.past) (answer_of app forward body)))
      (stops-then app.packet Within false (drops (application_of app forward)) m0 m1 m2 t.bytes (bytes_of (asks app t.past)) (bytes_of (answer_of app forward body)) [] stop t.goes s)));
}

pub answer-failed : (app : AppConfig) (forward : Forward) (m0 m1 m2 : Moment) (body : List ℕ) (stop : Stopped) → TookBody app forward m0 m1 body
    → NotSent (bytes_of (answer_of app forward body)) m1 m2 stop → StopsWithin app forward m0 m2 stop
answer-failed app forward m0 m1 m2 body stop t s =
    answer-stops app forward m0 m1 m2 body stop t s.comes
    (stops-sending app.packet Within false (drops (application_of app forward)) m1 m2 (bytes_of (answer_of app forward body)) stop s)

pub answer-wanted : (app : AppConfig) (forward : Forward) (m0 m1 : Moment) (body : List ℕ) → TookBody app forward m0 m1 body
    → StopsWithin app forward m0 m1 NoMemory
answer-wanted app forward m0 m1 body t =
    answer-stops app forward m0 m1 m1 body NoMemory t (comes-none m1)
    (stops-wanting app.packet Within false (drops (application_of app forward)) m1 (bytes_of (answer_of app forward body)))

pub answer-dropped : (app : AppConfig) (forward : Forward) (m0 m1 m2 : Moment) (body : List ℕ) → TookBody app forward m0 m1 body
    → Goes m1 m2 [] (bytes_of (answer_of app forward body)) → drops (application_of app forward) ≡ true → StopsWithin app forward m0 m2 Dropped
answer-dropped app forward m0 m1 m2 body t goes gone =
    answer-stops app forward m0 m1 m2 body Dropped t goes.came (inr (inr (record { none = refl; drops = gone; sent = goes.sent; why = refl })))

pub answer-served : (app : AppConfig) (forward : Forward) (m0 m1 m2 : Moment) (body : List ℕ) → TookBody app forward m0 m1 body
    → Goes m1 m2 [] (bytes_of (answer_of app forward body)) → drops (application_of app forward) ≡ false → ServedWhole app forward m0 m2
answer-served app forward m0 m1 m2 body t goes stays = record {
  body = Taken t.first t.past;
  bytes = t.bytes;
  came = t.came;
  over = over-is (asks_on app forward t.first t.past) (drops (application_of app forward)) t.all stays;
  goes =
      subst (λ (b : Bool). Goes m0 m2 t.bytes (bytes_of (asks app t.past ++ (if b then ask app ∷ [] else answer_of app forward (data_of t.first t.past))))) (sym t.all)
      (subst (λ (b : List ℕ). Goes m0 m2 t.bytes (bytes_of (asks app t.past ++ answer_of app forward b))) t.body_is
      (goes-same m0 m2 (t.bytes ++ []) t.bytes _ _ (append-nil t.bytes) (sym (bytes_of-append (asks app t.past) (answer_of app forward body)))
      (goes-then m0 m1 m2 t.bytes [] (bytes_of (asks app t.past)) (bytes_of (answer_of app forward body)) t.goes goes)));
}
  where
    over-is : (b d : Bool) → b ≡ false → d ≡ false → IsTrue (not b && not d)
    over-is b d e f = rw (e, f) refl

-- ---- a turn

pub request-unread : (payload : List ℕ) (error : DecodeError) (stop : Stopped) → stop ≡ stop_of error
    → (error ≢ errors.NoMemory → (forward : Forward) → SpellsForward forward payload → ⊥) → ReadsForward payload (Err stop)
request-unread payload (errors.Short at) stop is none = inl (is, none (λ e. cc))
request-unread payload (errors.BadCode at) stop is none = inl (is, none (λ e. cc))
request-unread payload (errors.BadMark at) stop is none = inl (is, none (λ e. cc))
request-unread payload (errors.BadBoolean at) stop is none = inl (is, none (λ e. cc))
request-unread payload (errors.Extra at) stop is none = inl (is, none (λ e. cc))
request-unread payload (errors.TooMany at) stop is none = inl (is, none (λ e. cc))
request-unread payload (errors.Absent at) stop is none = inl (is, none (λ e. cc))
request-unread payload errors.NoMemory stop is none = inr is

pub turn-untaken : (app : AppConfig) (m0 m1 : Moment) (stop : Stopped) → NotTaken app.packet Between m0 m1 stop → StopsInTurn app m0 m1 stop
turn-untaken app m0 m1 stop t = record {
  turn = Idle;
  front = [];
  rest = t.bytes;
  came = refl;
  comes = t.comes;
  stops = stops-reading app.packet Between false m0 m1 stop t;
}

pub turn-strange : (app : AppConfig) (m0 m1 : Moment) (payload : List ℕ) → TookPacket app.packet m0 m1 payload → IsRefusedPacket Between Code payload
    → StopsInTurn app m0 m1 (Bad Code)
turn-strange app m0 m1 payload took refused =
    turn-untaken app m0 m1 (Bad Code) (record {
      bytes = took.bytes;
      comes = took.goes.came;
      sent = took.goes.sent ∙ appended-nil m0.sent;
      why = (payload, took.packet, refused);
    })

pub turn-unread : (app : AppConfig) (m0 m1 : Moment) (payload : List ℕ) (stop : Stopped) → TookPacket app.packet m0 m1 payload
    → ((rest : List ℕ) × (payload ≡ 2 ∷ rest))
    → ((stop ≡ Bad BadRequest) × ((forward : Forward) → SpellsForward forward payload → ⊥)) ⊎ (stop ≡ NoMemory) → StopsInTurn app m0 m1 stop
turn-unread app m0 m1 payload stop took begun (inl (e, none)) =
    subst (StopsInTurn app m0 m1) (sym e)
    (turn-untaken app m0 m1 (Bad BadRequest) (record {
      bytes = took.bytes;
      comes = took.goes.came;
      sent = took.goes.sent ∙ appended-nil m0.sent;
      why = (payload, took.packet, (begun, none));
    }))
turn-unread app m0 m1 payload stop took begun (inr e) =
    subst (StopsInTurn app m0 m1) (sym e) (turn-untaken app m0 m1 NoMemory (packet-unkept app.packet Between m0 m1 payload took))

ping-came : (app : AppConfig) (m0 m1 : Moment) (payload : List ℕ) (t : TookPacket app.packet m0 m1 payload) → payload ≡ 10 ∷ []
    → t.bytes ≡ packet false (10 ∷ [])
ping-came app m0 m1 payload t is = t.packet.whole ∙ ap (packet false) is

pub ping-failed : (app : AppConfig) (m0 m1 m2 : Moment) (payload : List ℕ) (stop : Stopped) → TookPacket app.packet m0 m1 payload → payload ≡ 10 ∷ []
    → NotSent (bytes_of (Pong ∷ [])) m1 m2 stop → StopsInTurn app m0 m2 stop
ping-failed app m0 m1 m2 payload stop t is s = record {
  turn = Ping;
  front = t.bytes;
  rest = [];
  came = ping-came app m0 m1 payload t is;
  comes = comes-then m0 m1 m2 t.bytes [] t.goes.came s.comes;
  stops =
      stops-then app.packet Between false false m0 m1 m2 t.bytes [] (bytes_of (Pong ∷ [])) [] stop t.goes
      (stops-sending app.packet Between false false m1 m2 (bytes_of (Pong ∷ [])) stop s);
}

pub ping-served : (app : AppConfig) (m0 m1 m2 : Moment) (payload : List ℕ) → TookPacket app.packet m0 m1 payload → payload ≡ 10 ∷ []
    → Goes m1 m2 [] (bytes_of (Pong ∷ [])) → TookTurn app m0 m2 kinds.Ping
ping-served app m0 m1 m2 payload t is goes = record {
  turn = Ping;
  bytes = t.bytes;
  came = ping-came app m0 m1 payload t is;
  over = refl;
  goes =
      goes-same m0 m2 (t.bytes ++ []) t.bytes (bytes_of (Pong ∷ [])) (bytes_of (Pong ∷ [])) (append-nil t.bytes) refl
      (goes-then m0 m1 m2 t.bytes [] [] (bytes_of (Pong ∷ [])) t.goes goes);
  kind_is = refl;
}

-- a ping, whether its answer was sent or not
pub ping-taken : (app : AppConfig) (m0 m1 m2 : Moment) (payload : List ℕ) (result : Result TurnKind Stopped) → TookPacket app.packet m0 m1 payload → payload ≡ 10 ∷ []
    → Sends (bytes_of (Pong ∷ [])) m1 m2 result → IfOk result (λ kind. kind ≡ kinds.Ping) → TakesTurn app m0 m2 result
ping-taken app m0 m1 m2 payload (Ok kind) t is sent ping = subst (TookTurn app m0 m2) (sym ping) (ping-served app m0 m1 m2 payload t is sent)
ping-taken app m0 m1 m2 payload (Err stop) t is sent ping = ping-failed app m0 m1 m2 payload stop t is sent

request-stops : (app : AppConfig) (forward : Forward) (m0 m1 m2 : Moment) (payload : List ℕ) (stop : Stopped) → TookPacket app.packet m0 m1 payload
    → SpellsForward forward payload → StopsWithin app forward m1 m2 stop → StopsInTurn app m0 m2 stop
request-stops app forward m0 m1 m2 payload stop t spelled s = record {
  turn = Request forward s.body;
  front = t.bytes ++ s.front;
  rest = s.rest;
  came = (t.bytes, s.front, record { payload = payload; packet = t.packet; spelled = spelled }, s.came, refl);
  comes = subst (HasCome m0 m2) (sym (append_assoc t.bytes s.front s.rest)) (comes-then m0 m1 m2 t.bytes (s.front ++ s.rest) t.goes.came s.comes);
  stops = stops-then app.packet Within _ _ m0 m1 m2 t.bytes [] (bytes_of (owed_for app forward s.body)) s.rest stop t.goes s.stops;
}

request-served : (app : AppConfig) (forward : Forward) (m0 m1 m2 : Moment) (payload : List ℕ) → TookPacket app.packet m0 m1 payload
    → SpellsForward forward payload → ServedWhole app forward m1 m2 → TookTurn app m0 m2 kinds.Request
request-served app forward m0 m1 m2 payload t spelled s = record {
  turn = Request forward s.body;
  bytes = t.bytes ++ s.bytes;
  came = (t.bytes, s.bytes, record { payload = payload; packet = t.packet; spelled = spelled }, s.came, refl);
  over = s.over;
  goes = goes-then m0 m1 m2 t.bytes s.bytes [] (bytes_of (owed_for app forward s.body)) t.goes s.goes;
  kind_is = refl;
}

-- a request, whether it was served whole or not
pub request-taken : (app : AppConfig) (forward : Forward) (m0 m1 m2 : Moment) (payload : List ℕ) (served : Result Unit Stopped) → TookPacket app.packet m0 m1 payload
    → SpellsForward forward payload → ServesForward app forward m1 m2 served → TakesTurn app m0 m2 (turn_after served)
request-taken app forward m0 m1 m2 payload (Ok done) t spelled s = request-served app forward m0 m1 m2 payload t spelled s
request-taken app forward m0 m1 m2 payload (Err stop) t spelled s = request-stops app forward m0 m1 m2 payload stop t spelled s

-- ---- a talk

-- the turns so far
pub record TalkSoFar (app : AppConfig) (m0 m1 : Moment) (requests : ℕ) : Type 0 where
  pub past : List ContainerTurn
  pub came : List ℕ
  pub sent : List ℕ
  pub turns : Turns app past came sent
  pub goes : Goes m0 m1 came sent
  pub counted : requests ≡ requests_in past

pub talk-starts : (app : AppConfig) (m : Moment) → TalkSoFar app m m 0
talk-starts app m = record { past = []; came = []; sent = []; turns = (refl, refl); goes = goes-none m; counted = refl }

-- a turn counts where it is a request
counts : (turn : ContainerTurn) (past : List ContainerTurn) (n : ℕ) (kind : TurnKind) → kind ≡ kind_of (is_request turn) → n ≡ requests_in past
    → n + requests_of kind ≡ requests_in (turn ∷ past)
counts Idle past n kind k e = ap (λ (t : TurnKind). n + requests_of t) k ∙ omega (arith, e)
counts Ping past n kind k e = ap (λ (t : TurnKind). n + requests_of t) k ∙ omega (arith, e)
counts (Request forward body) past n kind k e = ap (λ (t : TurnKind). n + requests_of t) k ∙ omega (arith, e)

pub turn-told : (app : AppConfig) (m0 m1 m2 : Moment) (n more : ℕ) (kind : TurnKind) → TalkSoFar app m0 m1 n → TookTurn app m1 m2 kind
    → more ≡ requests_of kind → TalkSoFar app m0 m2 (n + more)
turn-told app m0 m1 m2 n more kind so t is = record {
  past = t.turn ∷ so.past;
  came = so.came ++ t.bytes;
  sent = so.sent ++ bytes_of (owed app t.turn);
  turns = (so.came, t.bytes, so.sent, so.turns, t.over, t.came, refl, refl);
  goes = goes-then m0 m1 m2 so.came t.bytes so.sent (bytes_of (owed app t.turn)) so.goes t.goes;
  counted = ap (λ (k : ℕ). n + k) is ∙ counts t.turn so.past n kind t.kind_is so.counted;
}

pub talk-stops : (app : AppConfig) (m0 m1 m2 : Moment) (n : ℕ) (stop : Stopped) → TalkSoFar app m0 m1 n → StopsInTurn app m1 m2 stop
    → IsTalk app m0 m2 (end_of n stop)
talk-stops app m0 m1 m2 n stop so s = record {
  past = so.past;
  came = so.came;
  sent = so.sent;
  turns = so.turns;
  between = m1;
  goes = so.goes;
  stop = stop;
  stops = s;
  end_is = ap (λ (k : ℕ). end_of k stop) so.counted;
}

pub talk-given_up : (app : AppConfig) (m0 m1 : Moment) (n : ℕ) → TalkSoFar app m0 m1 n → IsTalk app m0 m1 ends.NoMemory
talk-given_up app m0 m1 n so =
    talk-stops app m0 m1 m1 n NoMemory so (record {
      turn = Idle;
      front = [];
      rest = [];
      came = refl;
      comes = comes-none m1;
      stops = stops-wanting app.packet Between true false m1 [];
    })

-- where the link failed its count rose
stop-rose : (most : ℕ) (place : TurnPlace) (waiting dropped : Bool) (going : List ℕ) (m0 m1 : Moment) (rest : List ℕ)
    → Stops most place waiting dropped going m0 m1 rest LinkFault → Rose m0.faults m1.faults
stop-rose most place waiting dropped going m0 m1 rest (inl r) = r.why.0
stop-rose most place waiting dropped going m0 m1 rest (inr (inl s)) = s.why
stop-rose most place waiting dropped going m0 m1 rest (inr (inr d)) = let other = d.why in absurd (cc)

is-fault : (n : ℕ) (stop : Stopped) → ends.LinkFault ≡ end_of n stop → stop ≡ LinkFault
is-fault n Closed e = absurd (cc)
is-fault n Dropped e = absurd (cc)
is-fault n LinkFault e = refl
is-fault n Truncated e = absurd (cc)
is-fault n (Bad bad) e = absurd (cc)
is-fault n NoMemory e = absurd (cc)

pub talk-rose : (app : AppConfig) (m0 m1 : Moment) (end : ContainerEnd) → IsTalk app m0 m1 end → end ≡ ends.LinkFault → Rose m0.faults m1.faults
talk-rose app m0 m1 end t is =
    let fault = is-fault (requests_in t.past) t.stop (sym is ∙ t.end_is) in
    let s = subst (StopsInTurn app t.between m1) fault t.stops in
    Rose-within m0.faults t.between.faults m1.faults m1.faults (no-fewer _ _ _ _ t.goes)
    (stop-rose _ _ _ _ _ t.between m1 s.rest s.stops) (omega arith)

-- where memory was wanted no call of the link failed
stop-calm : (most : ℕ) (place : TurnPlace) (waiting dropped : Bool) (going : List ℕ) (m0 m1 : Moment) (rest : List ℕ)
    → Stops most place waiting dropped going m0 m1 rest NoMemory → m1.faults ≡ m0.faults
stop-calm most place waiting dropped going m0 m1 rest (inl r) = r.why.1
stop-calm most place waiting dropped going m0 m1 rest (inr (inl s)) = s.why
stop-calm most place waiting dropped going m0 m1 rest (inr (inr d)) = let other = d.why in absurd (cc)

is-want : (n : ℕ) (stop : Stopped) → ends.NoMemory ≡ end_of n stop → stop ≡ NoMemory
is-want n Closed e = absurd (cc)
is-want n Dropped e = absurd (cc)
is-want n LinkFault e = absurd (cc)
is-want n Truncated e = absurd (cc)
is-want n (Bad bad) e = absurd (cc)
is-want n NoMemory e = refl

pub talk-calm : (app : AppConfig) (m0 m1 : Moment) (end : ContainerEnd) → IsTalk app m0 m1 end → end ≡ ends.NoMemory → m1.faults ≡ m0.faults
talk-calm app m0 m1 end t is =
    let want = is-want (requests_in t.past) t.stop (sym is ∙ t.end_is) in
    let s = subst (StopsInTurn app t.between m1) want t.stops in
    stop-calm _ _ _ _ _ t.between m1 s.rest s.stops ∙ t.goes.steady

-- ---- the same for the messages that the answer is

pub messages-sendable : (app : AppConfig) (forward : Forward) (body : List ℕ) (messages : List Message) → messages ≡ answer_of app forward body
    → length body < 2 ^ 64 → All (IsSendable app.packet) messages
messages-sendable app forward body messages is small =
    subst (λ (ms : List Message). All (IsSendable app.packet) ms) (sym is)
    (All-from_recursion (IsSendable app.packet) (answer_of app forward body) (answer-sendable app forward body small))

pub messages-failed : (app : AppConfig) (forward : Forward) (m0 m1 m2 : Moment) (body : List ℕ) (messages : List Message) (stop : Stopped)
    → messages ≡ answer_of app forward body → TookBody app forward m0 m1 body → NotSent (bytes_of messages) m1 m2 stop → StopsWithin app forward m0 m2 stop
messages-failed app forward m0 m1 m2 body messages stop is t s =
    answer-failed app forward m0 m1 m2 body stop t (subst (λ (ms : List Message). NotSent (bytes_of ms) m1 m2 stop) is s)

pub messages-dropped : (app : AppConfig) (forward : Forward) (m0 m1 m2 : Moment) (body : List ℕ) (messages : List Message)
    → messages ≡ answer_of app forward body → TookBody app forward m0 m1 body → Goes m1 m2 [] (bytes_of messages)
    → drops (application_of app forward) ≡ true → StopsWithin app forward m0 m2 Dropped
messages-dropped app forward m0 m1 m2 body messages is t goes gone =
    answer-dropped app forward m0 m1 m2 body t (subst (λ (ms : List Message). Goes m1 m2 [] (bytes_of ms)) is goes) gone

pub messages-served : (app : AppConfig) (forward : Forward) (m0 m1 m2 : Moment) (body : List ℕ) (messages : List Message)
    → messages ≡ answer_of app forward body → TookBody app forward m0 m1 body → Goes m1 m2 [] (bytes_of messages)
    → drops (application_of app forward) ≡ false → ServedWhole app forward m0 m2
messages-served app forward m0 m1 m2 body messages is t goes stays =
    answer-served app forward m0 m1 m2 body t (subst (λ (ms : List Message). Goes m1 m2 [] (bytes_of ms)) is goes) stays
