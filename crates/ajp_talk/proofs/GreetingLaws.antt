-- A talk's beginning: CPing and its answer, and the request.
use Rattle.std.proofs.Common.{◌≡◌, ℕ, ◌+◌, ◌≤◌, ◌<◌, ◌↔◌, true, false, List, [], ◌∷◌, ◌++◌, length, refl, sym, ap, subst, ◌∙◌, arith, append-nil, length-append, Option, Some, None, IfSome, Ok, Err, inl, inr}
use Rattle.std.proofs.lemmas.Bool.{cond-true, cond-false, cases_Bool}
use Rattle.jk_io.specs.Told.{Rose}
use Rattle.jk_io.specs.declared.failures.NoMemory.{NoMemory}
use Rattle.jk_io.proofs.ToldLaws.{all_put, appended-nil}
use Rattle.ajp_wire.specs.Packet.{packet, HasCome}
use Rattle.ajp_reply.specs.declared.message.Message.{Message}
use Rattle.ajp_reply.specs.declared.message.Message.TheVariants.{Headers, Chunk, End, Ask, Pong}
use Rattle.http_front.specs.Body.{Data}
use Rattle.http_front.specs.State.{taken_of, failed_of}
use Rattle.http_front.specs.Walks.{counted}
use Rattle.jk_io.specs.Moments.{Moment}
use Rattle.ajp_talk.specs.Moments.{BodyAt, TalkMoment, data_at, Traffic, IsSteady, TakesOfBody, IsFrontOf}
use Rattle.ajp_talk.specs.Owed.{ping_of, pong_of, first_packet, request_of, opening, owed, IsSealed}
use Rattle.ajp_talk.specs.Talk.{IsTalk, HasFailed, HasNoPong, IsPingCause, HasWanted, SentFor}
use Rattle.ajp_talk.specs.Courses.{Stands, At, fresh, BeginsCourse}
use Rattle.ajp_talk.specs.Turns.{Came, IsHeard, IsUnheard, Sends, pong_only, HasNoAnswer, IsPingAnswered, IsGreeting, IsUnanswered}
use Rattle.ajp_talk.specs.Ends.{IsPlan, stage_end, told_end, bytes_end, failed_end, unanswered_end}
use Rattle.ajp_talk.specs.declared.plan.TalkPlan.{TalkPlan}
use Rattle.ajp_talk.specs.declared.course.Course.{Course}
use Rattle.ajp_talk.specs.declared.ending.Cause.{Cause}
use Rattle.ajp_talk.specs.declared.ending.Cause.TheVariants as cause_is
use Rattle.ajp_talk.specs.declared.turn.Unheard.{Unheard}
use Rattle.ajp_talk.specs.declared.turn.Unheard.TheVariants as unheard_is
use Rattle.ajp_talk.proofs.MessageLaws.{part-nil, pong-is, no_pong-none, no_pong-other}
use Rattle.ajp_talk.proofs.AskLaws.{traffic-none, traffic-came, traffic-sent, front-all, front-behind, takes-none, used-takes, dropped-none}
use Rattle.ajp_talk.proofs.CourseLaws.{answer-length, front-length}
use Rattle.ajp_talk.proofs.TurnLaws.{failed_with, below-limit}

pub ping-is : (plan : TalkPlan) → plan.ping ≡ true → ping_of plan ≡ packet false (10 ∷ [])
ping-is plan e = cond-true plan.ping (packet false (10 ∷ [])) [] e

pong-of : (plan : TalkPlan) → plan.ping ≡ true → pong_of plan ≡ packet true (9 ∷ [])
pong-of plan e = cond-true plan.ping (packet true (9 ∷ [])) [] e

ping-length : (plan : TalkPlan) → length (ping_of plan) ≤ 5
ping-length plan =
    elim (cases_Bool plan.ping) [
      | inl wanted ↦ omega (arith, ap length (ping-is plan wanted))
      | inr none ↦ omega (arith, ap length (cond-false plan.ping (packet false (10 ∷ [])) [] none))
    ]

-- no CPing is wanted
pub not_wanted : (plan : TalkPlan) (l : Moment) (sent received : ℕ) → plan.ping ≡ false → 0 < plan.most → sent ≡ 0 → received ≡ 0 → IsPingAnswered plan l l sent received
not_wanted plan l sent received none some none_sent none_received =
    let ping : ping_of plan ≡ [] = cond-false plan.ping (packet false (10 ∷ [])) [] none in
    let pong : pong_of plan ≡ [] = cond-false plan.ping (packet true (9 ∷ [])) [] none in
    record {
      traffic = subst (λ (x : List ℕ). Traffic l l x (ping_of plan)) (sym pong) (subst (Traffic l l []) (sym ping) (traffic-none l));
      sent_is = none_sent ∙ sym (ap length ping);
      received_is = none_received ∙ sym (ap length pong);
      steady = refl;
      below = omega (arith, none_received, some);
    }

module _ (plan : TalkPlan) (l mid l' : Moment) (before sent received0 received : ℕ) where
  -- what went over the link up to here
  went : (put got : List ℕ) → Sends l mid before sent put → HasCome mid l' got → l'.sent ≡ mid.sent → Traffic l l' got put
  went put got d h same = traffic-came l mid l' [] [] got put (traffic-sent l l mid [] [] put before sent (traffic-none l) d) h same

  pub ping_line : plan.ping ≡ true → 0 < plan.most → before ≡ 0 → received ≡ 0 → (put : List ℕ) → Sends l mid before sent put → IsFrontOf put (packet false (10 ∷ [])) → Rose l.faults mid.faults
      → HasNoAnswer plan l mid sent received unheard_is.Line
  ping_line wanted some none_sent none_received put d front rose = record {
    rest = [];
    put = put;
    pings = wanted;
    traffic = traffic-sent l l mid [] [] put before sent (traffic-none l) d;
    sent_is = (let short = front-length put (packet false (10 ∷ [])) front in omega (arith, d.counts, none_sent, short));
    received_is = none_received;
    small = omega (arith, none_received);
    as_said = (omega (arith, none_received, some), subst (IsFrontOf put) (sym (ping-is plan wanted)) front, part-nil plan.packet, rose);
  }

  pub ping_wanted : plan.ping ≡ true → before ≡ 0 → received ≡ 0 → (put : List ℕ) → Sends l mid before sent put → IsFrontOf put (packet false (10 ∷ [])) → IsSteady l mid
      → HasNoAnswer plan l mid sent received unheard_is.NoMemory
  ping_wanted wanted none_sent none_received put d front steady = record {
    rest = [];
    put = put;
    pings = wanted;
    traffic = traffic-sent l l mid [] [] put before sent (traffic-none l) d;
    sent_is = (let short = front-length put (packet false (10 ∷ [])) front in omega (arith, d.counts, none_sent, short));
    received_is = none_received;
    small = omega (arith, none_received);
    as_said = (subst (IsFrontOf put) (sym (ping-is plan wanted)) front, steady);
  }

  sent-ping : plan.ping ≡ true → before ≡ 0 → Sends l mid before sent (packet false (10 ∷ [])) → sent ≡ length (ping_of plan)
  sent-ping wanted none_sent d = omega (arith, d.counts, none_sent, ap length (ping-is plan wanted))

  unanswered_with : (got : List ℕ) (why : Unheard) → plan.ping ≡ true → before ≡ 0 → received0 ≡ 0 → Sends l mid before sent (packet false (10 ∷ [])) → Came mid l' received0 received got
      → IsUnanswered plan l l' received got (packet false (10 ∷ [])) why → HasNoAnswer plan l l' sent received why
  unanswered_with got why wanted none_sent none_received d h said = record {
    rest = got;
    put = packet false (10 ∷ []);
    pings = wanted;
    traffic = went (packet false (10 ∷ [])) got d h.came h.sent;
    sent_is = omega (arith, d.counts, none_sent);
    received_is = omega (arith, h.counts, none_received, h.small);
    small = omega (arith, h.counts, none_received, h.small);
    as_said = said;
  }

  other_message : (message : Message) → plan.ping ≡ true → before ≡ 0 → received0 ≡ 0 → Sends l mid before sent (packet false (10 ∷ []))
      → IsHeard plan.packet plan.most mid l' received0 received message → (message ≡ Pong → ⊥) → HasNoAnswer plan l l' sent received unheard_is.Wrong
  other_message message wanted none_sent none_received d h other =
      unanswered_with h.bytes unheard_is.Wrong wanted none_sent none_received d h.came
      (h.below, sym (ping-is plan wanted), no_pong-other plan.packet message h.bytes h.is other)

  pub heard_pong : (message : Message) → plan.ping ≡ true → before ≡ 0 → received0 ≡ 0 → Sends l mid before sent (packet false (10 ∷ [])) → IsSteady l mid
      → IsHeard plan.packet plan.most mid l' received0 received message → IsGreeting plan l l' sent received (pong_only message)
  heard_pong (Headers parts) wanted none_sent none_received d steady h = other_message (Headers parts) wanted none_sent none_received d h (λ e. absurd cc)
  heard_pong (Chunk bytes) wanted none_sent none_received d steady h = other_message (Chunk bytes) wanted none_sent none_received d h (λ e. absurd cc)
  heard_pong (End reuse) wanted none_sent none_received d steady h = other_message (End reuse) wanted none_sent none_received d h (λ e. absurd cc)
  heard_pong (Ask n) wanted none_sent none_received d steady h = other_message (Ask n) wanted none_sent none_received d h (λ e. absurd cc)
  heard_pong Pong wanted none_sent none_received d steady h =
      let bytes : h.bytes ≡ pong_of plan = pong-is plan.packet h.bytes h.is ∙ sym (pong-of plan wanted) in
      record {
        traffic = subst (λ (x : List ℕ). Traffic l l' x (ping_of plan)) bytes
            (subst (Traffic l l' h.bytes) (sym (ping-is plan wanted)) (went (packet false (10 ∷ [])) h.bytes d h.came.came h.came.sent));
        sent_is = sent-ping wanted none_sent d;
        received_is = omega (arith, h.came.counts, none_received, h.came.small, ap length bytes);
        steady = h.steady ∙ steady;
        below = h.below;
      }

  pub unheard_pong : (why : Unheard) → plan.ping ≡ true → before ≡ 0 → received0 ≡ 0 → Sends l mid before sent (packet false (10 ∷ [])) → IsSteady l mid
      → IsUnheard plan.packet plan.most mid l' received0 received why → HasNoAnswer plan l l' sent received why
  unheard_pong unheard_is.Line wanted none_sent none_received d faults h =
      unanswered_with h.bytes unheard_is.Line wanted none_sent none_received d h.came
      (h.as_said.0, subst (λ (x : List ℕ). IsFrontOf (packet false (10 ∷ [])) x) (sym (ping-is plan wanted)) (front-all (packet false (10 ∷ []))), h.as_said.1, omega (arith, h.as_said.2, faults))
  unheard_pong unheard_is.Ended wanted none_sent none_received d faults h =
      unanswered_with h.bytes unheard_is.Ended wanted none_sent none_received d h.came (h.as_said.0, sym (ping-is plan wanted), h.as_said.1, h.as_said.2)
  unheard_pong unheard_is.Wrong wanted none_sent none_received d faults h =
      unanswered_with h.bytes unheard_is.Wrong wanted none_sent none_received d h.came
      (h.as_said.0, sym (ping-is plan wanted), no_pong-none plan.packet h.bytes h.as_said.1)
  unheard_pong unheard_is.TooLong wanted none_sent none_received d faults h =
      unanswered_with h.bytes unheard_is.TooLong wanted none_sent none_received d h.came (h.as_said.0, sym (ping-is plan wanted), h.as_said.1)
  unheard_pong unheard_is.NoMemory wanted none_sent none_received d faults h =
      unanswered_with h.bytes unheard_is.NoMemory wanted none_sent none_received d h.came
      (subst (λ (x : List ℕ). IsFrontOf (packet false (10 ∷ [])) x) (sym (ping-is plan wanted)) (front-all (packet false (10 ∷ []))), h.as_said.2 ∙ faults)

-- ---- no CPong came

module _ (plan : TalkPlan) (s n : TalkMoment) (sent received : ℕ) where
  no_pong : (cause : Cause) (rest put : List ℕ) → plan.ping ≡ true → Traffic s.line n.line rest put → sent ≡ length put → received ≡ length rest → received < 8589934592 → length put ≤ 5
      → IsPingCause plan s n rest cause → ((cause ≡ cause_is.TooLong) ↔ (plan.most ≤ received)) → SentFor cause put (ping_of plan)
      → n.client ≡ s.client → n.body ≡ s.body → HasNoPong plan s n (record { got = false; headers = false; passed = false; beyond = false }) cause None (counted sent received)
  no_pong cause rest put wanted traffic sent_is received_is small short why limit sends client body = record {
    rest = rest;
    put = put;
    pings = wanted;
    traffic = traffic;
    why = why;
    too_long = subst (λ (x : ℕ). (cause ≡ cause_is.TooLong) ↔ (plan.most ≤ x)) received_is limit;
    sent = sends;
    stage_is = refl;
    told_is = refl;
    counted = omega (arith, sent_is, received_is, small, short);
    client = client;
    body = body;
  }

  pub unanswered_talk : (want : NoMemory) (why : Unheard) → HasNoAnswer plan s.line n.line sent received why → n.client ≡ s.client → n.body ≡ s.body
      → IsTalk plan s n (unanswered_end want sent received why)
  unanswered_talk want unheard_is.Line h client body =
      let short = front-length h.put (ping_of plan) h.as_said.1 in
      let five = ping-length plan in
      inr (no_pong cause_is.Line h.rest h.put h.pings h.traffic h.sent_is h.received_is h.small (omega (arith, short, five)) (h.as_said.2, h.as_said.3)
      (below-limit cause_is.Line plan.most received (λ e. absurd cc) h.as_said.0) h.as_said.1 client body)
  unanswered_talk want unheard_is.Ended h client body =
      let five = ping-length plan in
      inr (no_pong cause_is.Ended h.rest h.put h.pings h.traffic h.sent_is h.received_is h.small (omega (arith, ap length h.as_said.1, five)) (h.as_said.2, h.as_said.3)
      (below-limit cause_is.Ended plan.most received (λ e. absurd cc) h.as_said.0) h.as_said.1 client body)
  unanswered_talk want unheard_is.Wrong h client body =
      let five = ping-length plan in
      inr (no_pong cause_is.BadReply h.rest h.put h.pings h.traffic h.sent_is h.received_is h.small (omega (arith, ap length h.as_said.1, five)) h.as_said.2
      (below-limit cause_is.BadReply plan.most received (λ e. absurd cc) h.as_said.0) h.as_said.1 client body)
  unanswered_talk want unheard_is.TooLong h client body =
      let five = ping-length plan in
      inr (no_pong cause_is.TooLong h.rest h.put h.pings h.traffic h.sent_is h.received_is h.small (omega (arith, ap length h.as_said.1, five)) h.as_said.2
      (λ e. h.as_said.0, λ reached. refl) h.as_said.1 client body)
  unanswered_talk want unheard_is.NoMemory h client body =
      inr (record { rest = h.rest; put = h.put; traffic = h.traffic; sent = h.as_said.0; client = client; body = body; steady = h.as_said.1 })

-- ---- the request

sealed-length : (bytes : List ℕ) → IsSealed bytes → length bytes ≤ 65539
sealed-length bytes h = let narrow = h.narrow in omega (arith, ap length h.whole)

first-length : (first : List ℕ) → length (first_packet first) ≤ length first + 6
first-length [] = omega arith
first-length (byte ∷ first) = answer-length (byte ∷ first)

pub forward-length : (plan : TalkPlan) → IsPlan plan → length plan.forward ≤ 65539
forward-length plan fit = sealed-length plan.forward fit.forward

request-length : (plan : TalkPlan) → IsPlan plan → length (request_of plan) ≤ 131100
request-length plan fit =
    omega (arith, sealed-length plan.forward fit.forward, first-length plan.first, length-append plan.forward (first_packet plan.first), fit.first, fit.piece)

module _ (plan : TalkPlan) (s n : TalkMoment) (mid : Moment) (before sent received : ℕ) where
  pub stand_begun : (put : List ℕ) → IsPlan plan → taken_of s.body.body ≡ length plan.first → failed_of s.body.body ≡ None → IsPingAnswered plan s.line mid before received
      → Sends mid n.line before sent put → IsFrontOf put (request_of plan) → n.client ≡ s.client → n.body ≡ s.body
      → Stands plan s n (fresh plan sent received) [] [] (ping_of plan ++ put)
  stand_begun put fit first going h d front client body =
      let short = front-length put (request_of plan) front in
      let long = request-length plan fit in
      let five = ping-length plan in
      let none : pong_of plan ++ [] ≡ pong_of plan = append-nil (pong_of plan) in
      let traffic = traffic-sent s.line mid n.line (pong_of plan) (ping_of plan) put before sent h.traffic d in
      record {
        accepts = record { spelled = refl; front = tt; unlisted = tt; within = tt };
        traffic = subst (λ (x : List ℕ). Traffic s.line n.line x (ping_of plan ++ put)) (sym none) traffic;
        written = ap (λ (w : Moment). w.sent) client ∙ sym (appended-nil s.client.sent);
        writer = refl;
        headers = refl;
        told = tt;
        sent = omega (arith, d.counts, h.sent_is, short, long, five, length-append (ping_of plan) put);
        received = h.received_is ∙ sym (ap length none);
        below = h.below;
        few = omega (arith, short, long, five, length-append (ping_of plan) put);
        taken = [];
        takes = subst (λ (b : BodyAt). TakesOfBody s.body b []) (sym body) (takes-none s.body going);
        left = ap data_at body ∙ dropped-none (data_at s.body);
        asked_for = omega arith;
        little = omega (arith, ap (λ (b : BodyAt). taken_of b.body) body, first, fit.first, fit.piece);
      }

  all-owed : (t : Option Data) → IfSome t (λ d. ping_of plan ++ request_of plan ≡ owed plan d [])
  all-owed None = tt
  all-owed (Some d) = sym (append-nil (opening plan))

  front-owed : (put : List ℕ) (t : Option Data) → IsFrontOf put (request_of plan) → IfSome t (λ d. IsFrontOf (ping_of plan ++ put) (owed plan d []))
  front-owed put None front = tt
  front-owed put (Some d) front = subst (IsFrontOf (ping_of plan ++ put)) (sym (append-nil (opening plan))) (front-behind (ping_of plan) put (request_of plan) front)

  pub begun : IsPlan plan → taken_of s.body.body ≡ length plan.first → failed_of s.body.body ≡ None → IsPingAnswered plan s.line mid before received
      → Sends mid n.line before sent (request_of plan) → IsSteady mid n.line → n.client ≡ s.client → n.body ≡ s.body → At plan s n (fresh plan sent received)
  begun fit first going h d steady client body = record {
    past = [];
    came = [];
    put = ping_of plan ++ request_of plan;
    stands = stand_begun (request_of plan) fit first going h d (front-all (request_of plan)) client body;
    owed = all-owed (data_at s.body);
    opened = front-all (opening plan);
    steady = steady ∙ h.steady;
  }

  pub request_failed : (put : List ℕ) → IsPlan plan → taken_of s.body.body ≡ length plan.first → failed_of s.body.body ≡ None → IsPingAnswered plan s.line mid before received
      → s.line.faults ≤ mid.faults → Sends mid n.line before sent put → IsFrontOf put (request_of plan) → Rose mid.faults n.line.faults → n.client ≡ s.client → n.body ≡ s.body
      → HasFailed plan s n (stage_end plan (fresh plan sent received) (taken_of n.body.body)) cause_is.Line (told_end (fresh plan sent received)) (bytes_end (fresh plan sent received))
  request_failed put fit first going h faults d front rose client body =
      let st = stand_begun put fit first going h d front client body in
      failed_with plan s n n (fresh plan sent received) (fresh plan sent received) [] [] (ping_of plan ++ put) [] None cause_is.Line fit first st st.traffic
      (refl, part-nil plan.packet, omega (arith, rose, faults))
      (below-limit cause_is.Line plan.most received (λ e. absurd cc) h.below)
      (inl (front-behind (ping_of plan) put (request_of plan) front)) (front-owed put (data_at s.body) front) (λ some. absurd cc) refl refl (record { sent = refl; passed = refl; told = refl }) refl st.received (omega (arith, h.below, fit.most))

  pub request_wanted : (put : List ℕ) → IsPlan plan → taken_of s.body.body ≡ length plan.first → failed_of s.body.body ≡ None → IsPingAnswered plan s.line mid before received
      → Sends mid n.line before sent put → IsFrontOf put (request_of plan) → IsSteady mid n.line → n.client ≡ s.client → n.body ≡ s.body → HasWanted plan s n
  request_wanted put fit first going h d front steady client body =
      let st = stand_begun put fit first going h d front client body in
      record {
        past = [];
        came = [];
        rest = [];
        put = ping_of plan ++ put;
        broken = record {
          spelled = refl;
          front = inl tt;
          traffic = st.traffic;
          opened = inl (front-behind (ping_of plan) put (request_of plan) front);
          sent = front-owed put (data_at s.body) front;
          written = all_put s.client.sent n.client.sent [] st.written;
          body = used-takes s.body n.body st.taken st.takes;
        };
        steady = steady ∙ h.steady;
      }

-- ---- the beginning, whatever the client and the body are

module _ (plan : TalkPlan) (l mid l' : Moment) (c : Course) (before sent received : ℕ) where
  -- the course so far is one where nothing of a reply came
  pub begins_on : IsPlan plan → c ≡ fresh plan sent received → IsPingAnswered plan l mid before received → Sends mid l' before sent (request_of plan) → IsSteady mid l'
      → BeginsCourse plan l l' c None
  begins_on fit is h d steady = λ w b first going.
      let s : TalkMoment = record { line = l; client = w; body = b } in
      let n : TalkMoment = record { line = l'; client = w; body = b } in
      subst (At plan s n) (sym is) (begun plan s n mid before sent received fit first going h d steady refl refl)

  pub begins_failed : (put : List ℕ) (taken : ℕ) → IsPlan plan → taken ≡ length plan.first → c ≡ fresh plan sent received → IsPingAnswered plan l mid before received → l.faults ≤ mid.faults
      → Sends mid l' before sent put → IsFrontOf put (request_of plan) → Rose mid.faults l'.faults → BeginsCourse plan l l' c (Some (Ok (failed_end plan c taken cause_is.Line)))
  begins_failed put taken fit counted is h faults d front rose = λ w b first going.
      let s : TalkMoment = record { line = l; client = w; body = b } in
      let n : TalkMoment = record { line = l'; client = w; body = b } in
      let end : IsTalk plan s n (Ok (failed_end plan (fresh plan sent received) (taken_of b.body) cause_is.Line)) =
      inl (request_failed plan s n mid before sent received put fit first going h faults d front rose refl refl) in
      subst (λ (k : Course). IsTalk plan s n (Ok (failed_end plan k taken cause_is.Line))) (sym is)
      (subst (λ (t : ℕ). IsTalk plan s n (Ok (failed_end plan (fresh plan sent received) t cause_is.Line))) (first ∙ sym counted) end)

  pub begins_wanted : (put : List ℕ) (want : NoMemory) → IsPlan plan → IsPingAnswered plan l mid before received
      → Sends mid l' before sent put → IsFrontOf put (request_of plan) → IsSteady mid l' → BeginsCourse plan l l' c (Some (Err want))
  begins_wanted put want fit h d front steady = λ w b first going.
      inl (request_wanted plan (record { line = l; client = w; body = b }) (record { line = l'; client = w; body = b }) mid before sent received put fit first going h d front steady refl refl)

pub begins_unanswered : (plan : TalkPlan) (l l' : Moment) (c : Course) (sent received : ℕ) (want : NoMemory) (why : Unheard) → HasNoAnswer plan l l' sent received why
    → BeginsCourse plan l l' c (Some (unanswered_end want sent received why))
begins_unanswered plan l l' c sent received want why h = λ w b first going.
    unanswered_talk plan (record { line = l; client = w; body = b }) (record { line = l'; client = w; body = b }) sent received want why h refl refl

-- what was counted since nothing of a reply had come
pub fresh-counts : (plan : TalkPlan) (c : Course) (sent received : ℕ) → c ≡ fresh plan 0 0 → record c { sent = sent; received = received } ≡ fresh plan sent received
fresh-counts plan c sent received e = ap (λ (k : Course). record k { sent = sent; received = received }) e
