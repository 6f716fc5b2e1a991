-- Why a talk failed, from how it stood and from what its last turn was.
use Rattle.std.proofs.Common.{◌≡◌, ℕ, ◌+◌, ◌≤◌, ◌<◌, ◌↔◌, Bool, true, false, not, List, [], ◌∷◌, ◌++◌, length, refl, sym, ap, subst, ◌∙◌, arith, append-nil, Option, Some, None, IfSome, IsSome, is_some, inl, inr}
use Rattle.std.specs.Prelude.{nat_le, nat_lt, if◌then◌else◌}
use Rattle.std.proofs.lemmas.Bool.{not-true}
use Rattle.std.proofs.lemmas.Option.{IfSome_then}
use Rattle.jk_io.specs.Told.{Rose}
use Rattle.ajp_wire.specs.Packet.{body_packet}
use Rattle.ajp_reply.specs.declared.message.Message.{Message}
use Rattle.ajp_reply.specs.declared.message.Message.TheVariants.{Headers, Chunk, End, Ask, Pong}
use Rattle.ajp_reply.specs.declared.message.ReplyParts.{ReplyParts}
use Rattle.ajp_reply.specs.Stream.{IsFront, IsForm, head_of}
use Rattle.ajp_reply.proofs.StreamLaws.{no_reply-other, no_reply-none}
use Rattle.http_front.specs.State.{taken_of}
use Rattle.http_out.specs.Framing.{is_beyond, is_complete}
use Rattle.http_out.specs.Writer.{Writer, framing_now}
use Rattle.jk_io.specs.Moments.{Moment}
use Rattle.ajp_talk.specs.Moments.{BodyAt, TalkMoment, data_at, Traffic, IsSteady, TakesOfBody, IsFrontOf}
use Rattle.ajp_talk.specs.Replies.{is_good, kind_of, chunks_of, sum_of, framing_in, exceeds, agrees, passed_of, told_of_talk}
use Rattle.ajp_talk.specs.Owed.{want, asked, answer, behind_first, pong_of, opening, owed}
use Rattle.ajp_talk.specs.Talk.{IsCause, OpensFor, SentFor, HasFailed, with_refused}
use Rattle.ajp_talk.specs.Courses.{writer_for, Stands, At}
use Rattle.ajp_talk.specs.Turns.{Came, IsHeard, IsUnheard, Sends, GivesData, IsHeadFailure, IsChunkFailure, IsAskTurn, Acts, IsTurn, IsUntaken, turn_of}
use Rattle.ajp_talk.specs.Ends.{IsPlan, stage_end, told_end, bytes_end}
use Rattle.ajp_talk.specs.declared.plan.TalkPlan.{TalkPlan}
use Rattle.ajp_talk.specs.declared.course.Course.{Course}
use Rattle.ajp_reply.specs.declared.stage.Stage.{Stage}
use Rattle.ajp_talk.specs.declared.ending.Cause.{Cause}
use Rattle.ajp_talk.specs.declared.ending.Cause.TheVariants as cause_is
use Rattle.ajp_talk.specs.declared.turn.Turn.TheVariants as turn_is
use Rattle.ajp_talk.specs.declared.turn.Unheard.{Unheard}
use Rattle.ajp_talk.specs.declared.turn.Unheard.TheVariants as unheard_is
use Rattle.ajp_talk.proofs.MessageLaws.{no_second-head, no_bad-head, no_chunk-first, no_end-first, part-nil}
use Rattle.ajp_talk.proofs.ReplyLaws.{some-of, none-of, writer-passed, told-is}
use Rattle.ajp_talk.proofs.AskLaws.{traffic-came, untaken-data, untaken-same, front-behind, front-longer}
use Rattle.ajp_talk.proofs.CourseLaws.{Next, next, longer, stand_ask, chunk-sum, end-sum, both-then, owed-answer, owed-longer}

-- the course after a message that was refused: nothing more was sent or written
pub record Keeps (c c' : Course) : Type 0 where
  pub sent : c'.sent ≡ c.sent
  pub passed : c'.writer.passed ≡ c.writer.passed
  pub told : told_end c' ≡ told_end c

same-stage : (g g' : Bool) (h h' p p' b b' : Bool) → g ≡ g' → h ≡ h' → p ≡ p' → b ≡ b'
    → ◌≡◌ {A = Stage} (record { got = g; headers = h; passed = p; beyond = b }) (record { got = g'; headers = h'; passed = p'; beyond = b' })
same-stage g g' h h' p p' b b' e f i j = cc

pub passed-is : (plan : TalkPlan) (s m : TalkMoment) (c : Course) (past : List Message) (came put : List ℕ) → Stands plan s m c past came put
    → c.writer.passed ≡ passed_of plan past
passed-is plan s m c past came put st = ap (λ (w : Writer). w.passed) st.writer ∙ writer-passed (kind_of plan) (head_of past) (chunks_of past)

pub tells : (plan : TalkPlan) (s m : TalkMoment) (c : Course) (past : List Message) (came put : List ℕ) → Stands plan s m c past came put
    → told_end c ≡ told_of_talk plan past
tells plan s m c past came put st =
    ap (λ (w : Writer). if w.passed then Some c.told else None) st.writer ∙ told-is (kind_of plan) (head_of past) (chunks_of past) c.told st.told

-- both counts together fit
pub bytes-are : (c : Course) (put got : List ℕ) → c.sent ≡ length put → c.received ≡ length got → length put < 4611686018427387904 → c.received < 4611686018427387904
    → bytes_end c ≡ length put + length got
bytes-are c put got sent received few small = omega arith

pub few-sent : (plan : TalkPlan) (s m : TalkMoment) (c : Course) (past : List Message) (came put : List ℕ) → IsPlan plan → Stands plan s m c past came put
    → length put < 4611686018427387904
few-sent plan s m c past came put fit st = omega (arith, st.few, st.below, fit.most)

pub failed_with : (plan : TalkPlan) (s m n : TalkMoment) (c c' : Course) (past : List Message) (came put rest : List ℕ) (refused : Option Message) (cause : Cause)
    → IsPlan plan → taken_of s.body.body ≡ length plan.first → Stands plan s m c past came put
    → Traffic s.line n.line (pong_of plan ++ (came ++ rest)) put → IsCause plan s n past came rest refused cause
    → ((cause ≡ cause_is.TooLong) ↔ (plan.most ≤ c'.received)) → OpensFor cause put (opening plan) → IfSome (data_at s.body) (λ d. SentFor cause put (owed plan d past))
    → (IsSome refused → IsSteady s.line n.line) → n.client.sent ≡ m.client.sent → n.body ≡ m.body → Keeps c c' → c'.headers ≡ is_some (head_of (with_refused refused past))
    → c'.received ≡ length (pong_of plan ++ (came ++ rest)) → c'.received < 4611686018427387904
    → HasFailed plan s n (stage_end plan c' (taken_of n.body.body)) cause (told_end c') (bytes_end c')
failed_with plan s m n c c' past came put rest refused cause fit first st traffic why limit opened sent steady written body keeps headers received small =
    let sent_is : c'.sent ≡ length put = keeps.sent ∙ st.sent in
    record {
      past = past;
      came = came;
      rest = rest;
      put = put;
      refused = refused;
      accepts = st.accepts;
      traffic = traffic;
      why = why;
      too_long = subst (λ (x : ℕ). (cause ≡ cause_is.TooLong) ↔ (plan.most ≤ x)) received limit;
      opened = opened;
      sent = sent;
      steady = steady;
      written = written ∙ st.written;
      stage_is = same-stage _ _ _ _ _ _ _ _ (ap (nat_le (length (opening plan))) sent_is) headers
          (keeps.passed ∙ passed-is plan s m c past came put st) (ap (λ (x : ℕ). nat_lt x (taken_of n.body.body)) (sym first));
      told_is = keeps.told ∙ tells plan s m c past came put st;
      counted = bytes-are c' put (pong_of plan ++ (came ++ rest)) sent_is received (few-sent plan s m c past came put fit st) small;
      taken = st.taken;
      takes = subst (λ (b : BodyAt). TakesOfBody s.body b st.taken) (sym body) st.takes;
      left = ap data_at body ∙ st.left;
      asked_for = st.asked_for;
      again = λ same. untaken-data s.body n.body st.taken (subst (λ (b : BodyAt). TakesOfBody s.body b st.taken) (sym body) st.takes) same;
    }

-- all was sent where the cause isn't the link
sent-whole : (cause : Cause) (put owed : List ℕ) → (cause ≡ cause_is.NoLink → ⊥) → put ≡ owed → SentFor cause put owed
sent-whole cause_is.NoLink put owed no_link e = absurd (no_link refl)
sent-whole cause_is.Line put owed no_link e = record { rest = []; joined = sym e ∙ sym (append-nil put) }
sent-whole cause_is.Ended put owed no_link e = e
sent-whole cause_is.BadReply put owed no_link e = e
sent-whole cause_is.Disagree put owed no_link e = e
sent-whole cause_is.TooLong put owed no_link e = e
sent-whole (cause_is.Status status) put owed no_link e = e

all-sent : (cause : Cause) (plan : TalkPlan) (s : TalkMoment) (past : List Message) (put : List ℕ) → (cause ≡ cause_is.NoLink → ⊥)
    → IfSome (data_at s.body) (λ d. put ≡ owed plan d past) → IfSome (data_at s.body) (λ d. SentFor cause put (owed plan d past))
all-sent cause plan s past put no_link sent = IfSome_then (data_at s.body) sent (λ d e. sent-whole cause put (owed plan d past) no_link e)

-- and the opening went out whole
opens-whole : (cause : Cause) (put opens : List ℕ) → (cause ≡ cause_is.NoLink → ⊥) → IsFrontOf opens put → OpensFor cause put opens
opens-whole cause_is.NoLink put opens no_link e = absurd (no_link refl)
opens-whole cause_is.Line put opens no_link e = inr e
opens-whole cause_is.Ended put opens no_link e = e
opens-whole cause_is.BadReply put opens no_link e = e
opens-whole cause_is.Disagree put opens no_link e = e
opens-whole cause_is.TooLong put opens no_link e = e
opens-whole (cause_is.Status status) put opens no_link e = e

-- below the limit the cause is another one
pub below-limit : (cause : Cause) (most count : ℕ) → (cause ≡ cause_is.TooLong → ⊥) → count < most → (cause ≡ cause_is.TooLong) ↔ (most ≤ count)
below-limit cause most count other below = (λ e. absurd (other e), λ reached. absurd (omega arith))

module _ (plan : TalkPlan) (s m n : TalkMoment) (c c' : Course) where
  -- ---- no message came

  silent : (past : List Message) (came put : List ℕ) (cause : Cause) (rest : List ℕ)
      → IsPlan plan → taken_of s.body.body ≡ length plan.first → Stands plan s m c past came put → IfSome (data_at s.body) (λ d. put ≡ owed plan d past) → IsFrontOf (opening plan) put
      → Came m.line n.line c.received c'.received rest → c' ≡ record c { received = c'.received } → n.client ≡ m.client → IsUntaken m.body n.body
      → (cause ≡ cause_is.NoLink → ⊥) → IsCause plan s n past came rest None cause → ((cause ≡ cause_is.TooLong) ↔ (plan.most ≤ c'.received))
      → HasFailed plan s n (stage_end plan c' (taken_of n.body.body)) cause (told_end c') (bytes_end c')
  silent past came put cause rest fit first st sent opened h is client body no_link why limit =
      let exact : c'.received ≡ c.received + length rest = omega (arith, h.counts, h.small, st.below, fit.most) in
      let received : c'.received ≡ length (pong_of plan ++ (came ++ rest)) = omega (arith, exact, st.received, longer (pong_of plan) came rest) in
      failed_with plan s m n c c' past came put rest None cause fit first st
      (traffic-came s.line m.line n.line (pong_of plan) came rest put st.traffic h.came h.sent)
      why limit (opens-whole cause put (opening plan) no_link opened) (all-sent cause plan s past put no_link sent) (λ some. absurd cc) (ap (λ (w : Moment). w.sent) client) (untaken-same m.body n.body body)
      (record { sent = ap (λ (x : Course). x.sent) is; passed = ap (λ (x : Course). x.writer.passed) is; told = ap told_end is })
      (ap (λ (x : Course). x.headers) is ∙ st.headers)
      received (omega (arith, exact, h.small, st.below, fit.most))

  rose_since : (l : Moment) → s.line.faults ≤ m.line.faults → Rose m.line.faults n.line.faults → Rose s.line.faults n.line.faults
  rose_since l earlier rose = omega arith

  pub silent_failed : (a : At plan s m c) (cause : Cause) (why : Unheard) → IsPlan plan → taken_of s.body.body ≡ length plan.first → s.line.faults ≤ m.line.faults
      → turn_is.Failed cause ≡ turn_of why → IsUnheard plan.packet plan.most m.line n.line c.received c'.received why
      → c' ≡ record c { received = c'.received } → n.client ≡ m.client → IsUntaken m.body n.body
      → HasFailed plan s n (stage_end plan c' (taken_of n.body.body)) cause (told_end c') (bytes_end c')
  silent_failed a cause unheard_is.Line fit first faults e h is client body =
      let same : cause ≡ cause_is.Line = cc in
      subst (λ (x : Cause). HasFailed plan s n (stage_end plan c' (taken_of n.body.body)) x (told_end c') (bytes_end c')) (sym same)
      (silent a.past a.came a.put cause_is.Line h.bytes fit first a.stands a.owed a.opened h.came is client body (λ e'. absurd cc)
      (refl, h.as_said.1, omega (arith, h.as_said.2)) (below-limit cause_is.Line plan.most c'.received (λ e'. absurd cc) h.as_said.0))
  silent_failed a cause unheard_is.Ended fit first faults e h is client body =
      let same : cause ≡ cause_is.Ended = cc in
      subst (λ (x : Cause). HasFailed plan s n (stage_end plan c' (taken_of n.body.body)) x (told_end c') (bytes_end c')) (sym same)
      (silent a.past a.came a.put cause_is.Ended h.bytes fit first a.stands a.owed a.opened h.came is client body (λ e'. absurd cc)
      (refl, h.as_said.1, h.as_said.2) (below-limit cause_is.Ended plan.most c'.received (λ e'. absurd cc) h.as_said.0))
  silent_failed a cause unheard_is.Wrong fit first faults e h is client body =
      let same : cause ≡ cause_is.BadReply = cc in
      subst (λ (x : Cause). HasFailed plan s n (stage_end plan c' (taken_of n.body.body)) x (told_end c') (bytes_end c')) (sym same)
      (silent a.past a.came a.put cause_is.BadReply h.bytes fit first a.stands a.owed a.opened h.came is client body (λ e'. absurd cc)
      (h.as_said.1, no_reply-none is_good plan.packet a.past a.came h.bytes a.stands.accepts.spelled a.stands.accepts.front h.as_said.1)
      (below-limit cause_is.BadReply plan.most c'.received (λ e'. absurd cc) h.as_said.0))
  silent_failed a cause unheard_is.TooLong fit first faults e h is client body =
      let same : cause ≡ cause_is.TooLong = cc in
      subst (λ (x : Cause). HasFailed plan s n (stage_end plan c' (taken_of n.body.body)) x (told_end c') (bytes_end c')) (sym same)
      (silent a.past a.came a.put cause_is.TooLong h.bytes fit first a.stands a.owed a.opened h.came is client body (λ e'. absurd cc)
      (refl, h.as_said.1) (λ e'. h.as_said.0, λ reached. refl))
  silent_failed a cause unheard_is.NoMemory fit first faults e h is client body = absurd cc

  -- ---- a message came that was refused

  -- what the course keeps of one that had read this far
  refused_with : (message : Message) (count : ℕ) (past : List Message) (came put bytes : List ℕ) (cause : Cause)
      → IsPlan plan → taken_of s.body.body ≡ length plan.first → Stands plan s m c past came put → IfSome (data_at s.body) (λ d. put ≡ owed plan d past)
      → Next plan s n.line c count message past came put bytes → c'.received ≡ count → Keeps c c'
      → (cause ≡ cause_is.NoLink → ⊥) → (cause ≡ cause_is.TooLong → ⊥) → IsCause plan s n past came bytes (Some message) cause
      → c'.headers ≡ is_some (head_of (message ∷ past)) → n.client.sent ≡ m.client.sent → n.body ≡ m.body
      → HasFailed plan s n (stage_end plan c' (taken_of n.body.body)) cause (told_end c') (bytes_end c')
  refused_with message count past came put bytes cause fit first st sent nx received keeps no_link no_limit why headers written body =
      failed_with plan s m n c c' past came put bytes (Some message) cause fit first st nx.traffic why
      (below-limit cause plan.most c'.received no_limit (omega (arith, received, nx.below)))
      (opens-whole cause put (opening plan) no_link nx.opened) (all-sent cause plan s past put no_link sent) (λ some. nx.steady) written body keeps headers (received ∙ nx.counts) (omega (arith, received, nx.below, fit.most))

  -- a message that may not stand there
  wrong_with : (message : Message) (count : ℕ) (past : List Message) (came put bytes : List ℕ)
      → IsPlan plan → taken_of s.body.body ≡ length plan.first → Stands plan s m c past came put → IfSome (data_at s.body) (λ d. put ≡ owed plan d past)
      → Next plan s n.line c count message past came put bytes → c'.received ≡ count → Keeps c c'
      → (IsFront is_good (message ∷ past) → ⊥) → (IsForm is_good (message ∷ past) → ⊥)
      → c'.headers ≡ is_some (head_of (message ∷ past)) → n.client.sent ≡ m.client.sent → n.body ≡ m.body
      → HasFailed plan s n (stage_end plan c' (taken_of n.body.body)) cause_is.BadReply (told_end c') (bytes_end c')
  wrong_with message count past came put bytes fit first st sent nx received keeps no_front no_form headers written body =
      refused_with message count past came put bytes cause_is.BadReply fit first st sent nx received keeps (λ e. absurd cc) (λ e. absurd cc)
      ((nx.is, no_front, no_form), no_reply-other is_good plan.packet past came bytes message st.accepts.spelled nx.is no_front no_form)
      headers written body

  -- the course as it had read this far
  abbrev pub read_to : ℕ → Course
  read_to count = record c { received = count }

  head_failed : (a : At plan s m c) (cause : Cause) (parts : ReplyParts) (count : ℕ) (bytes : List ℕ) → IsPlan plan → taken_of s.body.body ≡ length plan.first
      → Next plan s n.line c count (Headers parts) a.past a.came a.put bytes → IsHeadFailure plan parts (read_to count) c' cause
      → n.client ≡ m.client → n.body ≡ m.body
      → HasFailed plan s n (stage_end plan c' (taken_of n.body.body)) cause (told_end c') (bytes_end c')
  head_failed a cause_is.BadReply parts count bytes fit first nx h client body =
      wrong_with (Headers parts) count a.past a.came a.put bytes fit first a.stands a.owed nx (ap (λ (x : Course). x.received) h.1)
      (record { sent = ap (λ (x : Course). x.sent) h.1; passed = ap (λ (x : Course). x.writer.passed) h.1; told = ap told_end h.1 })
      (λ front. elim h.0 [
        | inl second ↦ no_second-head a.past parts (sym a.stands.headers ∙ second) front
        | inr bad ↦ no_bad-head a.past parts bad front
      ])
      (λ form. form) (ap (λ (x : Course). x.headers) h.1) (ap (λ (w : Moment). w.sent) client) body
  head_failed a (cause_is.Status status) parts count bytes fit first nx h client body =
      let none : head_of a.past ≡ None = none-of (head_of a.past) (sym a.stands.headers ∙ h.0) in
      let not_passed : c.writer.passed ≡ false =
      ap (λ (w : Writer). w.passed) a.stands.writer ∙ ap (λ (o : Option ReplyParts). (writer_for (kind_of plan) o (chunks_of a.past)).passed) none in
      let told : told_end c' ≡ told_end c =
      ap told_end h.4
      ∙ ap (λ (b : Bool). if b then Some (record { status = parts.status; body = 0 }) else None) not_passed
      ∙ sym (ap (λ (b : Bool). if b then Some c.told else None) not_passed) in
      refused_with (Headers parts) count a.past a.came a.put bytes (cause_is.Status status) fit first a.stands a.owed nx (ap (λ (x : Course). x.received) h.4)
      (record { sent = ap (λ (x : Course). x.sent) h.4; passed = ap (λ (x : Course). x.writer.passed) h.4; told = told })
      (λ e. absurd cc) (λ e. absurd cc) (parts, refl, nx.is, none, h.1, h.2, h.3)
      (ap (λ (x : Course). x.headers) h.4) (ap (λ (w : Moment). w.sent) client) body
  head_failed a cause_is.NoLink parts count bytes fit first nx h client body = absurd h
  head_failed a cause_is.Line parts count bytes fit first nx h client body = absurd h
  head_failed a cause_is.Ended parts count bytes fit first nx h client body = absurd h
  head_failed a cause_is.Disagree parts count bytes fit first nx h client body = absurd h
  head_failed a cause_is.TooLong parts count bytes fit first nx h client body = absurd h

  kept-read : (count : ℕ) → c' ≡ read_to count → Keeps c c'
  kept-read count is = record { sent = ap (λ (x : Course). x.sent) is; passed = ap (λ (x : Course). x.writer.passed) is; told = ap told_end is }

  chunk_failed : (a : At plan s m c) (cause : Cause) (chunk : List ℕ) (count : ℕ) (bytes : List ℕ) → IsPlan plan → taken_of s.body.body ≡ length plan.first
      → Next plan s n.line c count (Chunk chunk) a.past a.came a.put bytes
      → IsChunkFailure (read_to count) c' m.client n.client (is_beyond (framing_now c.writer) (length chunk)) cause → n.body ≡ m.body
      → HasFailed plan s n (stage_end plan c' (taken_of n.body.body)) cause (told_end c') (bytes_end c')
  chunk_failed a cause_is.BadReply chunk count bytes fit first nx h body =
      wrong_with (Chunk chunk) count a.past a.came a.put bytes fit first a.stands a.owed nx (ap (λ (x : Course). x.received) h.1) (kept-read count h.1)
      (λ front. no_chunk-first a.past chunk (sym a.stands.headers ∙ h.0) front) (λ form. form)
      (ap (λ (x : Course). x.headers) h.1 ∙ a.stands.headers) h.2 body
  chunk_failed a cause_is.Disagree chunk count bytes fit first nx h body =
      let some = sym a.stands.headers ∙ h.0 in
      let head = some-of (head_of a.past) some in
      let sum = chunk-sum (kind_of plan) (head_of a.past) (chunks_of a.past) c.writer (length chunk) true a.stands.writer some a.stands.accepts.within h.1 in
      refused_with (Chunk chunk) count a.past a.came a.put bytes cause_is.Disagree fit first a.stands a.owed nx (ap (λ (x : Course). x.received) h.2) (kept-read count h.2)
      (λ e. absurd cc) (λ e. absurd cc)
      (Chunk chunk, refl, nx.is, (head.0, head.1, subst (λ (o : Option ReplyParts). IfSome o (λ parts. exceeds (framing_in plan parts) (sum_of (chunks_of a.past) + length chunk) ≡ true)) head.1 sum))
      (ap (λ (x : Course). x.headers) h.2 ∙ a.stands.headers) h.3 body
  chunk_failed a cause_is.NoLink chunk count bytes fit first nx h body = absurd h
  chunk_failed a cause_is.Line chunk count bytes fit first nx h body = absurd h
  chunk_failed a cause_is.Ended chunk count bytes fit first nx h body = absurd h
  chunk_failed a cause_is.TooLong chunk count bytes fit first nx h body = absurd h
  chunk_failed a (cause_is.Status status) chunk count bytes fit first nx h body = absurd h

  end_failed : (a : At plan s m c) (cause : Cause) (reuse : Bool) (count : ℕ) (bytes : List ℕ) → IsPlan plan → taken_of s.body.body ≡ length plan.first
      → Next plan s n.line c count (End reuse) a.past a.came a.put bytes
      → IsChunkFailure (read_to count) c' m.client n.client (not (is_complete (framing_now c.writer))) cause → n.body ≡ m.body
      → HasFailed plan s n (stage_end plan c' (taken_of n.body.body)) cause (told_end c') (bytes_end c')
  end_failed a cause_is.BadReply reuse count bytes fit first nx h body =
      wrong_with (End reuse) count a.past a.came a.put bytes fit first a.stands a.owed nx (ap (λ (x : Course). x.received) h.1) (kept-read count h.1)
      (λ front. front) (λ form. no_end-first a.past reuse (sym a.stands.headers ∙ h.0) form)
      (ap (λ (x : Course). x.headers) h.1 ∙ a.stands.headers) h.2 body
  end_failed a cause_is.Disagree reuse count bytes fit first nx h body =
      let some = sym a.stands.headers ∙ h.0 in
      let head = some-of (head_of a.past) some in
      let sum = end-sum (kind_of plan) (head_of a.past) (chunks_of a.past) c.writer false a.stands.writer some a.stands.accepts.within (not-true _ h.1) in
      refused_with (End reuse) count a.past a.came a.put bytes cause_is.Disagree fit first a.stands a.owed nx (ap (λ (x : Course). x.received) h.2) (kept-read count h.2)
      (λ e. absurd cc) (λ e. absurd cc)
      (End reuse, refl, nx.is, (head.0, head.1, subst (λ (o : Option ReplyParts). IfSome o (λ parts. agrees (framing_in plan parts) (sum_of (chunks_of a.past)) ≡ false)) head.1 sum))
      (ap (λ (x : Course). x.headers) h.2 ∙ a.stands.headers) h.3 body
  end_failed a cause_is.NoLink reuse count bytes fit first nx h body = absurd h
  end_failed a cause_is.Line reuse count bytes fit first nx h body = absurd h
  end_failed a cause_is.Ended reuse count bytes fit first nx h body = absurd h
  end_failed a cause_is.TooLong reuse count bytes fit first nx h body = absurd h
  end_failed a (cause_is.Status status) reuse count bytes fit first nx h body = absurd h

  -- the link failed while an ask was answered
  ask_broken : (a : At plan s m c) (ask count : ℕ) (l : Moment) (bytes piece more : List ℕ) → IsPlan plan → taken_of s.body.body ≡ length plan.first → s.line.faults ≤ l.faults
      → Next plan s l c count (Ask ask) a.past a.came a.put bytes → GivesData (want plan.piece ask) m.body n.body piece → Sends l n.line c.sent c'.sent more
      → IsFrontOf more (body_packet piece) → Rose l.faults n.line.faults → c' ≡ record c { received = count; sent = c'.sent } → n.client.sent ≡ m.client.sent
      → HasFailed plan s n (stage_end plan c' (taken_of n.body.body)) cause_is.Line (told_end c') (bytes_end c')
  ask_broken a ask count l bytes piece more fit first faults nx gives sends front rose is written =
      let st = stand_ask plan s m n l c c' count ask piece more a.past a.came a.put bytes fit a.stands nx gives sends front is written in
      let owed_then = owed-answer plan s.body m.body n.body ask piece a.past a.stands.left gives in
      let sent = both-then (data_at s.body) _ _ (λ d. IsFrontOf (a.put ++ more) (owed plan d (Ask ask ∷ a.past))) a.owed owed_then
      (λ d e f. subst (λ (x : List ℕ). IsFrontOf (a.put ++ more) x) (sym (owed-longer plan d ask a.past ∙ ap (λ (x : List ℕ). x ++ answer (want plan.piece ask) (behind_first (asked plan.piece a.past) d)) (sym e)))
      (front-behind a.put more (answer (want plan.piece ask) (behind_first (asked plan.piece a.past) d)) (subst (IsFrontOf more) f front))) in
      let all : (a.came ++ bytes) ++ [] ≡ a.came ++ bytes = append-nil (a.came ++ bytes) in
      failed_with plan s n n c' c' (Ask ask ∷ a.past) (a.came ++ bytes) (a.put ++ more) [] None cause_is.Line fit first st
      (subst (λ (x : List ℕ). Traffic s.line n.line (pong_of plan ++ x) (a.put ++ more)) (sym all) st.traffic)
      (refl, part-nil plan.packet, omega arith)
      (below-limit cause_is.Line plan.most c'.received (λ e. absurd cc) st.below) (inr (front-longer (opening plan) a.put more a.opened)) sent (λ some. absurd cc) refl refl
      (record { sent = refl; passed = refl; told = refl }) st.headers (st.received ∙ ap (λ (x : List ℕ). length (pong_of plan ++ x)) (sym all))
      (omega (arith, st.below, fit.most))

  ask_failed : (a : At plan s m c) (cause : Cause) (ask count : ℕ) (l : Moment) (bytes : List ℕ) → IsPlan plan → taken_of s.body.body ≡ length plan.first → s.line.faults ≤ l.faults
      → Next plan s l c count (Ask ask) a.past a.came a.put bytes
      → IsAskTurn (want plan.piece ask) (record { line = l; client = m.client; body = m.body }) n c.sent c'.sent (turn_is.Failed cause)
      → c' ≡ record c { received = count; sent = c'.sent } → n.client.sent ≡ m.client.sent
      → HasFailed plan s n (stage_end plan c' (taken_of n.body.body)) cause (told_end c') (bytes_end c')
  ask_failed a cause_is.Line ask count l bytes fit first faults nx (piece, more, gives, sends, front, rose) is written =
      ask_broken a ask count l bytes piece more fit first faults nx gives sends front rose is written
  ask_failed a cause_is.NoLink ask count l bytes fit first faults nx h is written = absurd h
  ask_failed a cause_is.Ended ask count l bytes fit first faults nx h is written = absurd h
  ask_failed a cause_is.BadReply ask count l bytes fit first faults nx h is written = absurd h
  ask_failed a cause_is.Disagree ask count l bytes fit first faults nx h is written = absurd h
  ask_failed a cause_is.TooLong ask count l bytes fit first faults nx h is written = absurd h
  ask_failed a (cause_is.Status status) ask count l bytes fit first faults nx h is written = absurd h

  -- a message that was refused, whatever it is
  moved_failed : (a : At plan s m c) (cause : Cause) (message : Message) (mid : Moment) (count : ℕ) → IsPlan plan → taken_of s.body.body ≡ length plan.first
      → s.line.faults ≤ m.line.faults → IsHeard plan.packet plan.most m.line mid c.received count message
      → Acts plan message (read_to count) c' mid n.line m.client n.client m.body n.body (turn_is.Failed cause)
      → HasFailed plan s n (stage_end plan c' (taken_of n.body.body)) cause (told_end c') (bytes_end c')
  moved_failed a cause (Headers parts) mid count fit first faults h acts =
      let nx = next plan s m mid c count (Headers parts) a.past a.came a.put fit a.stands a.opened a.steady h in
      head_failed a cause parts count h.bytes fit first (subst (λ (l : Moment). Next plan s l c count (Headers parts) a.past a.came a.put h.bytes) (sym acts.1) nx) acts.0 acts.2 (untaken-same m.body n.body acts.3)
  moved_failed a cause (Chunk chunk) mid count fit first faults h acts =
      let nx = next plan s m mid c count (Chunk chunk) a.past a.came a.put fit a.stands a.opened a.steady h in
      chunk_failed a cause chunk count h.bytes fit first (subst (λ (l : Moment). Next plan s l c count (Chunk chunk) a.past a.came a.put h.bytes) (sym acts.1) nx) acts.0 (untaken-same m.body n.body acts.2)
  moved_failed a cause (End reuse) mid count fit first faults h acts =
      let nx = next plan s m mid c count (End reuse) a.past a.came a.put fit a.stands a.opened a.steady h in
      end_failed a cause reuse count h.bytes fit first (subst (λ (l : Moment). Next plan s l c count (End reuse) a.past a.came a.put h.bytes) (sym acts.1) nx) acts.0 (untaken-same m.body n.body acts.2)
  moved_failed a cause (Ask ask) mid count fit first faults h acts =
      let nx = next plan s m mid c count (Ask ask) a.past a.came a.put fit a.stands a.opened a.steady h in
      let later = h.came.no_fewer in
      ask_failed a cause ask count mid h.bytes fit first (omega (arith, later)) nx acts.0 acts.1 acts.2
  moved_failed a cause Pong mid count fit first faults h acts =
      let nx = next plan s m mid c count Pong a.past a.came a.put fit a.stands a.opened a.steady h in
      let same : cause ≡ cause_is.BadReply = (let e = acts.0 in cc) in
      subst (λ (x : Cause). HasFailed plan s n (stage_end plan c' (taken_of n.body.body)) x (told_end c') (bytes_end c')) (sym same)
      (wrong_with Pong count a.past a.came a.put h.bytes fit first a.stands a.owed (subst (λ (l : Moment). Next plan s l c count Pong a.past a.came a.put h.bytes) (sym acts.2) nx)
      (ap (λ (x : Course). x.received) acts.1) (kept-read count acts.1) (λ front. front) (λ form. form)
      (ap (λ (x : Course). x.headers) acts.1 ∙ a.stands.headers) (ap (λ (w : Moment). w.sent) acts.3) (untaken-same m.body n.body acts.4))

  pub failed : (a : At plan s m c) (cause : Cause) → IsPlan plan → taken_of s.body.body ≡ length plan.first → s.line.faults ≤ m.line.faults
      → IsTurn plan m n c c' (turn_is.Failed cause) → HasFailed plan s n (stage_end plan c' (taken_of n.body.body)) cause (told_end c') (bytes_end c')
  failed a cause fit first faults (inl t) = silent_failed a cause t.why fit first faults t.turn_is t.unheard t.course t.client t.body
  failed a cause fit first faults (inr t) = moved_failed a cause t.message t.mid t.count fit first faults t.heard t.acts
