-- How a talk goes on, and how it ends otherwise than by a failure, from how it stood and from what its last turn was.
use Rattle.ajp_reply.proofs.StreamLaws.{one_reading}
use Rattle.std.proofs.Common.{◌≡◌, ℕ, ◌+◌, ◌≤◌, ◌<◌, Bool, true, false, List, [], ◌∷◌, ◌++◌, length, take, drop, refl, sym, ap, subst, ◌∙◌, arith, append-nil, length-append, length-take, length-drop, Option, Some, None, IfSome, inl, inr, ◌⊎◌}
use Rattle.std.specs.Option.{option_map}
use Rattle.std.proofs.lemmas.Option.{IfSome_then}
use Rattle.jk_io.specs.Told.{appended, PutsFront}
use Rattle.jk_io.proofs.ToldLaws.{appended-appended, all_put, then_put}
use Rattle.ajp_wire.specs.Packet.{body_packet}
use Rattle.ajp_reply.specs.declared.message.Message.{Message}
use Rattle.ajp_reply.specs.declared.message.Message.TheVariants.{Headers, Chunk, End, Ask, Pong}
use Rattle.ajp_reply.specs.Stream.{IsFront, IsForm, head_of, Spelled}
use Rattle.http_front.specs.Body.{Data, reaches, behind, dropped}
use Rattle.http_front.specs.State.{taken_of, most_of}
use Rattle.http_out.specs.Own.{status_of}
use Rattle.http_out.specs.declared.own_answers.Own.{Own}
use Rattle.http_out.specs.Writer.{Writer, IsOpenReply, chunk_bytes, end_bytes}
use Rattle.jk_io.specs.Moments.{Moment}
use Rattle.ajp_talk.specs.Moments.{BodyAt, TalkMoment, data_at, Traffic, IsSteady, TakesOfBody, IsUsed, IsFrontOf}
use Rattle.ajp_talk.specs.Replies.{is_good, kind_of, chunks_of, so_far_of_talk, bytes_for, told_by}
use Rattle.ajp_talk.specs.Owed.{want, asked, answer, behind_first, pong_of, opening, owed}
use Rattle.ajp_talk.specs.Talk.{IsDone, IsGone, IsBrokenOff, HasBadBody, IsBadBody, HasWanted, IsNoEnd}
use Rattle.ajp_talk.specs.Talk as halt_is
use Rattle.ajp_talk.specs.Courses.{At}
use Rattle.ajp_talk.specs.Turns.{IsHeard, IsUnheard, Sends, GivesData, IsEndTurn, Acts, IsTurn, IsUntaken, IsOnCourse, turn_of}
use Rattle.ajp_talk.specs.Ends.{IsPlan, told_end, bytes_end}
use Rattle.ajp_talk.specs.declared.plan.TalkPlan.{TalkPlan}
use Rattle.ajp_talk.specs.declared.course.Course.{Course}
use Rattle.ajp_talk.specs.declared.ending.Told.{Told}
use Rattle.ajp_talk.specs.declared.ending.Cause.{Cause}
use Rattle.ajp_talk.specs.declared.ending.Cause.TheVariants as cause_is
use Rattle.ajp_talk.specs.declared.turn.Turn.{Turn}
use Rattle.ajp_talk.specs.declared.turn.Turn.TheVariants as turn_is
use Rattle.ajp_talk.specs.declared.turn.Unheard.{Unheard}
use Rattle.ajp_talk.specs.declared.turn.Unheard.TheVariants as unheard_is
use Rattle.ajp_talk.proofs.ReplyLaws.{writer-open, writer-fresh}
use Rattle.ajp_talk.proofs.AskLaws.{traffic-came, traffic-sent, untaken-same, front-all, front-none, front-behind, front-longer, left-then, reaches-behind, used-takes, used-then, takes-data, takes-limited}
use Rattle.ajp_talk.proofs.CourseLaws.{Next, next, stand_head, stand_chunk, stand_ask, end-sum, end-written, chunk-written, both-then, owed-answer, owed-longer, want-piece}
use Rattle.ajp_talk.proofs.TurnLaws.{bytes-are, few-sent, passed-is, tells}

-- no turn of these kinds comes where no message came
pub no_turn : (why : Unheard) (turn : Turn) → turn ≡ turn_of why → ((cause : Cause) → turn ≡ turn_is.Failed cause → ⊥) → (turn ≡ turn_is.NoMemory → ⊥) → ⊥
no_turn unheard_is.Line turn e failed want = failed cause_is.Line e
no_turn unheard_is.Ended turn e failed want = failed cause_is.Ended e
no_turn unheard_is.Wrong turn e failed want = failed cause_is.BadReply e
no_turn unheard_is.TooLong turn e failed want = failed cause_is.TooLong e
no_turn unheard_is.NoMemory turn e failed want = want e

-- where an ask came last no reply ended
no_end-ask : (plan : TalkPlan) (ask : ℕ) (past : List Message) (bytes : List ℕ) → Spelled plan.packet (Ask ask ∷ past) bytes → IsNoEnd plan bytes
no_end-ask plan ask past bytes s = λ all r below.
    let same : Ask ask ∷ past ≡ End true ∷ all = one_reading plan.packet (Ask ask ∷ past) (End true ∷ all) bytes s r.spelled in
    absurd cc

-- the limit is reached at the same data, whether it is counted from the first or from what is left of it
limit-behind : (a k start now most most' : ℕ) (taken : List ℕ) (s m : Option Data) → m ≡ dropped a s → s ≡ option_map (behind taken) m
    → now ≡ start + length taken → most' ≡ most → IfSome m (λ d. most' ≤ now + length (take k d.bytes))
    → IfSome s (λ d. most ≤ start + length (take (a + k) d.bytes))
limit-behind a k start now most most' taken None m left joined counted same h = tt
limit-behind a k start now most most' taken (Some d) None left joined counted same h = absurd cc
limit-behind a k start now most most' taken (Some d) (Some e) left joined counted same h =
    let rest : e.bytes ≡ drop a d.bytes = cc in
    let whole : d.bytes ≡ taken ++ e.bytes = cc in
    omega (arith, h, counted, same, ap length rest, ap length whole, length-append taken e.bytes, length-drop a d.bytes, length-take k e.bytes, length-take (a + k) d.bytes)

module _ (plan : TalkPlan) (s m n : TalkMoment) (c c' : Course) where
  abbrev read_to : ℕ → Course
  read_to count = record c { received = count }

  abbrev pub NextAt : At plan s m c → Moment → ℕ → Message → List ℕ → Type 0
  NextAt a l count message bytes = Next plan s l c count message a.past a.came a.put bytes

  -- ---- it goes on

  owed-same : (a : At plan s m c) → IfSome (data_at s.body) (λ d. a.put ≡ owed plan d a.past)
  owed-same a = a.owed

  on_ask : (a : At plan s m c) (ask count : ℕ) (l : Moment) (bytes piece : List ℕ) → IsPlan plan → NextAt a l count (Ask ask) bytes
      → GivesData (want plan.piece ask) m.body n.body piece → Sends l n.line c.sent c'.sent (body_packet piece) → IsSteady l n.line
      → c' ≡ record c { received = count; sent = c'.sent } → n.client.sent ≡ m.client.sent → At plan s n c'
  on_ask a ask count l bytes piece fit nx gives sends steady is written = record {
    past = Ask ask ∷ a.past;
    came = a.came ++ bytes;
    put = a.put ++ body_packet piece;
    stands = stand_ask plan s m n l c c' count ask piece (body_packet piece) a.past a.came a.put bytes fit a.stands nx gives sends (front-all (body_packet piece)) is written;
    owed = both-then (data_at s.body) _ _ (λ d. a.put ++ body_packet piece ≡ owed plan d (Ask ask ∷ a.past)) a.owed
        (owed-answer plan s.body m.body n.body ask piece a.past a.stands.left gives)
        (λ d e f. ap (λ (x : List ℕ). x ++ body_packet piece) e ∙ ap (λ (x : List ℕ). owed plan d a.past ++ x) f ∙ sym (owed-longer plan d ask a.past));
    opened = front-longer (opening plan) a.put (body_packet piece) a.opened;
    steady = steady ∙ nx.steady;
  }

  on_message : (a : At plan s m c) (message : Message) (mid : Moment) (count : ℕ) → IsPlan plan → IsHeard plan.packet plan.most m.line mid c.received count message
      → Acts plan message (read_to count) c' mid n.line m.client n.client m.body n.body turn_is.On → At plan s n c'
  on_message a (Headers parts) mid count fit h acts =
      let nx = next plan s m mid c count (Headers parts) a.past a.came a.put fit a.stands a.opened a.steady h in
      record {
        past = Headers parts ∷ a.past;
        came = a.came ++ h.bytes;
        put = a.put;
        owed = a.owed;
        opened = a.opened;
        steady = ap (λ (l : Moment). l.faults) acts.1 ∙ nx.steady;
        stands = stand_head plan s m n c c' count parts a.past a.came a.put h.bytes a.stands
            (subst (λ (l : Moment). NextAt a l count (Headers parts) h.bytes) (sym acts.1) nx)
            acts.0.0 acts.0.1 acts.0.2 acts.0.3 acts.2 (untaken-same m.body n.body acts.3);
      }
  on_message a (Chunk chunk) mid count fit h acts =
      let nx = next plan s m mid c count (Chunk chunk) a.past a.came a.put fit a.stands a.opened a.steady h in
      record {
        past = Chunk chunk ∷ a.past;
        came = a.came ++ h.bytes;
        put = a.put;
        owed = a.owed;
        opened = a.opened;
        steady = ap (λ (l : Moment). l.faults) acts.1 ∙ nx.steady;
        stands = stand_chunk plan s m n c c' count chunk a.past a.came a.put h.bytes fit a.stands
            (subst (λ (l : Moment). NextAt a l count (Chunk chunk) h.bytes) (sym acts.1) nx)
            acts.0.0 acts.0.1 acts.0.2 acts.0.3 (untaken-same m.body n.body acts.2);
      }
  on_message a (End reuse) mid count fit h acts = absurd acts.0
  on_message a (Ask ask) mid count fit h acts =
      let nx = next plan s m mid c count (Ask ask) a.past a.came a.put fit a.stands a.opened a.steady h in
      on_ask a ask count mid h.bytes acts.0.0 fit nx acts.0.1 acts.0.2 acts.0.3 acts.1 acts.2
  on_message a Pong mid count fit h acts = absurd (let e = acts.0 in cc)

  pub on : (a : At plan s m c) → IsPlan plan → IsTurn plan m n c c' turn_is.On → At plan s n c'
  on a fit (inl t) = absurd (no_turn t.why turn_is.On t.turn_is (λ cause e. absurd cc) (λ e. absurd cc))
  on a fit (inr t) = on_message a t.message t.mid t.count fit t.heard t.acts

  -- ---- it is done

  done_end-at : (a : At plan s m c) (reuse : Bool) (count : ℕ) (bytes : List ℕ) → IsPlan plan → NextAt a n.line count (End reuse) bytes
      → IsEndTurn reuse (read_to count) c' m.client n.client (turn_is.Done reuse) → n.body ≡ m.body → IsDone plan s n c'.told reuse (bytes_end c')
  done_end-at a reuse count bytes fit nx h body =
      let some = sym a.stands.headers ∙ h.1 in
      let received : c'.received ≡ count = ap (λ (x : Course). x.received) h.3 in
      let sent : c'.sent ≡ length a.put = ap (λ (x : Course). x.sent) h.3 ∙ a.stands.sent in
      record {
        past = a.past;
        came = a.came ++ bytes;
        put = a.put;
        reply = record {
          spelled = nx.spelled;
          form = (some, a.stands.accepts.front);
          sum = end-sum (kind_of plan) (head_of a.past) (chunks_of a.past) c.writer true a.stands.writer some a.stands.accepts.within h.2;
        };
        unlisted = a.stands.accepts.unlisted;
        traffic = nx.traffic;
        below = omega (arith, nx.counts, nx.below);
        opened = a.opened;
        sent = a.owed;
        steady = nx.steady;
        written = h.4 ∙ ap (λ (o : Option (List ℕ)). appended o (end_bytes c.writer)) a.stands.written
            ∙ appended-appended s.client.sent (so_far_of_talk plan a.past) (end_bytes c.writer)
            ∙ ap (appended s.client.sent) (sym (end-written (kind_of plan) (head_of a.past) (chunks_of a.past) c.writer a.stands.writer some));
        told_is = subst (λ (t : Told). IfSome (head_of a.past) (λ parts. t ≡ told_by (kind_of plan) parts (chunks_of a.past))) (sym (ap (λ (x : Course). x.told) h.3)) a.stands.told;
        counted = bytes-are c' a.put (pong_of plan ++ (a.came ++ bytes)) sent (received ∙ nx.counts) (few-sent plan s m c a.past a.came a.put fit a.stands) (omega (arith, received, nx.below, fit.most));
        taken = a.stands.taken;
        takes = subst (λ (b : BodyAt). TakesOfBody s.body b a.stands.taken) (sym body) a.stands.takes;
        left = ap data_at body ∙ a.stands.left;
      }

  done_message : (a : At plan s m c) (reuse : Bool) (message : Message) (mid : Moment) (count : ℕ) → IsPlan plan → IsHeard plan.packet plan.most m.line mid c.received count message
      → Acts plan message (read_to count) c' mid n.line m.client n.client m.body n.body (turn_is.Done reuse) → IsDone plan s n c'.told reuse (bytes_end c')
  done_message a reuse (Headers parts) mid count fit h acts = absurd acts.0
  done_message a reuse (Chunk chunk) mid count fit h acts = absurd acts.0
  done_message a reuse (End again) mid count fit h acts =
      let nx = next plan s m mid c count (End again) a.past a.came a.put fit a.stands a.opened a.steady h in
      let same : again ≡ reuse = sym acts.0.0 in
      done_end-at a reuse count h.bytes fit
      (subst (λ (r : Bool). NextAt a n.line count (End r) h.bytes) same (subst (λ (l : Moment). NextAt a l count (End again) h.bytes) (sym acts.1) nx))
      (refl, acts.0.1, acts.0.2, acts.0.3, acts.0.4) (untaken-same m.body n.body acts.2)
  done_message a reuse (Ask ask) mid count fit h acts = absurd acts.0
  done_message a reuse Pong mid count fit h acts = absurd (let e = acts.0 in cc)

  pub done : (a : At plan s m c) (reuse : Bool) → IsPlan plan → IsTurn plan m n c c' (turn_is.Done reuse) → IsDone plan s n c'.told reuse (bytes_end c')
  done a reuse fit (inl t) = absurd (no_turn t.why (turn_is.Done reuse) t.turn_is (λ cause e. absurd cc) (λ e. absurd cc))
  done a reuse fit (inr t) = done_message a reuse t.message t.mid t.count fit t.heard t.acts

  -- ---- at an ask nothing was sent

  -- what stands after an ask that wasn't answered
  abbrev Unsent : At plan s m c → ℕ → List ℕ → Type 0
  Unsent a ask bytes = (Traffic s.line n.line (pong_of plan ++ (a.came ++ bytes)) a.put) × (c'.sent ≡ length a.put)
      × (c'.received ≡ length (pong_of plan ++ (a.came ++ bytes))) × (c'.received < plan.most)

  sends-none : (a : At plan s m c) (ask count : ℕ) (l : Moment) (bytes : List ℕ) → IsPlan plan → NextAt a l count (Ask ask) bytes → Sends l n.line c.sent c'.sent []
      → c' ≡ record c { received = count; sent = c'.sent } → Unsent a ask bytes
  sends-none a ask count l bytes fit nx sends is =
      let received : c'.received ≡ count = ap (λ (x : Course). x.received) is in
      let st = a.stands in (
        subst (Traffic s.line n.line (pong_of plan ++ (a.came ++ bytes))) (append-nil a.put)
            (traffic-sent s.line l n.line (pong_of plan ++ (a.came ++ bytes)) a.put [] c.sent c'.sent nx.traffic sends),
        omega (arith, sends.counts, st.sent, st.few, st.below, fit.most),
        received ∙ nx.counts,
        omega (arith, received, nx.below),
      )

  -- the data that the talk began with is at fault
  asked-of : (a : At plan s m c) (ask : ℕ) (b : Bool) → IsPlan plan → IfSome (data_at m.body) (λ d. (reaches (want plan.piece ask) d ≡ false) × (d.bad ≡ b))
      → IfSome (data_at s.body) (λ d. (reaches (asked plan.piece (Ask ask ∷ a.past)) d ≡ false) × (d.bad ≡ b))
  asked-of a ask b fit h =
      left-then (asked plan.piece a.past) (data_at s.body) (data_at m.body) _ _ a.stands.left
      (λ d f. (sym (reaches-behind (asked plan.piece a.past) (want plan.piece ask) d (want-piece plan ask fit).0) ∙ f.0, f.1)) h

  -- the limit was reached by what the body had at first
  limit-of : (a : At plan s m c) (k : ℕ) → IfSome (data_at m.body) (λ d. most_of m.body.body ≤ taken_of m.body.body + length (take k d.bytes))
      → IfSome (data_at s.body) (λ d. most_of s.body.body ≤ taken_of s.body.body + length (take (asked plan.piece a.past + k) d.bytes))
  limit-of a k h =
      let st = a.stands in
      limit-behind (asked plan.piece a.past) k (taken_of s.body.body) (taken_of m.body.body) (most_of s.body.body) (most_of m.body.body) st.taken
      (data_at s.body) (data_at m.body) st.left (takes-data s.body m.body st.taken st.takes) st.takes.counted st.takes.most h

  -- what an ask that wasn't answered whole leaves broken off
  ask_broken : (a : At plan s m c) (ask count : ℕ) (l : Moment) (bytes more : List ℕ) → NextAt a l count (Ask ask) bytes
      → Sends l n.line c.sent c'.sent more → IfSome (data_at m.body) (λ d. IsFrontOf more (answer (want plan.piece ask) d)) → IsUsed m.body n.body
      → n.client.sent ≡ m.client.sent → IsBrokenOff plan s n (Ask ask ∷ a.past) (a.came ++ bytes) [] (a.put ++ more)
  ask_broken a ask count l bytes more nx sends front used written =
      let st = a.stands in
      let all : (a.came ++ bytes) ++ [] ≡ a.came ++ bytes = append-nil (a.came ++ bytes) in
      let then_front : IfSome (data_at s.body) (λ d. IsFrontOf more (answer (want plan.piece ask) (behind_first (asked plan.piece a.past) d))) =
      left-then (asked plan.piece a.past) (data_at s.body) (data_at m.body) _ _ st.left (λ d f. f) front in
      record {
        spelled = nx.spelled;
        front = inl st.accepts.front;
        traffic = subst (λ (x : List ℕ). Traffic s.line n.line (pong_of plan ++ x) (a.put ++ more)) (sym all)
            (traffic-sent s.line l n.line (pong_of plan ++ (a.came ++ bytes)) a.put more c.sent c'.sent nx.traffic sends);
        sent = both-then (data_at s.body) _ _ (λ d. IsFrontOf (a.put ++ more) (owed plan d (Ask ask ∷ a.past))) a.owed then_front
            (λ d e f. subst (λ (x : List ℕ). IsFrontOf (a.put ++ more) x) (sym (owed-longer plan d ask a.past ∙ ap (λ (x : List ℕ). x ++ answer (want plan.piece ask) (behind_first (asked plan.piece a.past) d)) (sym e)))
            (front-behind a.put more (answer (want plan.piece ask) (behind_first (asked plan.piece a.past) d)) f));
        opened = inr (front-longer (opening plan) a.put more a.opened);
        written = all_put s.client.sent n.client.sent (so_far_of_talk plan a.past) (written ∙ st.written);
        body = used-then s.body m.body n.body (used-takes s.body m.body st.taken st.takes) used;
      }

  nothing-sent : (k : ℕ) (t : Option Data) → IfSome t (λ d. IsFrontOf [] (answer k d))
  nothing-sent k None = tt
  nothing-sent k (Some d) = front-none (answer k d)

  -- nothing was sent for the ask
  unsent_broken : (a : At plan s m c) (ask count : ℕ) (l : Moment) (bytes : List ℕ) → NextAt a l count (Ask ask) bytes
      → Sends l n.line c.sent c'.sent [] → IsUsed m.body n.body → n.client.sent ≡ m.client.sent
      → IsBrokenOff plan s n (Ask ask ∷ a.past) (a.came ++ bytes) [] a.put
  unsent_broken a ask count l bytes nx sends used written =
      subst (IsBrokenOff plan s n (Ask ask ∷ a.past) (a.came ++ bytes) []) (append-nil a.put)
      (ask_broken a ask count l bytes [] nx sends (nothing-sent (want plan.piece ask) (data_at m.body)) used written)

  unsent-bytes : (a : At plan s m c) (ask : ℕ) (bytes : List ℕ) → IsPlan plan → Unsent a ask bytes
      → bytes_end c' ≡ length a.put + length (pong_of plan ++ ((a.came ++ bytes) ++ []))
  unsent-bytes a ask bytes fit u =
      subst (λ (x : List ℕ). bytes_end c' ≡ length a.put + length (pong_of plan ++ x)) (sym (append-nil (a.came ++ bytes)))
      (bytes-are c' a.put (pong_of plan ++ (a.came ++ bytes)) u.1 u.2 (few-sent plan s m c a.past a.came a.put fit a.stands) (omega (arith, u.3, fit.most)))

  -- ---- the client is gone

  whole-ask : (ask : ℕ) (past : List Message) (came : List ℕ) → Spelled plan.packet (Ask ask ∷ past) came → Spelled plan.packet (Ask ask ∷ past) (came ++ [])
  whole-ask ask past came spelled = subst (Spelled plan.packet (Ask ask ∷ past)) (sym (append-nil came)) spelled

  cut_message : (a : At plan s m c) (message : Message) (mid : Moment) (count : ℕ) → IsPlan plan → IsHeard plan.packet plan.most m.line mid c.received count message
      → Acts plan message (read_to count) c' mid n.line m.client n.client m.body n.body turn_is.Cut → IsGone plan s n true false (bytes_end c')
  cut_message a (Headers parts) mid count fit h acts = absurd acts.0
  cut_message a (Chunk chunk) mid count fit h acts = absurd acts.0
  cut_message a (End reuse) mid count fit h acts = absurd acts.0
  cut_message a (Ask ask) mid count fit h acts =
      let nx = next plan s m mid c count (Ask ask) a.past a.came a.put fit a.stands a.opened a.steady h in
      let u = sends-none a ask count mid h.bytes fit nx acts.0.0 acts.1 in
      record {
        past = Ask ask ∷ a.past;
        came = a.came ++ h.bytes;
        rest = [];
        put = a.put;
        broken = unsent_broken a ask count mid h.bytes nx acts.0.0 acts.0.2 acts.2;
        opened = a.opened;
        below = omega (arith, u.2, u.3);
        lost = (acts.2 ∙ a.stands.written, a.owed);
        counted = unsent-bytes a ask h.bytes fit u;
        ended = λ e. (refl, acts.2 ∙ a.stands.written, asked-of a ask false fit acts.0.3);
        failed = λ e. absurd cc;
        kept = λ e. absurd cc;
        closed = λ e. inr (no_end-ask plan ask a.past ((a.came ++ h.bytes) ++ []) (whole-ask ask a.past (a.came ++ h.bytes) nx.spelled));
        halted = λ e goes. (halt_is.Asked, (ask, a.past, whole-ask ask a.past (a.came ++ h.bytes) nx.spelled));
        at_once = λ e. refl;
      }
  cut_message a Pong mid count fit h acts = absurd (let e = acts.0 in cc)

  pub cut : (a : At plan s m c) → IsPlan plan → IsTurn plan m n c c' turn_is.Cut → IsGone plan s n true false (bytes_end c')
  cut a fit (inl t) = absurd (no_turn t.why turn_is.Cut t.turn_is (λ cause e. absurd cc) (λ e. absurd cc))
  cut a fit (inr t) = cut_message a t.message t.mid t.count fit t.heard t.acts

  unread_message : (a : At plan s m c) (message : Message) (mid : Moment) (count : ℕ) → IsPlan plan → s.client.faults ≤ m.client.faults
      → IsHeard plan.packet plan.most m.line mid c.received count message
      → Acts plan message (read_to count) c' mid n.line m.client n.client m.body n.body turn_is.Unread → IsGone plan s n false false (bytes_end c')
  unread_message a (Headers parts) mid count fit faults h acts = absurd acts.0
  unread_message a (Chunk chunk) mid count fit faults h acts = absurd acts.0
  unread_message a (End reuse) mid count fit faults h acts = absurd acts.0
  unread_message a (Ask ask) mid count fit faults h acts =
      let nx = next plan s m mid c count (Ask ask) a.past a.came a.put fit a.stands a.opened a.steady h in
      let u = sends-none a ask count mid h.bytes fit nx acts.0.0 acts.1 in
      record {
        past = Ask ask ∷ a.past;
        came = a.came ++ h.bytes;
        rest = [];
        put = a.put;
        broken = unsent_broken a ask count mid h.bytes nx acts.0.0 acts.0.1 acts.2;
        opened = a.opened;
        below = omega (arith, u.2, u.3);
        lost = (acts.2 ∙ a.stands.written, a.owed);
        counted = unsent-bytes a ask h.bytes fit u;
        ended = λ e. absurd cc;
        failed = λ e. omega (arith, acts.0.2, faults);
        kept = λ e. absurd cc;
        closed = λ e. inr (no_end-ask plan ask a.past ((a.came ++ h.bytes) ++ []) (whole-ask ask a.past (a.came ++ h.bytes) nx.spelled));
        halted = λ e goes. (halt_is.Asked, (ask, a.past, whole-ask ask a.past (a.came ++ h.bytes) nx.spelled));
        at_once = λ e. refl;
      }
  unread_message a Pong mid count fit faults h acts = absurd (let e = acts.0 in cc)

  pub unread : (a : At plan s m c) → IsPlan plan → s.client.faults ≤ m.client.faults → IsTurn plan m n c c' turn_is.Unread → IsGone plan s n false false (bytes_end c')
  unread a fit faults (inl t) = absurd (no_turn t.why turn_is.Unread t.turn_is (λ cause e. absurd cc) (λ e. absurd cc))
  unread a fit faults (inr t) = unread_message a t.message t.mid t.count fit faults t.heard t.acts

  -- ---- the body is bad

  bad-why : (a : At plan s m c) (ask status : ℕ) → IsPlan plan → IsBadBody m.body (want plan.piece ask) status → IsBadBody s.body (asked plan.piece (Ask ask ∷ a.past)) status
  bad-why a ask status fit (inl h) = inl (h.0, asked-of a ask true fit h.1)
  bad-why a ask status fit (inr h) = inr (h.0, takes-limited s.body m.body a.stands.taken a.stands.takes h.1, limit-of a (want plan.piece ask) h.2)

  bad_message : (a : At plan s m c) (own : Own) (message : Message) (mid : Moment) (count : ℕ) → IsPlan plan → IsHeard plan.packet plan.most m.line mid c.received count message
      → Acts plan message (read_to count) c' mid n.line m.client n.client m.body n.body (turn_is.Bad own)
      → HasBadBody plan s n (status_of own) (told_end c') c'.writer.passed (bytes_end c')
  bad_message a own (Headers parts) mid count fit h acts = absurd acts.0
  bad_message a own (Chunk chunk) mid count fit h acts = absurd acts.0
  bad_message a own (End reuse) mid count fit h acts = absurd acts.0
  bad_message a own (Ask ask) mid count fit h acts =
      let st = a.stands in
      let nx = next plan s m mid c count (Ask ask) a.past a.came a.put fit st a.opened a.steady h in
      let u = sends-none a ask count mid h.bytes fit nx acts.0.0 acts.1 in
      record {
        ask = ask;
        past = a.past;
        came = a.came ++ h.bytes;
        put = a.put;
        accepts = record { spelled = nx.spelled; front = st.accepts.front; unlisted = st.accepts.unlisted; within = st.accepts.within };
        traffic = u.0;
        below = omega (arith, u.2, u.3);
        opened = a.opened;
        sent = a.owed;
        steady = acts.0.1 ∙ nx.steady;
        written = acts.2 ∙ st.written;
        why = bad-why a ask (status_of own) fit acts.0.3;
        told_is = ap told_end acts.1 ∙ tells plan s m c a.past a.came a.put st;
        passed_is = ap (λ (x : Course). x.writer.passed) acts.1 ∙ passed-is plan s m c a.past a.came a.put st;
        counted = bytes-are c' a.put (pong_of plan ++ (a.came ++ h.bytes)) u.1 u.2 (few-sent plan s m c a.past a.came a.put fit st) (omega (arith, u.3, fit.most));
        body = used-then s.body m.body n.body (used-takes s.body m.body st.taken st.takes) acts.0.2;
      }
  bad_message a own Pong mid count fit h acts = absurd (let e = acts.0 in cc)

  pub bad : (a : At plan s m c) (own : Own) → IsPlan plan → IsTurn plan m n c c' (turn_is.Bad own) → HasBadBody plan s n (status_of own) (told_end c') c'.writer.passed (bytes_end c')
  bad a own fit (inl t) = absurd (no_turn t.why (turn_is.Bad own) t.turn_is (λ cause e. absurd cc) (λ e. absurd cc))
  bad a own fit (inr t) = bad_message a own t.message t.mid t.count fit t.heard t.acts

  -- ---- memory was wanted

  -- nothing was made of what came after the accepted messages
  still_broken : (a : At plan s m c) (rest : List ℕ) → Traffic s.line n.line (pong_of plan ++ (a.came ++ rest)) a.put → n.client.sent ≡ m.client.sent → n.body ≡ m.body
      → IsSteady s.line n.line → HasWanted plan s n
  still_broken a rest traffic written body steady = record {
    past = a.past;
    came = a.came;
    rest = rest;
    put = a.put;
    steady = steady;
    broken = record {
      spelled = a.stands.accepts.spelled;
      front = inl a.stands.accepts.front;
      traffic = traffic;
      sent = IfSome_then (data_at s.body) a.owed (λ d e. subst (λ (x : List ℕ). IsFrontOf x (owed plan d a.past)) (sym e) (front-all (owed plan d a.past)));
      opened = inr a.opened;
      written = all_put s.client.sent n.client.sent (bytes_for plan a.past) (written ∙ a.stands.written ∙ ap (appended s.client.sent) (so_far-for a.past a.stands.accepts.front));
      body = used-takes s.body n.body a.stands.taken (subst (λ (b : BodyAt). TakesOfBody s.body b a.stands.taken) (sym body) a.stands.takes);
    };
  }
    where
      so_far-for : (past : List Message) → IsFront is_good past → so_far_of_talk plan past ≡ bytes_for plan past
      so_far-for [] front = refl
      so_far-for (Headers parts ∷ past) front = refl
      so_far-for (Chunk chunk ∷ past) front = refl
      so_far-for (End reuse ∷ past) front = absurd front
      so_far-for (Ask ask ∷ past) front = refl
      so_far-for (Pong ∷ past) front = absurd front

  -- a write of the message's bytes broke off
  write_broken : (a : At plan s m c) (message : Message) (count : ℕ) (bytes more : List ℕ) → NextAt a n.line count message bytes
      → PutsFront m.client.sent n.client.sent more → so_far_of_talk plan a.past ++ more ≡ bytes_for plan (message ∷ a.past)
      → (IsFront is_good (message ∷ a.past) ⊎ IsForm is_good (message ∷ a.past))
      → ((d : Data) → owed plan d (message ∷ a.past) ≡ owed plan d a.past) → n.body ≡ m.body
      → IsBrokenOff plan s n (message ∷ a.past) (a.came ++ bytes) [] a.put
  write_broken a message count bytes more nx puts whole front same body =
      let all : (a.came ++ bytes) ++ [] ≡ a.came ++ bytes = append-nil (a.came ++ bytes) in
      record {
        spelled = nx.spelled;
        front = front;
        traffic = subst (λ (x : List ℕ). Traffic s.line n.line (pong_of plan ++ x) a.put) (sym all) nx.traffic;
        sent = IfSome_then (data_at s.body) a.owed (λ d e. subst (λ (x : List ℕ). IsFrontOf x (owed plan d (message ∷ a.past))) (same d ∙ sym e) (front-all (owed plan d (message ∷ a.past))));
        opened = inr a.opened;
        written = subst (PutsFront s.client.sent n.client.sent) whole
            (then_put s.client.sent m.client.sent n.client.sent (so_far_of_talk plan a.past) more a.stands.written puts);
        body = used-takes s.body n.body a.stands.taken (subst (λ (b : BodyAt). TakesOfBody s.body b a.stands.taken) (sym body) a.stands.takes);
      }

  pub chunk_broken : (a : At plan s m c) (chunk : List ℕ) (count : ℕ) (bytes : List ℕ) → NextAt a n.line count (Chunk chunk) bytes → c.headers ≡ true
      → PutsFront m.client.sent n.client.sent (chunk_bytes c.writer chunk) → n.body ≡ m.body
      → IsBrokenOff plan s n (Chunk chunk ∷ a.past) (a.came ++ bytes) [] a.put
  chunk_broken a chunk count bytes nx some puts body =
      let head = sym a.stands.headers ∙ some in
      write_broken a (Chunk chunk) count bytes (chunk_bytes c.writer chunk) nx puts
      (sym (chunk-written (kind_of plan) (head_of a.past) (chunks_of a.past) c.writer chunk a.stands.writer head))
      (inl (head, a.stands.accepts.front)) (λ d. refl) body

  pub end_broken : (a : At plan s m c) (reuse : Bool) (count : ℕ) (bytes : List ℕ) → NextAt a n.line count (End reuse) bytes → c.headers ≡ true
      → PutsFront m.client.sent n.client.sent (end_bytes c.writer) → n.body ≡ m.body
      → IsBrokenOff plan s n (End reuse ∷ a.past) (a.came ++ bytes) [] a.put
  end_broken a reuse count bytes nx some puts body =
      let head = sym a.stands.headers ∙ some in
      write_broken a (End reuse) count bytes (end_bytes c.writer) nx puts
      (sym (end-written (kind_of plan) (head_of a.past) (chunks_of a.past) c.writer a.stands.writer head))
      (inr (head, a.stands.accepts.front)) (λ d. refl) body

  wanted_message : (a : At plan s m c) (message : Message) (mid : Moment) (count : ℕ) → IsPlan plan → IsHeard plan.packet plan.most m.line mid c.received count message
      → Acts plan message (read_to count) c' mid n.line m.client n.client m.body n.body turn_is.NoMemory → HasWanted plan s n
  wanted_message a (Headers parts) mid count fit h acts =
      let nx = next plan s m mid c count (Headers parts) a.past a.came a.put fit a.stands a.opened a.steady h in
      still_broken a h.bytes (subst (λ (l : Moment). Traffic s.line l (pong_of plan ++ (a.came ++ h.bytes)) a.put) (sym acts.1) nx.traffic)
      (ap (λ (w : Moment). w.sent) acts.2) (untaken-same m.body n.body acts.3) (ap (λ (l : Moment). l.faults) acts.1 ∙ nx.steady)
  wanted_message a (Chunk chunk) mid count fit h acts =
      let nx = next plan s m mid c count (Chunk chunk) a.past a.came a.put fit a.stands a.opened a.steady h in
      record {
        past = Chunk chunk ∷ a.past;
        came = a.came ++ h.bytes;
        rest = [];
        put = a.put;
        broken = chunk_broken a chunk count h.bytes (subst (λ (l : Moment). NextAt a l count (Chunk chunk) h.bytes) (sym acts.1) nx) acts.0.0 acts.0.3 (untaken-same m.body n.body acts.2);
        steady = ap (λ (l : Moment). l.faults) acts.1 ∙ nx.steady;
      }
  wanted_message a (End reuse) mid count fit h acts =
      let nx = next plan s m mid c count (End reuse) a.past a.came a.put fit a.stands a.opened a.steady h in
      record {
        past = End reuse ∷ a.past;
        came = a.came ++ h.bytes;
        rest = [];
        put = a.put;
        broken = end_broken a reuse count h.bytes (subst (λ (l : Moment). NextAt a l count (End reuse) h.bytes) (sym acts.1) nx) acts.0.0 acts.0.3 (untaken-same m.body n.body acts.2);
        steady = ap (λ (l : Moment). l.faults) acts.1 ∙ nx.steady;
      }
  wanted_message a (Ask ask) mid count fit h acts =
      let nx = next plan s m mid c count (Ask ask) a.past a.came a.put fit a.stands a.opened a.steady h in
      record {
        past = Ask ask ∷ a.past;
        came = a.came ++ h.bytes;
        rest = [];
        put = a.put ++ acts.0.0;
        broken = ask_broken a ask count mid h.bytes acts.0.0 nx acts.0.1 acts.0.4 acts.0.3 acts.2;
        steady = acts.0.2 ∙ nx.steady;
      }
  wanted_message a Pong mid count fit h acts = absurd (let e = acts.0 in cc)

  silent_wanted : (a : At plan s m c) (why : Unheard) → turn_is.NoMemory ≡ turn_of why → IsUnheard plan.packet plan.most m.line n.line c.received c'.received why → n.client ≡ m.client → IsUntaken m.body n.body
      → HasWanted plan s n
  silent_wanted a unheard_is.Line is h client body = absurd cc
  silent_wanted a unheard_is.Ended is h client body = absurd cc
  silent_wanted a unheard_is.Wrong is h client body = absurd cc
  silent_wanted a unheard_is.TooLong is h client body = absurd cc
  silent_wanted a unheard_is.NoMemory is h client body =
      still_broken a h.bytes (traffic-came s.line m.line n.line (pong_of plan) a.came h.bytes a.put a.stands.traffic h.came.came h.came.sent)
      (ap (λ (w : Moment). w.sent) client) (untaken-same m.body n.body body) (h.as_said.2 ∙ a.steady)

  pub wanted : (a : At plan s m c) → IsPlan plan → IsTurn plan m n c c' turn_is.NoMemory → HasWanted plan s n
  wanted a fit (inl t) = silent_wanted a t.why t.turn_is t.unheard t.client t.body
  wanted a fit (inr t) = wanted_message a t.message t.mid t.count fit t.heard t.acts

-- a message that the talk goes on after was counted
pub on_more : (plan : TalkPlan) (s m n : TalkMoment) (c c' : Course) → At plan s m c → IsPlan plan → IsTurn plan m n c c' turn_is.On → c.received < c'.received
on_more plan s m n c c' a fit (inl t) = absurd (no_turn t.why turn_is.On t.turn_is (λ cause e. absurd cc) (λ e. absurd cc))
on_more plan s m n c c' a fit (inr t) = of t.message t.mid t.count t.heard t.acts
  where
    of : (message : Message) (mid : Moment) (count : ℕ) → IsHeard plan.packet plan.most m.line mid c.received count message
        → Acts plan message (record c { received = count }) c' mid n.line m.client n.client m.body n.body turn_is.On → c.received < c'.received
    of (Headers parts) mid count h acts =
        let nx = next plan s m mid c count (Headers parts) a.past a.came a.put fit a.stands a.opened a.steady h in
        omega (arith, nx.more, ap (λ (x : Course). x.received) acts.0.3)
    of (Chunk chunk) mid count h acts =
        let nx = next plan s m mid c count (Chunk chunk) a.past a.came a.put fit a.stands a.opened a.steady h in
        omega (arith, nx.more, ap (λ (x : Course). x.received) acts.0.2)
    of (End reuse) mid count h acts = absurd acts.0
    of (Ask ask) mid count h acts =
        let nx = next plan s m mid c count (Ask ask) a.past a.came a.put fit a.stands a.opened a.steady h in
        omega (arith, nx.more, ap (λ (x : Course). x.received) acts.1)
    of Pong mid count h acts = absurd (let e = acts.0 in cc)

-- the writer is as the course says
pub on_course : (plan : TalkPlan) (s m : TalkMoment) (c : Course) → At plan s m c → IsOnCourse c
on_course plan s m c a = record {
  opened = λ e. subst IsOpenReply (sym a.stands.writer) (writer-open (kind_of plan) (head_of a.past) (chunks_of a.past) (sym a.stands.headers ∙ e));
  fresh = λ e. ap (λ (w : Writer). w.framing) a.stands.writer ∙ writer-fresh (kind_of plan) (head_of a.past) (chunks_of a.past) (sym a.stands.headers ∙ e);
}
