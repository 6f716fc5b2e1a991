-- A client that is gone, and what is read of the reply after that.
use Rattle.std.proofs.Common.{◌≡◌, ℕ, ◌+◌, ◌-◌, ◌≤◌, ◌<◌, Bool, true, false, ◌&&◌, not, List, [], ◌∷◌, ◌++◌, length, refl, sym, ap, subst, ◌∙◌, arith, append-nil, append_assoc, Option, Some, IfSome, is_some, inl, inr, unwrap_or, ◌⊎◌}
use Rattle.std.proofs.lemmas.Bool.{and_parts, ltb-false, not-true, and_cases, not-false}
use Rattle.jk_io.specs.Told.{Rose, appended, PutsFront}
use Rattle.jk_io.proofs.ToldLaws.{appended-appended}
use Rattle.ajp_reply.specs.declared.message.Message.{Message}
use Rattle.ajp_reply.specs.declared.message.Message.TheVariants.{Headers, Chunk, End, Ask, Pong}
use Rattle.ajp_reply.specs.declared.message.ReplyParts.{ReplyParts}
use Rattle.ajp_reply.specs.Stream.{Spelled, IsFront, IsForm, NoReply, head_of}
use Rattle.ajp_reply.proofs.StreamLaws.{spelled-behind, one_reading, goes_on, no_reply-other, no_reply-none}
use Rattle.http_out.specs.declared.framing.Framing.{Framing}
use Rattle.http_out.specs.declared.framing.Framing.TheVariants as By
use Rattle.http_out.specs.Framing.{spent}
use Rattle.http_out.specs.Writer.{Writer, IsOpenReply, framing_now, framing_after, chunk_bytes, end_bytes}
use Rattle.http_out.specs.Writer.{counted as counted_chunk}
use Rattle.jk_io.specs.Moments.{Moment}
use Rattle.ajp_talk.specs.Moments.{BodyAt, TalkMoment, Traffic, IsSteady, IsUsed, IsFrontOf}
use Rattle.ajp_talk.specs.Replies.{is_good, kind_of, chunks_of, sum_of, framing_in, exceeds, agrees, IsReply, so_far_of_talk, reply_of_talk}
use Rattle.ajp_talk.specs.Owed.{pong_of, opening}
use Rattle.ajp_talk.specs.Talk.{IsGone, IsBrokenOff, IsNoEnd, Halt, IsHalted, IsLostAt, HasNoAsk, PutsFrom}
use Rattle.ajp_talk.specs.Talk as halt_is
use Rattle.ajp_talk.specs.Courses.{writer_for, At}
use Rattle.ajp_talk.specs.Turns.{IsHeard, Acts, IsTurn, CameUnheard}
use Rattle.ajp_talk.specs.Drains.{IsLostCourse, chunk_messages, IsTail, DropsBytes, Drains, IsNoTail, EndsRest, IsAfterChunks, IsCutShort}
use Rattle.ajp_talk.specs.Ends.{IsPlan, bytes_end}
use Rattle.ajp_talk.specs.declared.plan.TalkPlan.{TalkPlan}
use Rattle.ajp_talk.specs.declared.course.Course.{Course}
use Rattle.ajp_talk.specs.declared.turn.Turn.TheVariants as turn_is
use Rattle.ajp_talk.specs.declared.turn.Unheard.{Unheard}
use Rattle.ajp_talk.specs.declared.turn.Unheard.TheVariants as unheard_is
use Rattle.ajp_talk.proofs.ReplyLaws.{framing_after-due, framing_after-none, framing_after-closing, framing_after-chunks, some-of, same-equals, same-tests}
use Rattle.ajp_talk.proofs.AskLaws.{traffic-came, untaken-same}
use Rattle.ajp_talk.proofs.CourseLaws.{Next, next, longer, chunk-sum, end-sum, chunk-written, end-written}
use Rattle.ajp_talk.proofs.TurnLaws.{bytes-are, few-sent}
use Rattle.ajp_talk.proofs.EndLaws.{no_turn, chunk_broken, end_broken}

-- A write to the client failed after a head: what had been accepted by then, and what was due of the body.
pub record LostAt (plan : TalkPlan) (s n : TalkMoment) (c : Course) : Type 0 where
  pub past : List Message
  pub came : List ℕ
  pub put : List ℕ
  pub broken : IsBrokenOff plan s n past came [] put
  pub front : IsFront is_good past
  pub rose : Rose s.client.faults n.client.faults
  pub sent : c.sent ≡ length put
  pub received : c.received ≡ length (pong_of plan ++ came)
  pub below : c.received < plan.most
  pub few : length put < 4611686018427387904
  pub parts : ReplyParts
  pub head : head_of past ≡ Some parts
  pub within : exceeds (framing_in plan parts) (sum_of (chunks_of past)) ≡ false
  pub framing : framing_now c.writer ≡ framing_after (framing_in plan parts) (chunks_of past)
  pub lost : IsLostCourse c
  pub opened : IsFrontOf (opening plan) put
  pub steady : IsSteady s.line n.line
  pub place : IsLostAt plan s n put past

-- bytes that were due after others were written in part
pub puts_from : (before mid now : Option (List ℕ)) (least more whole : List ℕ) → mid ≡ appended before least → PutsFront mid now more → whole ≡ least ++ more
    → PutsFrom before now least whole
puts_from before mid now least more whole written p joined = record {
  front = p.front;
  rest = p.rest;
  joined = joined ∙ ap (λ (l : List ℕ). least ++ l) p.whole ∙ sym (append_assoc least p.front p.rest);
  put = p.put ∙ ap (λ (o : Option (List ℕ)). appended o p.front) written ∙ appended-appended before least p.front;
}

-- the place where the client was lost stays, where nothing more is written
lost-later : (plan : TalkPlan) (s n p : TalkMoment) (put : List ℕ) (past : List Message) → IsLostAt plan s n put past → p.client.sent ≡ n.client.sent → IsLostAt plan s p put past
lost-later plan s n p put [] h e = absurd h
lost-later plan s n p put (Headers parts ∷ past) h e = absurd h
lost-later plan s n p put (Chunk bytes ∷ past) h e = (record { front = h.0.front; rest = h.0.rest; joined = h.0.joined; put = e ∙ h.0.put }, h.1)
lost-later plan s n p put (End reuse ∷ past) h e = (record { front = h.0.front; rest = h.0.rest; joined = h.0.joined; put = e ∙ h.0.put }, h.1)
lost-later plan s n p put (Ask most ∷ past) h e = (e ∙ h.0, h.1)
lost-later plan s n p put (Pong ∷ past) h e = absurd h

-- chunks are no asks
no-asks : (chunks : List (List ℕ)) → HasNoAsk (chunk_messages chunks)
no-asks [] = tt
no-asks (chunk ∷ chunks) = no-asks chunks

-- what is due of a length agrees with what comes exactly where all of it agrees
pub agrees-later : (f : Framing) (chunks : List (List ℕ)) (n : ℕ) → exceeds f (sum_of chunks) ≡ false → agrees (framing_after f chunks) n ≡ agrees f (sum_of chunks + n)
agrees-later By.NoBody chunks n w = ap (λ (f : Framing). agrees f n) (framing_after-none chunks)
agrees-later (By.Length due) chunks n w =
    let within = ltb-false due (sum_of chunks) w in
    ap (λ (f : Framing). agrees f n) (framing_after-due due chunks)
    ∙ same-equals (due - sum_of chunks) n due (sum_of chunks + n) (λ h. omega arith) (λ h. omega arith)
agrees-later By.Closing chunks n w = ap (λ (f : Framing). agrees f n) (framing_after-closing chunks)
agrees-later By.Chunks chunks n w = ap (λ (f : Framing). agrees f n) (framing_after-chunks chunks)

-- and goes beyond it exactly where all of it does
exceeds-later : (f : Framing) (chunks : List (List ℕ)) (n : ℕ) → exceeds f (sum_of chunks) ≡ false → exceeds (framing_after f chunks) n ≡ exceeds f (sum_of chunks + n)
exceeds-later By.NoBody chunks n w = ap (λ (f : Framing). exceeds f n) (framing_after-none chunks)
exceeds-later (By.Length due) chunks n w =
    let within = ltb-false due (sum_of chunks) w in
    ap (λ (f : Framing). exceeds f n) (framing_after-due due chunks)
    ∙ same-tests (due - sum_of chunks) n due (sum_of chunks + n) (λ h. omega arith) (λ h. omega arith)
exceeds-later By.Closing chunks n w = ap (λ (f : Framing). exceeds f n) (framing_after-closing chunks)
exceeds-later By.Chunks chunks n w = ap (λ (f : Framing). exceeds f n) (framing_after-chunks chunks)

-- ---- chunks after other messages

head-behind : (chunks : List (List ℕ)) (past : List Message) → head_of (chunk_messages chunks ++ past) ≡ head_of past
head-behind [] past = refl
head-behind (chunk ∷ chunks) past = head-behind chunks past

front-chunks : (chunks : List (List ℕ)) (past : List Message) → is_some (head_of past) ≡ true → IsFront is_good past → IsFront is_good (chunk_messages chunks ++ past)
front-chunks [] past some front = front
front-chunks (chunk ∷ chunks) past some front = (ap is_some (head-behind chunks past) ∙ some, front-chunks chunks past some front)

chunks-behind : (chunks : List (List ℕ)) (past : List Message) → chunks_of (chunk_messages chunks ++ past) ≡ chunks ++ chunks_of past
chunks-behind [] past = refl
chunks-behind (chunk ∷ chunks) past = ap (λ (l : List (List ℕ)). chunk ∷ l) (chunks-behind chunks past)

sum-behind : (chunks past : List (List ℕ)) → sum_of (chunks ++ past) ≡ sum_of past + sum_of chunks
sum-behind [] past = omega arith
sum-behind (chunk ∷ chunks) past = omega (arith, sum-behind chunks past)

-- the messages so far and an end that agrees with what was due are a reply
pub lost_reply : (plan : TalkPlan) (s n : TalkMoment) (c : Course) (a : LostAt plan s n c) (bytes : List ℕ) (t : IsTail plan c bytes)
    → IsReply plan (End true ∷ (chunk_messages t.chunks ++ a.past)) (a.came ++ bytes)
lost_reply plan s n c a bytes t =
    let some : is_some (head_of a.past) ≡ true = ap is_some a.head in
    let f = framing_in plan a.parts in
    let sum : agrees f (sum_of (chunks_of (chunk_messages t.chunks ++ a.past))) ≡ true =
    ap (λ (l : List (List ℕ)). agrees f (sum_of l)) (chunks-behind t.chunks a.past)
    ∙ ap (agrees f) (sum-behind t.chunks (chunks_of a.past))
    ∙ sym (agrees-later f (chunks_of a.past) (sum_of t.chunks) a.within)
    ∙ ap (λ (g : Framing). agrees g (sum_of t.chunks)) (sym a.framing)
    ∙ t.sum in
    record {
      spelled = spelled-behind plan.packet a.past (End true ∷ chunk_messages t.chunks) a.came bytes a.broken.spelled t.spelled;
      form = (ap is_some (head-behind t.chunks a.past) ∙ some, front-chunks t.chunks a.past some a.front);
      sum = subst (λ (o : Option ReplyParts). IfSome o (λ parts. agrees (framing_in plan parts) (sum_of (chunks_of (chunk_messages t.chunks ++ a.past))) ≡ true))
          (sym (head-behind t.chunks a.past ∙ a.head)) sum;
    }

-- where the link isn't kept at an end though it needn't be closed, the end doesn't let it serve again
ended-unusable : (again closes : Bool) → (again && not closes) ≡ false → closes ≡ false → again ≡ false
ended-unusable false closes e goes = refl
ended-unusable true true e goes = absurd cc
ended-unusable true false e goes = absurd cc

-- where the link isn't kept at an end, the end doesn't let it serve again, or it is to be closed
not_kept : (plan : TalkPlan) (reuse : Bool) (past : List Message) (bytes : List ℕ) → Spelled plan.packet (End reuse ∷ past) bytes → (reuse && not plan.close_on_client) ≡ false
    → (plan.close_on_client ≡ true) ⊎ IsNoEnd plan bytes
not_kept plan reuse past bytes s e = elim (and_cases reuse (not plan.close_on_client) e) [
  | inl stays ↦ inr (λ all r below.
      let same : End reuse ∷ past ≡ End true ∷ all = one_reading plan.packet (End reuse ∷ past) (End true ∷ all) bytes s r.spelled in
      absurd (let lets : reuse ≡ true = cc in cc))
  | inr closes ↦ inl (not-false plan.close_on_client closes)
]

sum-later : (later past : List Message) → sum_of (chunks_of (later ++ past)) ≡ sum_of (chunks_of past) + sum_of (chunks_of later)
sum-later [] past = omega arith
sum-later (Headers parts ∷ later) past = sum-later later past
sum-later (Chunk chunk ∷ later) past = omega (arith, sum-later later past)
sum-later (End reuse ∷ later) past = sum-later later past
sum-later (Ask ask ∷ later) past = sum-later later past
sum-later (Pong ∷ later) past = sum-later later past

no-end-front : (past all : List Message) → End true ∷ all ≡ past → IsFront is_good past → ⊥
no-end-front [] all e front = absurd cc
no-end-front (Headers parts ∷ past) all e front = absurd cc
no-end-front (Chunk chunk ∷ past) all e front = absurd cc
no-end-front (End reuse ∷ past) all e front = front
no-end-front (Ask ask ∷ past) all e front = absurd cc
no-end-front (Pong ∷ past) all e front = absurd cc

-- the head of a reply is that of a front of it
head-later : (later past : List Message) (parts : ReplyParts) → head_of past ≡ Some parts → IsFront is_good (later ++ past) → head_of (later ++ past) ≡ Some parts
head-later [] past parts h f = h
head-later (Headers other ∷ later) past parts h f =
    let some = head-later later past parts h f.2 in
    let none = f.0 in
    absurd (let is : is_some (head_of (later ++ past)) ≡ true = ap is_some some in cc)
head-later (Chunk bytes ∷ later) past parts h f = head-later later past parts h f.1
head-later (End reuse ∷ later) past parts h f = absurd f
head-later (Ask most ∷ later) past parts h f = head-later later past parts h f
head-later (Pong ∷ later) past parts h f = absurd f

-- what came after the accepted messages doesn't end the reply
pub no_end-from : (plan : TalkPlan) (s n : TalkMoment) (c c' : Course) (a : LostAt plan s n c) (bytes : List ℕ) → (c'.received < plan.most → IsNoTail plan c bytes)
    → c'.received ≡ length (pong_of plan ++ (a.came ++ bytes)) → IsNoEnd plan (a.came ++ bytes)
no_end-from plan s n c c' a bytes none received = λ all r below.
    let on = goes_on plan.packet a.past (End true ∷ all) a.came bytes a.broken.spelled r.spelled in
    of on.0 all on.1 on.2 r (none (omega (arith, received, below)))
  where
    of : (later all : List Message) → End true ∷ all ≡ later ++ a.past → Spelled plan.packet later bytes → IsReply plan (End true ∷ all) (a.came ++ bytes) → IsNoTail plan c bytes → ⊥
    of [] all split s r none = no-end-front a.past all split a.front
    of (message ∷ later) all split s r none =
        let first : message ≡ End true = cc in
        let rest : all ≡ later ++ a.past = cc in
        let f = framing_in plan a.parts in
        let front : IsFront is_good (later ++ a.past) = subst (IsFront is_good) rest r.form.1 in
        let head : head_of all ≡ Some a.parts = ap head_of rest ∙ head-later later a.past a.parts a.head front in
        let total : agrees f (sum_of (chunks_of all)) ≡ true = subst (λ (o : Option ReplyParts). IfSome o (λ parts. agrees (framing_in plan parts) (sum_of (chunks_of all)) ≡ true)) head r.sum in
        let due : agrees (framing_now c.writer) (sum_of (chunks_of later)) ≡ true =
        ap (λ (g : Framing). agrees g (sum_of (chunks_of later))) a.framing
        ∙ agrees-later f (chunks_of a.past) (sum_of (chunks_of later)) a.within
        ∙ ap (agrees f) (sym (ap (λ (l : List Message). sum_of (chunks_of l)) rest ∙ sum-later later a.past))
        ∙ total in
        none later (subst (λ (x : Message). Spelled plan.packet (x ∷ later) bytes) first s) due

spent-now : (w w' : Writer) (chunk : List ℕ) → w'.framing ≡ (counted_chunk w chunk).framing → framing_now w' ≡ spent (framing_now w) (length chunk)
spent-now w w' chunk e = ap (λ (o : Option Framing). unwrap_or o By.NoBody) e

open-spent : (w w' : Writer) (chunk : List ℕ) → w'.framing ≡ (counted_chunk w chunk).framing → w'.ended ≡ w.ended → w.ended ≡ false → IsOpenReply w'
open-spent w w' chunk e ended going = record { framing = spent (framing_now w) (length chunk); given = e; goes_on = ended ∙ going }

module _ (plan : TalkPlan) (s m n : TalkMoment) (c c' : Course) where
  abbrev read_to : ℕ → Course
  read_to count = record c { received = count }

  lost_chunk : (a : At plan s m c) (chunk : List ℕ) (mid : Moment) (count : ℕ) → IsPlan plan → s.client.faults ≤ m.client.faults
      → IsHeard plan.packet plan.most m.line mid c.received count (Chunk chunk)
      → Acts plan (Chunk chunk) (read_to count) c' mid n.line m.client n.client m.body n.body turn_is.Lost → LostAt plan s n c'
  lost_chunk a chunk mid count fit faults h acts =
      let st = a.stands in
      let nx = next plan s m mid c count (Chunk chunk) a.past a.came a.put fit st a.opened a.steady h in
      let here = subst (λ (l : Moment). Next plan s l c count (Chunk chunk) a.past a.came a.put h.bytes) (sym acts.1) nx in
      let lost = acts.0.2 in
      let some = sym st.headers ∙ acts.0.0 in
      let head = some-of (head_of a.past) some in
      let received : c'.received ≡ count = ap (λ (x : Course). x.received) lost.rest in
      let sent : c'.sent ≡ c.sent = ap (λ (x : Course). x.sent) lost.rest in
      let headers : c'.headers ≡ c.headers = ap (λ (x : Course). x.headers) lost.rest in
      let writer : c.writer ≡ writer_for (kind_of plan) (Some head.0) (chunks_of a.past) =
      st.writer ∙ ap (λ (o : Option ReplyParts). writer_for (kind_of plan) o (chunks_of a.past)) head.1 in
      let sum = chunk-sum (kind_of plan) (head_of a.past) (chunks_of a.past) c.writer (length chunk) false st.writer some st.accepts.within acts.0.1 in
      record {
        past = Chunk chunk ∷ a.past;
        came = a.came ++ h.bytes;
        put = a.put;
        broken = chunk_broken plan s m n c c' a chunk count h.bytes here acts.0.0 lost.puts (untaken-same m.body n.body acts.2);
        front = (some, st.accepts.front);
        rose = omega (arith, acts.0.3, faults);
        sent = sent ∙ st.sent;
        received = received ∙ nx.counts;
        below = omega (arith, received, nx.below);
        few = few-sent plan s m c a.past a.came a.put fit st;
        parts = head.0;
        head = head.1;
        within = subst (λ (o : Option ReplyParts). IfSome o (λ parts. exceeds (framing_in plan parts) (sum_of (chunks_of a.past) + length chunk) ≡ false)) head.1 sum;
        framing = spent-now c.writer c'.writer chunk lost.writer.framing ∙ ap (λ (w : Writer). spent (framing_now w) (length chunk)) writer;
        lost = record {
          headers = headers ∙ acts.0.0;
          opened = open-spent c.writer c'.writer chunk lost.writer.framing lost.writer.ended (ap (λ (w : Writer). w.ended) writer);
          failed = lost.writer.failed;
        };
        opened = a.opened;
        steady = here.steady;
        place = (
          puts_from s.client.sent m.client.sent n.client.sent (so_far_of_talk plan a.past) (chunk_bytes c.writer chunk) (so_far_of_talk plan (Chunk chunk ∷ a.past))
              st.written lost.puts (chunk-written (kind_of plan) (head_of a.past) (chunks_of a.past) c.writer chunk st.writer some),
          a.owed,
        );
      }

  lost_message : (a : At plan s m c) (message : Message) (mid : Moment) (count : ℕ) → IsPlan plan → s.client.faults ≤ m.client.faults
      → IsHeard plan.packet plan.most m.line mid c.received count message
      → Acts plan message (read_to count) c' mid n.line m.client n.client m.body n.body turn_is.Lost → LostAt plan s n c'
  lost_message a (Headers parts) mid count fit faults h acts = absurd acts.0
  lost_message a (Chunk chunk) mid count fit faults h acts = lost_chunk a chunk mid count fit faults h acts
  lost_message a (End reuse) mid count fit faults h acts = absurd acts.0
  lost_message a (Ask ask) mid count fit faults h acts = absurd acts.0
  lost_message a Pong mid count fit faults h acts = absurd (let e = acts.0 in cc)

  pub lost : (a : At plan s m c) → IsPlan plan → s.client.faults ≤ m.client.faults → IsTurn plan m n c c' turn_is.Lost → LostAt plan s n c'
  lost a fit faults (inl t) = absurd (no_turn t.why turn_is.Lost t.turn_is (λ cause e. absurd cc) (λ e. absurd cc))
  lost a fit faults (inr t) = lost_message a t.message t.mid t.count fit faults t.heard t.acts

  -- ---- the last write failed

  end_message : (a : At plan s m c) (reuse keep : Bool) (message : Message) (mid : Moment) (count : ℕ) → IsPlan plan → s.client.faults ≤ m.client.faults
      → keep ≡ (reuse && not plan.close_on_client)
      → IsHeard plan.packet plan.most m.line mid c.received count message
      → Acts plan message (read_to count) c' mid n.line m.client n.client m.body n.body (turn_is.LostAtEnd reuse) → IsGone plan s n false keep (bytes_end c')
  end_message a reuse keep (Headers parts) mid count fit faults e h acts = absurd acts.0
  end_message a reuse keep (Chunk chunk) mid count fit faults e h acts = absurd acts.0
  end_message a reuse keep (End again) mid count fit faults e h acts =
      let st = a.stands in
      let nx = next plan s m mid c count (End again) a.past a.came a.put fit st a.opened a.steady h in
      let here = subst (λ (l : Moment). Next plan s l c count (End again) a.past a.came a.put h.bytes) (sym acts.1) nx in
      let is = acts.0.5 in
      let some = sym st.headers ∙ acts.0.1 in
      let received : c'.received ≡ count = ap (λ (x : Course). x.received) is in
      let sent : c'.sent ≡ c.sent = ap (λ (x : Course). x.sent) is in
      let all : (a.came ++ h.bytes) ++ [] ≡ a.came ++ h.bytes = append-nil (a.came ++ h.bytes) in
      record {
        past = End again ∷ a.past;
        came = a.came ++ h.bytes;
        rest = [];
        put = a.put;
        opened = a.opened;
        below = omega (arith, nx.counts, nx.below);
        lost = (
          puts_from s.client.sent m.client.sent n.client.sent (so_far_of_talk plan a.past) (end_bytes c.writer) (reply_of_talk plan a.past)
              st.written acts.0.3 (end-written (kind_of plan) (head_of a.past) (chunks_of a.past) c.writer st.writer some),
          a.owed,
        );
        broken = end_broken plan s m n c c' a again count h.bytes here acts.0.1 acts.0.3 (untaken-same m.body n.body acts.2);
        counted = subst (λ (x : List ℕ). bytes_end c' ≡ length a.put + length (pong_of plan ++ x)) (sym all)
            (bytes-are c' a.put (pong_of plan ++ (a.came ++ h.bytes)) (sent ∙ st.sent) (received ∙ nx.counts) (few-sent plan s m c a.past a.came a.put fit st) (omega (arith, received, nx.below, fit.most)));
        ended = λ f. absurd cc;
        failed = λ f. omega (arith, acts.0.4, faults);
        kept = λ f.
            let both = and_parts reuse (not plan.close_on_client) (sym e ∙ f) in
            let lets : again ≡ true = sym acts.0.0 ∙ both.0 in (
              not-true plan.close_on_client both.1,
              here.steady,
              record {
                all = a.past;
                later = [];
                reply = subst (λ (x : List ℕ). IsReply plan (End true ∷ a.past) x) (sym all) (record {
                  spelled = subst (λ (r : Bool). Spelled plan.packet (End r ∷ a.past) (a.came ++ h.bytes)) lets nx.spelled;
                  form = (some, st.accepts.front);
                  sum = end-sum (kind_of plan) (head_of a.past) (chunks_of a.past) c.writer true st.writer some st.accepts.within acts.0.2;
                });
                split = ap (λ (r : Bool). End r ∷ a.past) (sym lets);
                unasked = tt;
                below = subst (λ (x : List ℕ). length (pong_of plan ++ x) < plan.most) (sym all) (omega (arith, nx.counts, nx.below));
              },
            );
        closed = λ f. not_kept plan again a.past ((a.came ++ h.bytes) ++ []) (subst (Spelled plan.packet (End again ∷ a.past)) (sym all) nx.spelled)
            (subst (λ (r : Bool). (r && not plan.close_on_client) ≡ false) acts.0.0 (sym e ∙ f));
        halted = λ f goes.
            let stays : again ≡ false = ended-unusable again plan.close_on_client (subst (λ (r : Bool). (r && not plan.close_on_client) ≡ false) acts.0.0 (sym e ∙ f)) goes in (
              halt_is.Forbidden,
              (a.past, subst (λ (r : Bool). Spelled plan.packet (End r ∷ a.past) ((a.came ++ h.bytes) ++ [])) stays (subst (Spelled plan.packet (End again ∷ a.past)) (sym all) nx.spelled)),
            );
        at_once = λ f. refl;
      }
  end_message a reuse keep (Ask ask) mid count fit faults e h acts = absurd acts.0
  end_message a reuse keep Pong mid count fit faults e h acts = absurd (let f = acts.0 in cc)

  pub lost_at_end : (a : At plan s m c) (reuse keep : Bool) → IsPlan plan → s.client.faults ≤ m.client.faults → keep ≡ (reuse && not plan.close_on_client)
      → IsTurn plan m n c c' (turn_is.LostAtEnd reuse) → IsGone plan s n false keep (bytes_end c')
  lost_at_end a reuse keep fit faults e (inl t) = absurd (no_turn t.why (turn_is.LostAtEnd reuse) t.turn_is (λ cause e'. absurd cc) (λ e'. absurd cc))
  lost_at_end a reuse keep fit faults e (inr t) = end_message a reuse keep t.message t.mid t.count fit faults e t.heard t.acts

-- ---- the link is closed, or the rest is read

pub lost_gone : (plan : TalkPlan) (s n : TalkMoment) (c : Course) → IsPlan plan → plan.close_on_client ≡ true → LostAt plan s n c → IsGone plan s n false false (bytes_end c)
lost_gone plan s n c fit closes a = record {
  past = a.past;
  came = a.came;
  rest = [];
  put = a.put;
  broken = a.broken;
  opened = a.opened;
  lost = a.place;
  below = omega (arith, a.received, a.below);
  counted = subst (λ (x : List ℕ). bytes_end c ≡ length a.put + length (pong_of plan ++ x)) (sym (append-nil a.came))
      (bytes-are c a.put (pong_of plan ++ a.came) a.sent a.received a.few (omega (arith, a.below, fit.most)));
  ended = λ e. absurd cc;
  failed = λ e. a.rose;
  kept = λ e. absurd cc;
  closed = λ e. inl closes;
  halted = λ e goes. absurd cc;
  at_once = λ e. refl;
}

-- what was broken off, and what came after it
broken-behind : (plan : TalkPlan) (s n p : TalkMoment) (past : List Message) (came put bytes : List ℕ) → IsBrokenOff plan s n past came [] put
    → DropsBytes n.line p.line n.client p.client bytes → p.body ≡ n.body → IsBrokenOff plan s p past came bytes put
broken-behind plan s n p past came put bytes b d body =
    let before : Traffic s.line n.line (pong_of plan ++ came) put = subst (λ (x : List ℕ). Traffic s.line n.line (pong_of plan ++ x) put) (append-nil came) b.traffic in
    record {
      spelled = b.spelled;
      front = b.front;
      traffic = traffic-came s.line n.line p.line (pong_of plan) came bytes put before d.came d.sent;
      opened = b.opened;
      sent = b.sent;
      written = record { front = b.written.front; rest = b.written.rest; whole = b.written.whole; put = d.written ∙ b.written.put };
      body = subst (λ (x : BodyAt). IsUsed s.body x) (sym body) b.body;
    }

-- why the rest wasn't read on, as it is said of all that came after CPong
module _ (plan : TalkPlan) (s n p : TalkMoment) (c c' : Course) (a : LostAt plan s n c) (bytes : List ℕ) (want : Bool) where
  stopped : (t : IsAfterChunks plan c bytes) (message : Message) → t.message ≡ message → EndsRest c t.chunks message → (why : Halt) × IsHalted plan s p (a.came ++ bytes) why
  stopped t message is stops = of message (subst (λ (x : Message). Spelled plan.packet (x ∷ chunk_messages t.chunks) bytes) is t.spelled) stops
    where
      some : is_some (head_of a.past) ≡ true
      some = ap is_some a.head

      past : List Message
      past = chunk_messages t.chunks ++ a.past

      head : head_of past ≡ Some a.parts
      head = head-behind t.chunks a.past ∙ a.head

      f : Framing
      f = framing_in plan a.parts

      all : (m : Message) → Spelled plan.packet (m ∷ chunk_messages t.chunks) bytes → Spelled plan.packet (m ∷ past) (a.came ++ bytes)
      all m spelled = spelled-behind plan.packet a.past (m ∷ chunk_messages t.chunks) a.came bytes a.broken.spelled spelled

      sums : sum_of (chunks_of past) ≡ sum_of (chunks_of a.past) + sum_of t.chunks
      sums = ap sum_of (chunks-behind t.chunks a.past) ∙ sum-behind t.chunks (chunks_of a.past)

      hopeless : (m : Message) → Spelled plan.packet (m ∷ chunk_messages t.chunks) bytes → (IsFront is_good (m ∷ past) → ⊥) → (IsForm is_good (m ∷ past) → ⊥)
          → NoReply is_good plan.packet (a.came ++ bytes)
      hopeless m (before, last, spelled, is, joined) no_front no_form =
          subst (NoReply is_good plan.packet) (append_assoc a.came before last ∙ ap (λ (x : List ℕ). a.came ++ x) (sym joined))
          (no_reply-other is_good plan.packet past (a.came ++ before) last m (spelled-behind plan.packet a.past (chunk_messages t.chunks) a.came before a.broken.spelled spelled) is no_front no_form)

      of : (m : Message) → Spelled plan.packet (m ∷ chunk_messages t.chunks) bytes → EndsRest c t.chunks m → (why : Halt) × IsHalted plan s p (a.came ++ bytes) why
      of (Headers parts) spelled stops =
          (halt_is.Hopeless, hopeless (Headers parts) spelled (λ front. (let none = front.0 in let more = ap is_some head in absurd cc)) (λ form. form))
      of (Chunk chunk) spelled stops = (
        halt_is.Uneven,
        (
          Chunk chunk,
          past,
          all (Chunk chunk) spelled,
          (
            a.parts,
            head,
            ap (λ (n : ℕ). exceeds f (n + length chunk)) sums
                ∙ ap (exceeds f) (omega arith)
                ∙ sym (exceeds-later f (chunks_of a.past) (sum_of t.chunks + length chunk) a.within)
                ∙ ap (λ (g : Framing). exceeds g (sum_of t.chunks + length chunk)) (sym a.framing)
                ∙ stops,
          ),
        ),
      )
      of (End reuse) spelled (inl forbids) = (halt_is.Forbidden, (past, subst (λ (r : Bool). Spelled plan.packet (End r ∷ past) (a.came ++ bytes)) forbids (all (End reuse) spelled)))
      of (End reuse) spelled (inr short) = (
        halt_is.Uneven,
        (
          End reuse,
          past,
          all (End reuse) spelled,
          (
            a.parts,
            head,
            ap (agrees f) sums
                ∙ sym (agrees-later f (chunks_of a.past) (sum_of t.chunks) a.within)
                ∙ ap (λ (g : Framing). agrees g (sum_of t.chunks)) (sym a.framing)
                ∙ short,
          ),
        ),
      )
      of (Ask ask) spelled stops = (halt_is.Asked, (ask, past, all (Ask ask) spelled))
      of Pong spelled stops = (halt_is.Hopeless, hopeless Pong spelled (λ front. front) (λ form. form))

  short : (t : IsCutShort plan n.line p.line c' bytes want) → c'.received ≡ length (pong_of plan ++ (a.came ++ bytes)) → (why : Halt) × IsHalted plan s p (a.came ++ bytes) why
  short t received = of t.why t.as_said
    where
      past : List Message
      past = chunk_messages t.chunks ++ a.past

      of : (why : Unheard) → CameUnheard plan.packet plan.most c'.received n.line p.line t.rest why → (halt : Halt) × IsHalted plan s p (a.came ++ bytes) halt
      of unheard_is.Line h = (halt_is.Failed, omega (arith, h.2, a.steady))
      of unheard_is.Ended h = (halt_is.Ended, h.2)
      of unheard_is.Wrong h = (
        halt_is.Hopeless,
        subst (NoReply is_good plan.packet) (append_assoc a.came t.front t.rest ∙ ap (λ (x : List ℕ). a.came ++ x) (sym t.whole))
            (no_reply-none is_good plan.packet past (a.came ++ t.front) t.rest (spelled-behind plan.packet a.past (chunk_messages t.chunks) a.came t.front a.broken.spelled t.spelled)
            (front-chunks t.chunks a.past (ap is_some a.head) a.front) h.1),
      )
      of unheard_is.TooLong h = (halt_is.Full, omega (arith, h.0, received))
      of unheard_is.NoMemory h = (halt_is.Starved, (omega (arith, h.0, received), h.2 ∙ a.steady))

  halts : IsAfterChunks plan c bytes ⊎ IsCutShort plan n.line p.line c' bytes want → c'.received ≡ length (pong_of plan ++ (a.came ++ bytes)) → (why : Halt) × IsHalted plan s p (a.came ++ bytes) why
  halts (inl t) received = stopped t t.message refl t.stops
  halts (inr t) received = short t received

pub lost_drained : (plan : TalkPlan) (s n p : TalkMoment) (c c' : Course) (keep want : Bool) → IsPlan plan → LostAt plan s n c
    → Drains plan n.line p.line n.client p.client c c' keep want → plan.close_on_client ≡ false → p.body ≡ n.body → n.client.faults ≤ p.client.faults
    → IsGone plan s p false keep (bytes_end c')
lost_drained plan s n p c c' keep want fit a d closes body faults =
    let received : c'.received ≡ length (pong_of plan ++ (a.came ++ d.bytes)) = omega (arith, d.counts, a.received, longer (pong_of plan) a.came d.bytes) in
    record {
      past = a.past;
      came = a.came;
      rest = d.bytes;
      put = a.put;
      broken = broken-behind plan s n p a.past a.came a.put d.bytes a.broken d.dropped body;
      opened = a.opened;
      lost = lost-later plan s n p a.put a.past a.place d.dropped.written;
      below = omega (arith, a.received, a.below);
      counted = bytes-are c' a.put (pong_of plan ++ (a.came ++ d.bytes)) (d.same ∙ a.sent) received a.few (omega (arith, d.small, fit.most));
      ended = λ e. absurd cc;
      failed = λ e. omega (arith, a.rose, faults);
      kept = λ e. (
        closes,
        (d.kept e).2 ∙ a.steady,
        record {
          all = chunk_messages (d.kept e).0.chunks ++ a.past;
          later = End true ∷ chunk_messages (d.kept e).0.chunks;
          reply = lost_reply plan s n c a d.bytes (d.kept e).0;
          split = refl;
          unasked = no-asks (d.kept e).0.chunks;
          below = omega (arith, received, (d.kept e).1);
        },
      );
      closed = λ e. inr (no_end-from plan s n c c' a d.bytes (d.closed e) received);
      halted = λ e goes. halts plan s n p c c' a d.bytes want (d.halted e) received;
      at_once = λ e. absurd cc;
    }
