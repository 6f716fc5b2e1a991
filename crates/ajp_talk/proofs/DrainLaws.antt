-- How the draining of a reply goes on.
use Rattle.ajp_talk.specs.declared.ending.Cause.{Cause}
use Rattle.ajp_wire.specs.Packet.{IsPart, IsPacket, packet}
use Rattle.ajp_wire.proofs.PacketLaws.{packet-only}
use Rattle.ajp_reply.specs.Spelling.{Spells, BeginsHead}
use Rattle.std.proofs.Common.{◌≡◌, ◌≢◌, ℕ, ◌+◌, ◌<◌, Bool, true, false, ◌&&◌, not, List, [], ◌∷◌, ◌++◌, length, refl, sym, ap, subst, ◌∙◌, arith, length-append, Option, Some, None, Result, Ok, Err, append-nil, inl, inr, unwrap_or}
use Rattle.std.proofs.lemmas.Bool.{cond-false, not-true}
use Rattle.jk_io.specs.Told.{appended, prepended, PutsFront}
use Rattle.jk_io.proofs.ToldLaws.{appended-appended, appended-nil, prepended-prepended, prepended-nil}
use Rattle.ajp_reply.specs.declared.message.Message.{Message}
use Rattle.ajp_reply.specs.declared.message.Message.TheVariants.{Headers, Chunk, End, Ask, Pong}
use Rattle.ajp_reply.specs.Stream.{IsPacketOf, Spelled, BeginsNoMessage}
use Rattle.http_out.specs.declared.framing.Framing.{Framing}
use Rattle.http_out.specs.declared.framing.Framing.TheVariants as By
use Rattle.http_out.specs.Framing.{is_beyond, is_complete, is_passed, spent, framed}
use Rattle.http_out.specs.Writer.{Writer, framing_now, framing_after, after_chunk, writes_chunk, chunk_bytes, end_bytes}
use Rattle.http_out.specs.Writer.{counted as counted_chunk}
use Rattle.jk_io.specs.Moments.{Moment}
use Rattle.ajp_talk.specs.Moments.{IsSteady}
use Rattle.ajp_talk.specs.Replies.{sum_of, exceeds, chunks_of, agrees}
use Rattle.ajp_talk.specs.Turns.{Came, IsHeard, IsUnheard, IsOnCourse, IsChunkTurn, IsEndTurn, CameUnheard, IsChunkFailure, IsUnreadPacket}
use Rattle.ajp_talk.specs.Drains.{IsLostCourse, chunk_messages, DropsBytes, Drains, IsNoTail, EndsRest, IsDrained, rest_after, rest_without, IsClosing, IsDroppedMessage, IsDrop}
use Rattle.ajp_talk.specs.Ends.{IsPlan}
use Rattle.ajp_talk.specs.declared.plan.TalkPlan.{TalkPlan}
use Rattle.ajp_talk.specs.declared.course.Course.{Course}
use Rattle.ajp_talk.specs.declared.ending.Cause.TheVariants as cause_is
use Rattle.ajp_talk.specs.declared.turn.Turn.{Turn}
use Rattle.ajp_talk.specs.declared.turn.Turn.TheVariants as turn_is
use Rattle.ajp_talk.specs.declared.turn.Unheard.{Unheard}
use Rattle.ajp_talk.specs.declared.turn.Unheard.TheVariants as unheard_is
use Rattle.jk_io.specs.declared.failures.NoMemory.{NoMemory}
use Rattle.ajp_reply.proofs.StreamLaws.{one_reading, one_stream, goes_on, first_of_all}
use Rattle.ajp_talk.proofs.MessageLaws.{some-bytes, part-nil}
use Rattle.ajp_talk.proofs.ReplyLaws.{beyond-exceeds, complete-agrees, none-exceeds}

-- chunks came since the client was gone, and nothing was written
pub record Draining (plan : TalkPlan) (l m : Moment) (w v : Moment) (c d : Course) : Type 0 where
  pub chunks : List (List ℕ)
  pub bytes : List ℕ
  pub spelled : Spelled plan.packet (chunk_messages chunks) bytes
  pub dropped : DropsBytes l m w v bytes
  pub counts : d.received ≡ c.received + length bytes
  pub below : d.received < plan.most
  pub same : d.sent ≡ c.sent
  pub framing : framing_now d.writer ≡ framing_after (framing_now c.writer) chunks
  pub within : exceeds (framing_now c.writer) (sum_of chunks) ≡ false
  pub lost : IsLostCourse d
  pub steady : IsSteady l m

pub drains-first : (plan : TalkPlan) (l : Moment) (w : Moment) (c : Course) → IsLostCourse c → c.received < plan.most → Draining plan l l w w c c
drains-first plan l w c lost below = record {
  chunks = [];
  bytes = [];
  spelled = refl;
  dropped = record { came = record { used = sym (prepended-nil l.incoming); kept = sym (appended-nil l.received) }; sent = refl; written = refl };
  counts = omega arith;
  below = below;
  same = refl;
  framing = refl;
  within = none-exceeds (framing_now c.writer);
  lost = lost;
  steady = refl;
}

dropped-more : (l m n : Moment) (w v u : Moment) (a b : List ℕ) (k k' : ℕ) → DropsBytes l m w v a → Came m n k k' b → u.sent ≡ v.sent → DropsBytes l n w u (a ++ b)
dropped-more l m n w v u a b k k' d h same = record {
  came = record {
    used = d.came.used ∙ ap (prepended a) h.came.used ∙ prepended-prepended a b n.incoming;
    kept = h.came.kept ∙ ap (λ (o : Option (List ℕ)). appended o b) d.came.kept ∙ appended-appended l.received a b;
  };
  sent = h.sent ∙ d.sent;
  written = same ∙ d.written;
}

-- a writer whose write failed writes nothing
no-chunk : (w : Writer) (chunk : List ℕ) → w.failed ≡ true → writes_chunk w chunk ≡ false
no-chunk w chunk failed = ap (λ (b : Bool). not b && is_passed (framing_now w) chunk) failed

no-chunk-bytes : (w : Writer) (chunk : List ℕ) → w.failed ≡ true → chunk_bytes w chunk ≡ []
no-chunk-bytes w chunk failed = cond-false (writes_chunk w chunk) (w.held ++ framed (framing_now w) chunk) [] (no-chunk w chunk failed)

no-end-bytes : (w : Writer) → w.failed ≡ true → end_bytes w ≡ []
no-end-bytes w failed = rw failed refl

counted-alone : (w : Writer) (chunk : List ℕ) → w.failed ≡ true → after_chunk w chunk ≡ counted_chunk w chunk
counted-alone w chunk failed = cond-false (writes_chunk w chunk) _ (counted_chunk w chunk) (no-chunk w chunk failed)

put-nothing : (before now : Option (List ℕ)) → PutsFront before now [] → now ≡ before
put-nothing before now p = p.put ∙ ap (appended before) (empty p.front p.rest p.whole) ∙ appended-nil before
  where
    empty : (front rest : List ℕ) → [] ≡ front ++ rest → front ≡ []
    empty [] rest e = refl
    empty (x ∷ front) rest e = absurd cc

-- ---- bytes that don't end a reply

chunks-alone : (chunks : List (List ℕ)) → chunks_of (chunk_messages chunks) ≡ chunks
chunks-alone [] = refl
chunks-alone (chunk ∷ chunks) = ap (λ (l : List (List ℕ)). chunk ∷ l) (chunks-alone chunks)

no-end-behind : (chunks : List (List ℕ)) (later : List Message) → chunk_messages chunks ≡ End true ∷ later → ⊥
no-end-behind [] later e = absurd cc
no-end-behind (chunk ∷ chunks) later e = absurd cc

no_tail-message : (plan : TalkPlan) (c : Course) (chunks : List (List ℕ)) (message : Message) (bytes : List ℕ) → Spelled plan.packet (message ∷ chunk_messages chunks) bytes
    → (message ≡ End true → agrees (framing_now c.writer) (sum_of chunks) ≡ true → ⊥) → IsNoTail plan c bytes
no_tail-message plan c chunks message bytes s no_end = λ later t sum.
    let same : message ∷ chunk_messages chunks ≡ End true ∷ later = one_reading plan.packet (message ∷ chunk_messages chunks) (End true ∷ later) bytes s t in
    let head : message ≡ End true = cc in
    let rest : later ≡ chunk_messages chunks = cc in
    let all : chunks_of later ≡ chunks = ap chunks_of rest ∙ chunks-alone chunks in
    no_end head (ap (λ (l : List (List ℕ)). agrees (framing_now c.writer) (sum_of l)) (sym all) ∙ sum)

no_tail-part : (plan : TalkPlan) (c : Course) (chunks : List (List ℕ)) (bytes rest : List ℕ) → Spelled plan.packet (chunk_messages chunks) bytes → IsPart true plan.packet rest
    → IsNoTail plan c (bytes ++ rest)
no_tail-part plan c chunks bytes rest s part = λ later t sum.
    no-end-behind chunks later (one_stream plan.packet (chunk_messages chunks) (End true ∷ later) (bytes ++ rest) rest []
    (record { came = bytes; messages = s; part = part; whole = refl })
    (record { came = bytes ++ rest; messages = t; part = part-nil plan.packet; whole = sym (append-nil (bytes ++ rest)) })).0

no_tail-none : (plan : TalkPlan) (c : Course) (chunks : List (List ℕ)) (bytes rest : List ℕ) → Spelled plan.packet (chunk_messages chunks) bytes → BeginsNoMessage plan.packet rest
    → IsNoTail plan c (bytes ++ rest)
no_tail-none plan c chunks bytes rest s none = λ later t sum.
    let on = goes_on plan.packet (chunk_messages chunks) (End true ∷ later) bytes rest s t in
    of on.0 later on.1 on.2
  where
    of : (behind later : List Message) → End true ∷ later ≡ behind ++ chunk_messages chunks → Spelled plan.packet behind rest → ⊥
    of [] later e t = no-end-behind chunks later (sym e)
    of (m ∷ behind) later e t =
        let f = first_of_all plan.packet m behind rest t in
        none [] f.1 f.2 f.0 f.3 (append-nil rest ∙ f.4)

-- a payload that begins as a head does spells no end
no-end-head : (message : Message) (payload : List ℕ) → message ≡ End true → Spells message payload → BeginsHead payload → ⊥
no-end-head (Headers parts) payload is s begins = absurd cc
no-end-head (Chunk bytes) payload is s begins = absurd cc
no-end-head (End reuse) payload is s begins = (let e : 4 ∷ begins.0 ≡ 5 ∷ s.byte ∷ [] = sym begins.1 ∙ s.whole in absurd cc)
no-end-head (Ask most) payload is s begins = absurd cc
no-end-head Pong payload is s begins = absurd cc

-- nor does a packet of such a payload end a reply
no_tail-head : (plan : TalkPlan) (c : Course) (chunks : List (List ℕ)) (bytes rest payload : List ℕ) → Spelled plan.packet (chunk_messages chunks) bytes
    → IsPacket true plan.packet payload rest → BeginsHead payload → IsNoTail plan c (bytes ++ rest)
no_tail-head plan c chunks bytes rest payload s p begins = λ later t sum.
    let on = goes_on plan.packet (chunk_messages chunks) (End true ∷ later) bytes rest s t in
    of on.0 later on.1 on.2
  where
    of : (behind later : List Message) → End true ∷ later ≡ behind ++ chunk_messages chunks → Spelled plan.packet behind rest → ⊥
    of [] later e t = no-end-behind chunks later (sym e)
    of (m ∷ behind) later e t =
        let f = first_of_all plan.packet m behind rest t in
        let one = packet-only true payload f.3.payload [] f.2 (append-nil (packet true payload) ∙ sym p.whole ∙ f.4 ∙ ap (λ (l : List ℕ). l ++ f.2) f.3.packet.whole) in
        let alone : Spelled plan.packet (f.0 ∷ []) rest = ([], f.1, refl, f.3, f.4 ∙ ap (λ (l : List ℕ). f.1 ++ l) (sym one.1) ∙ append-nil f.1) in
        let same : m ∷ behind ≡ f.0 ∷ [] = one_reading plan.packet (m ∷ behind) (f.0 ∷ []) rest t alone in
        let first : f.0 ≡ End true = cc in
        no-end-head f.0 f.3.payload first f.3.spelled (begins.0, sym one.0 ∙ begins.1)

no_tail-unread : (plan : TalkPlan) (c : Course) (chunks : List (List ℕ)) (bytes rest : List ℕ) → Spelled plan.packet (chunk_messages chunks) bytes → IsUnreadPacket plan.packet rest
    → IsNoTail plan c (bytes ++ rest)
no_tail-unread plan c chunks bytes rest s (inl part) = no_tail-part plan c chunks bytes rest s part
no_tail-unread plan c chunks bytes rest s (inr h) = no_tail-head plan c chunks bytes rest h.0 s h.1 h.2

-- where no message came, and the limit isn't reached
no_tail-silent : (plan : TalkPlan) (c : Course) (chunks : List (List ℕ)) (bytes rest : List ℕ) (l l' : Moment) (count : ℕ) (why : Unheard)
    → Spelled plan.packet (chunk_messages chunks) bytes → CameUnheard plan.packet plan.most count l l' rest why → count < plan.most → IsNoTail plan c (bytes ++ rest)
no_tail-silent plan c chunks bytes rest l l' count unheard_is.Line s h below = no_tail-part plan c chunks bytes rest s h.1
no_tail-silent plan c chunks bytes rest l l' count unheard_is.Ended s h below = no_tail-part plan c chunks bytes rest s h.1
no_tail-silent plan c chunks bytes rest l l' count unheard_is.Wrong s h below = no_tail-none plan c chunks bytes rest s h.1
no_tail-silent plan c chunks bytes rest l l' count unheard_is.TooLong s h below = absurd (let reached = h.0 in omega arith)
no_tail-silent plan c chunks bytes rest l l' count unheard_is.NoMemory s h below = no_tail-unread plan c chunks bytes rest s h.1

-- what is said of the link since the last message, said since the client was gone
came-since : (plan : TalkPlan) (l m n : Moment) (count count' : ℕ) (rest : List ℕ) (why : Unheard) → IsSteady l m → count' ≡ count
    → CameUnheard plan.packet plan.most count m n rest why → CameUnheard plan.packet plan.most count' l n rest why
came-since plan l m n count count' rest unheard_is.Line steady same h = (omega (arith, h.0, same), h.1, omega (arith, h.2, steady))
came-since plan l m n count count' rest unheard_is.Ended steady same h = (omega (arith, h.0, same), h.1, h.2)
came-since plan l m n count count' rest unheard_is.Wrong steady same h = (omega (arith, h.0, same), h.1)
came-since plan l m n count count' rest unheard_is.TooLong steady same h = (omega (arith, h.0, same), h.1)
came-since plan l m n count count' rest unheard_is.NoMemory steady same h = (omega (arith, h.0, same), h.1, h.2 ∙ steady)

no-true : (b : Bool) → (b ≡ true → ⊥) → b ≡ false
no-true true f = absurd (f refl)
no-true false f = refl

module _ (plan : TalkPlan) (l m n : Moment) (w v u : Moment) (c d e : Course) (count : ℕ) where
  abbrev read_to : Course
  read_to = record d { received = count }

  same-written : (bytes : List ℕ) → bytes ≡ [] → u.sent ≡ appended v.sent bytes → u.sent ≡ v.sent
  same-written bytes none put = put ∙ ap (appended v.sent) none ∙ appended-nil v.sent

  same-put : (bytes : List ℕ) → bytes ≡ [] → PutsFront v.sent u.sent bytes → u.sent ≡ v.sent
  same-put bytes none put = put-nothing v.sent u.sent (subst (PutsFront v.sent u.sent) none put)

  -- nothing is written for a chunk, and nothing is sent
  pub chunk-silent : (chunk : List ℕ) (turn : Turn) → d.writer.failed ≡ true → IsChunkTurn plan chunk read_to e v u turn → u.sent ≡ v.sent
  chunk-silent chunk turn_is.On failed h = same-written (chunk_bytes d.writer chunk) (no-chunk-bytes d.writer chunk failed) h.3
  chunk-silent chunk (turn_is.Done reuse) failed h = absurd h
  chunk-silent chunk (turn_is.Failed cause_is.NoLink) failed h = absurd h
  chunk-silent chunk (turn_is.Failed cause_is.Line) failed h = absurd h
  chunk-silent chunk (turn_is.Failed cause_is.Ended) failed h = absurd h
  chunk-silent chunk (turn_is.Failed cause_is.BadReply) failed h = h.2
  chunk-silent chunk (turn_is.Failed cause_is.Disagree) failed h = h.3
  chunk-silent chunk (turn_is.Failed cause_is.TooLong) failed h = absurd h
  chunk-silent chunk (turn_is.Failed (cause_is.Status status)) failed h = absurd h
  chunk-silent chunk turn_is.Lost failed h = same-put (chunk_bytes d.writer chunk) (no-chunk-bytes d.writer chunk failed) h.2.puts
  chunk-silent chunk (turn_is.LostAtEnd reuse) failed h = absurd h
  chunk-silent chunk turn_is.Unread failed h = absurd h
  chunk-silent chunk turn_is.Cut failed h = absurd h
  chunk-silent chunk (turn_is.Bad own) failed h = absurd h
  chunk-silent chunk turn_is.NoMemory failed h = same-put (chunk_bytes d.writer chunk) (no-chunk-bytes d.writer chunk failed) h.3

  pub chunk-counts : (chunk : List ℕ) (turn : Turn) → (turn ≡ turn_is.NoMemory → ⊥) → IsChunkTurn plan chunk read_to e v u turn → (e.received ≡ count) × (e.sent ≡ d.sent)
  chunk-counts chunk turn_is.On other h = (ap (λ (x : Course). x.received) h.2, ap (λ (x : Course). x.sent) h.2)
  chunk-counts chunk (turn_is.Done reuse) other h = absurd h
  chunk-counts chunk (turn_is.Failed cause_is.NoLink) other h = absurd h
  chunk-counts chunk (turn_is.Failed cause_is.Line) other h = absurd h
  chunk-counts chunk (turn_is.Failed cause_is.Ended) other h = absurd h
  chunk-counts chunk (turn_is.Failed cause_is.BadReply) other h = (ap (λ (x : Course). x.received) h.1, ap (λ (x : Course). x.sent) h.1)
  chunk-counts chunk (turn_is.Failed cause_is.Disagree) other h = (ap (λ (x : Course). x.received) h.2, ap (λ (x : Course). x.sent) h.2)
  chunk-counts chunk (turn_is.Failed cause_is.TooLong) other h = absurd h
  chunk-counts chunk (turn_is.Failed (cause_is.Status status)) other h = absurd h
  chunk-counts chunk turn_is.Lost other h = (ap (λ (x : Course). x.received) h.2.rest, ap (λ (x : Course). x.sent) h.2.rest)
  chunk-counts chunk (turn_is.LostAtEnd reuse) other h = absurd h
  chunk-counts chunk turn_is.Unread other h = absurd h
  chunk-counts chunk turn_is.Cut other h = absurd h
  chunk-counts chunk (turn_is.Bad own) other h = absurd h
  chunk-counts chunk turn_is.NoMemory other h = absurd (other refl)

  pub end-silent : (reuse : Bool) (turn : Turn) → d.writer.failed ≡ true → IsEndTurn reuse read_to e v u turn → u.sent ≡ v.sent
  end-silent reuse turn_is.On failed h = absurd h
  end-silent reuse (turn_is.Done again) failed h = same-written (end_bytes d.writer) (no-end-bytes d.writer failed) h.4
  end-silent reuse (turn_is.Failed cause_is.NoLink) failed h = absurd h
  end-silent reuse (turn_is.Failed cause_is.Line) failed h = absurd h
  end-silent reuse (turn_is.Failed cause_is.Ended) failed h = absurd h
  end-silent reuse (turn_is.Failed cause_is.BadReply) failed h = h.2
  end-silent reuse (turn_is.Failed cause_is.Disagree) failed h = h.3
  end-silent reuse (turn_is.Failed cause_is.TooLong) failed h = absurd h
  end-silent reuse (turn_is.Failed (cause_is.Status status)) failed h = absurd h
  end-silent reuse turn_is.Lost failed h = absurd h
  end-silent reuse (turn_is.LostAtEnd again) failed h = same-put (end_bytes d.writer) (no-end-bytes d.writer failed) h.3
  end-silent reuse turn_is.Unread failed h = absurd h
  end-silent reuse turn_is.Cut failed h = absurd h
  end-silent reuse (turn_is.Bad own) failed h = absurd h
  end-silent reuse turn_is.NoMemory failed h = same-put (end_bytes d.writer) (no-end-bytes d.writer failed) h.3

  pub end-counts : (reuse : Bool) (turn : Turn) → (turn ≡ turn_is.NoMemory → ⊥) → IsEndTurn reuse read_to e v u turn → (e.received ≡ count) × (e.sent ≡ d.sent)
  end-counts reuse turn_is.On other h = absurd h
  end-counts reuse (turn_is.Done again) other h = (ap (λ (x : Course). x.received) h.3, ap (λ (x : Course). x.sent) h.3)
  end-counts reuse (turn_is.Failed cause_is.NoLink) other h = absurd h
  end-counts reuse (turn_is.Failed cause_is.Line) other h = absurd h
  end-counts reuse (turn_is.Failed cause_is.Ended) other h = absurd h
  end-counts reuse (turn_is.Failed cause_is.BadReply) other h = (ap (λ (x : Course). x.received) h.1, ap (λ (x : Course). x.sent) h.1)
  end-counts reuse (turn_is.Failed cause_is.Disagree) other h = (ap (λ (x : Course). x.received) h.2, ap (λ (x : Course). x.sent) h.2)
  end-counts reuse (turn_is.Failed cause_is.TooLong) other h = absurd h
  end-counts reuse (turn_is.Failed (cause_is.Status status)) other h = absurd h
  end-counts reuse turn_is.Lost other h = absurd h
  end-counts reuse (turn_is.LostAtEnd again) other h = (ap (λ (x : Course). x.received) h.5, ap (λ (x : Course). x.sent) h.5)
  end-counts reuse turn_is.Unread other h = absurd h
  end-counts reuse turn_is.Cut other h = absurd h
  end-counts reuse (turn_is.Bad own) other h = absurd h
  end-counts reuse turn_is.NoMemory other h = absurd (other refl)

  -- one more chunk was dropped
  pub drains-more : IsPlan plan → Draining plan l m w v c d → (chunk : List ℕ) → IsHeard plan.packet plan.most m n d.received count (Chunk chunk)
      → IsChunkTurn plan chunk read_to e v u turn_is.On → Draining plan l n w u c e
  drains-more fit a chunk h t =
      let some = some-bytes plan.packet (Chunk chunk) h.bytes h.is in
      let exact : count ≡ d.received + length h.bytes = omega (arith, h.came.counts, some.1, a.below, fit.most) in
      let writer : e.writer ≡ counted_chunk d.writer chunk = ap (λ (x : Course). x.writer) t.2 ∙ counted-alone d.writer chunk a.lost.failed in
      let received : e.received ≡ count = ap (λ (x : Course). x.received) t.2 in
      record {
        chunks = chunk ∷ a.chunks;
        bytes = a.bytes ++ h.bytes;
        spelled = (a.bytes, h.bytes, a.spelled, h.is, refl);
        dropped = dropped-more l m n w v u a.bytes h.bytes d.received count a.dropped h.came (chunk-silent chunk turn_is.On a.lost.failed t);
        counts = omega (arith, received, exact, a.counts, length-append a.bytes h.bytes);
        below = omega (arith, received, h.below);
        same = ap (λ (x : Course). x.sent) t.2 ∙ a.same;
        framing = ap framing_now writer ∙ ap (λ (f : Framing). spent f (length chunk)) a.framing;
        within = sym (beyond-exceeds (framing_now c.writer) a.chunks (length chunk) a.within) ∙ ap (λ (f : Framing). is_beyond f (length chunk)) (sym a.framing) ∙ t.1;
        lost = record {
          headers = ap (λ (x : Course). x.headers) t.2 ∙ a.lost.headers;
          opened = record { framing = spent (framing_now d.writer) (length chunk); given = ap (λ (x : Writer). x.framing) writer; goes_on = ap (λ (x : Writer). x.ended) writer ∙ a.lost.opened.goes_on };
          failed = ap (λ (x : Writer). x.failed) writer ∙ a.lost.failed;
        };
        steady = h.steady ∙ a.steady;
      }

  -- and one more for which a write that had nothing to write was said to have failed
  pub drains-lost : IsPlan plan → Draining plan l m w v c d → (chunk : List ℕ) → IsHeard plan.packet plan.most m n d.received count (Chunk chunk)
      → IsChunkTurn plan chunk read_to e v u turn_is.Lost → Draining plan l n w u c e
  drains-lost fit a chunk h t =
      let some = some-bytes plan.packet (Chunk chunk) h.bytes h.is in
      let exact : count ≡ d.received + length h.bytes = omega (arith, h.came.counts, some.1, a.below, fit.most) in
      let gone = t.2 in
      let received : e.received ≡ count = ap (λ (x : Course). x.received) gone.rest in
      let now : framing_now e.writer ≡ spent (framing_now d.writer) (length chunk) = ap (λ (o : Option Framing). unwrap_or o By.NoBody) gone.writer.framing in
      record {
        chunks = chunk ∷ a.chunks;
        bytes = a.bytes ++ h.bytes;
        spelled = (a.bytes, h.bytes, a.spelled, h.is, refl);
        dropped = dropped-more l m n w v u a.bytes h.bytes d.received count a.dropped h.came (chunk-silent chunk turn_is.Lost a.lost.failed t);
        counts = omega (arith, received, exact, a.counts, length-append a.bytes h.bytes);
        below = omega (arith, received, h.below);
        same = ap (λ (x : Course). x.sent) gone.rest ∙ a.same;
        framing = now ∙ ap (λ (f : Framing). spent f (length chunk)) a.framing;
        within = sym (beyond-exceeds (framing_now c.writer) a.chunks (length chunk) a.within) ∙ ap (λ (f : Framing). is_beyond f (length chunk)) (sym a.framing) ∙ t.1;
        lost = record {
          headers = ap (λ (x : Course). x.headers) gone.rest ∙ a.lost.headers;
          opened = record { framing = spent (framing_now d.writer) (length chunk); given = gone.writer.framing; goes_on = gone.writer.ended ∙ a.lost.opened.goes_on };
          failed = gone.writer.failed;
        };
        steady = h.steady ∙ a.steady;
      }

  -- it ended at a message
  pub drained : IsPlan plan → (a : Draining plan l m w v c d) → (message : Message) (keep : Bool) → IsHeard plan.packet plan.most m n d.received count message
      → u.sent ≡ v.sent → (e.received ≡ count) × (e.sent ≡ d.sent) → (keep ≡ true → ⊥)
      → (message ≡ End true → agrees (framing_now c.writer) (sum_of a.chunks) ≡ true → ⊥) → EndsRest c a.chunks message → Drains plan l n w u c e keep false
  drained fit a message keep h same counts none no_end stops =
      let some = some-bytes plan.packet message h.bytes h.is in
      let exact : count ≡ d.received + length h.bytes = omega (arith, h.came.counts, some.1, a.below, fit.most) in
      record {
        bytes = a.bytes ++ h.bytes;
        dropped = dropped-more l m n w v u a.bytes h.bytes d.received count a.dropped h.came same;
        counts = omega (arith, counts.0, exact, a.counts, length-append a.bytes h.bytes);
        small = omega (arith, counts.0, h.below);
        same = counts.1 ∙ a.same;
        kept = λ keeps. absurd (none keeps);
        closed = λ f below. no_tail-message plan c a.chunks message (a.bytes ++ h.bytes) (a.bytes, h.bytes, a.spelled, h.is, refl) no_end;
        halted = λ f. inl (record { chunks = a.chunks; message = message; spelled = (a.bytes, h.bytes, a.spelled, h.is, refl); stops = stops });
      }

  -- it ended where no message came
  pub drained_silent : IsPlan plan → Draining plan l m w v c d → (why : Unheard) (want : Bool) → IsUnheard plan.packet plan.most m n d.received count why
      → (want ≡ false → why ≢ unheard_is.NoMemory) → u.sent ≡ v.sent → (e.received ≡ count) × (e.sent ≡ d.sent) → Drains plan l n w u c e false want
  drained_silent fit a why want h other same counts =
      let exact : count ≡ d.received + length h.bytes = omega (arith, h.came.counts, h.came.small, a.below, fit.most) in
      record {
        bytes = a.bytes ++ h.bytes;
        dropped = dropped-more l m n w v u a.bytes h.bytes d.received count a.dropped h.came same;
        counts = omega (arith, counts.0, exact, a.counts, length-append a.bytes h.bytes);
        small = omega (arith, counts.0, exact, h.came.small, a.below);
        same = counts.1 ∙ a.same;
        kept = λ keeps. absurd cc;
        closed = λ f below. no_tail-silent plan c a.chunks a.bytes h.bytes m n count why a.spelled h.as_said (omega (arith, counts.0, below));
        halted = λ f. inr (record {
          chunks = a.chunks;
          front = a.bytes;
          rest = h.bytes;
          spelled = a.spelled;
          whole = refl;
          why = why;
          as_said = came-since plan l m n count e.received h.bytes why a.steady counts.0 h.as_said;
          no_want = other;
        });
      }

  -- the reply ended
  ended_whole : IsPlan plan → (a : Draining plan l m w v c d) → (reuse : Bool) → IsHeard plan.packet plan.most m n d.received count (End reuse)
      → u.sent ≡ v.sent → (e.received ≡ count) × (e.sent ≡ d.sent) → is_complete (framing_now d.writer) ≡ true → Drains plan l n w u c e reuse false
  ended_whole fit a reuse h same counts complete =
      let some = some-bytes plan.packet (End reuse) h.bytes h.is in
      let exact : count ≡ d.received + length h.bytes = omega (arith, h.came.counts, some.1, a.below, fit.most) in
      record {
        bytes = a.bytes ++ h.bytes;
        dropped = dropped-more l m n w v u a.bytes h.bytes d.received count a.dropped h.came same;
        counts = omega (arith, counts.0, exact, a.counts, length-append a.bytes h.bytes);
        small = omega (arith, counts.0, h.below);
        same = counts.1 ∙ a.same;
        kept = λ keeps. (
          record {
            chunks = a.chunks;
            spelled = (a.bytes, h.bytes, a.spelled, subst (λ (r : Bool). IsPacketOf plan.packet (End r) h.bytes) keeps h.is, refl);
            sum = sym (complete-agrees (framing_now c.writer) a.chunks a.within) ∙ ap is_complete (sym a.framing) ∙ complete;
          },
          omega (arith, counts.0, h.below),
          h.steady ∙ a.steady,
        );
        halted = λ closes. inl (record { chunks = a.chunks; message = End reuse; spelled = (a.bytes, h.bytes, a.spelled, h.is, refl); stops = inl closes });
        closed = λ closes below. no_tail-message plan c a.chunks (End reuse) (a.bytes ++ h.bytes) (a.bytes, h.bytes, a.spelled, h.is, refl)
            (λ is sum. let lets : reuse ≡ true = cc in absurd (let stays = closes in cc));
      }

  pub drained_end : IsPlan plan → Draining plan l m w v c d → (reuse again : Bool) → IsHeard plan.packet plan.most m n d.received count (End reuse)
      → IsEndTurn reuse read_to e v u (turn_is.Done again) → Drains plan l n w u c e reuse false
  drained_end fit a reuse again h t =
      ended_whole fit a reuse h (end-silent reuse (turn_is.Done again) a.lost.failed t) (end-counts reuse (turn_is.Done again) (λ is. absurd cc) t) t.2

  pub drained_lost_end : IsPlan plan → Draining plan l m w v c d → (reuse again : Bool) → IsHeard plan.packet plan.most m n d.received count (End reuse)
      → IsEndTurn reuse read_to e v u (turn_is.LostAtEnd again) → Drains plan l n w u c e reuse false
  drained_lost_end fit a reuse again h t =
      ended_whole fit a reuse h (end-silent reuse (turn_is.LostAtEnd again) a.lost.failed t) (end-counts reuse (turn_is.LostAtEnd again) (λ is. absurd cc) t) t.2

  -- an end that was refused doesn't agree with what was due
  not_agreed : (a : Draining plan l m w v c d) (why : Cause) → IsChunkFailure read_to e v u (not (is_complete (framing_now d.writer))) why
      → agrees (framing_now c.writer) (sum_of a.chunks) ≡ true → ⊥
  not_agreed a cause_is.NoLink h sum = h
  not_agreed a cause_is.Line h sum = h
  not_agreed a cause_is.Ended h sum = h
  not_agreed a cause_is.BadReply h sum = (let none = h.0 in let some = a.lost.headers in absurd cc)
  not_agreed a cause_is.Disagree h sum =
      let short : is_complete (framing_now d.writer) ≡ false = not-true (is_complete (framing_now d.writer)) h.1 in
      let whole : is_complete (framing_now d.writer) ≡ true = ap is_complete a.framing ∙ complete-agrees (framing_now c.writer) a.chunks a.within ∙ sum in
      absurd cc
  not_agreed a cause_is.TooLong h sum = h
  not_agreed a (cause_is.Status status) h sum = h

  -- ---- each way out

  -- a chunk that is refused goes beyond what was due
  chunk-stops : (a : Draining plan l m w v c d) (chunk : List ℕ) (turn : Turn) → (turn ≡ turn_is.NoMemory → ⊥) → (turn ≡ turn_is.On → ⊥) → (turn ≡ turn_is.Lost → ⊥)
      → IsChunkTurn plan chunk read_to e v u turn → EndsRest c a.chunks (Chunk chunk)
  chunk-stops a chunk turn_is.On want on lost h = absurd (on refl)
  chunk-stops a chunk (turn_is.Done reuse) want on lost h = absurd h
  chunk-stops a chunk (turn_is.Failed cause_is.NoLink) want on lost h = absurd h
  chunk-stops a chunk (turn_is.Failed cause_is.Line) want on lost h = absurd h
  chunk-stops a chunk (turn_is.Failed cause_is.Ended) want on lost h = absurd h
  chunk-stops a chunk (turn_is.Failed cause_is.BadReply) want on lost h = absurd (let none = h.0 in let some = a.lost.headers in cc)
  chunk-stops a chunk (turn_is.Failed cause_is.Disagree) want on lost h =
      sym (beyond-exceeds (framing_now c.writer) a.chunks (length chunk) a.within) ∙ ap (λ (f : Framing). is_beyond f (length chunk)) (sym a.framing) ∙ h.1
  chunk-stops a chunk (turn_is.Failed cause_is.TooLong) want on lost h = absurd h
  chunk-stops a chunk (turn_is.Failed (cause_is.Status status)) want on lost h = absurd h
  chunk-stops a chunk turn_is.Lost want on lost h = absurd (lost refl)
  chunk-stops a chunk (turn_is.LostAtEnd reuse) want on lost h = absurd h
  chunk-stops a chunk turn_is.Unread want on lost h = absurd h
  chunk-stops a chunk turn_is.Cut want on lost h = absurd h
  chunk-stops a chunk (turn_is.Bad own) want on lost h = absurd h
  chunk-stops a chunk turn_is.NoMemory want on lost h = absurd (want refl)

  pub chunk_over : IsPlan plan → Draining plan l m w v c d → (chunk : List ℕ) (turn : Turn) → (turn ≡ turn_is.NoMemory → ⊥) → (turn ≡ turn_is.On → ⊥) → (turn ≡ turn_is.Lost → ⊥)
      → IsHeard plan.packet plan.most m n d.received count (Chunk chunk) → IsChunkTurn plan chunk read_to e v u turn → Drains plan l n w u c e false false
  chunk_over fit a chunk turn other on lost h t =
      drained fit a (Chunk chunk) false h (chunk-silent chunk turn a.lost.failed t) (chunk-counts chunk turn other t) (λ keeps. absurd cc) (λ is sum. absurd cc)
      (chunk-stops a chunk turn other on lost t)

  pub end_over : IsPlan plan → Draining plan l m w v c d → (reuse : Bool) (why : Cause)
      → IsHeard plan.packet plan.most m n d.received count (End reuse) → IsEndTurn reuse read_to e v u (turn_is.Failed why) → Drains plan l n w u c e false false
  end_over fit a reuse why h t =
      drained fit a (End reuse) false h (end-silent reuse (turn_is.Failed why) a.lost.failed t) (end-counts reuse (turn_is.Failed why) (λ is. absurd cc) t) (λ keeps. absurd cc)
      (λ is sum. not_agreed a why t sum) (inr (no-true (agrees (framing_now c.writer) (sum_of a.chunks)) (λ sum. not_agreed a why t sum)))

-- a message that is no part of the rest of a reply: the client is as it was
module _ (plan : TalkPlan) (l m n : Moment) (w v : Moment) (c d : Course) (count : ℕ) where
  pub other_over : IsPlan plan → (a : Draining plan l m w v c d) (message : Message) → (message ≡ End true → ⊥) → EndsRest c a.chunks message → IsHeard plan.packet plan.most m n d.received count message
      → Drains plan l n w v c (record d { received = count }) false false
  other_over fit a message other stops h =
      drained plan l m n w v v c d (record d { received = count }) count fit a message false h refl (refl, refl) (λ keeps. absurd cc) (λ is sum. other is) stops

-- How it stands after one more message: it goes on, or it is over.
abbrev pub IsDrainedOn : TalkPlan → Moment → Moment → Moment → Moment → Course → Course → Result (Option Bool) NoMemory → Type 0
IsDrainedOn plan l l' w w' c c' (Ok None) = Draining plan l l' w w' c c'
IsDrainedOn plan l l' w w' c c' (Ok (Some keep)) = IsDrained plan l l' w w' c c' (Ok keep)
IsDrainedOn plan l l' w w' c c' (Err want) = IsDrained plan l l' w w' c c' (Err want)

module _ (plan : TalkPlan) (l m n : Moment) (w v u : Moment) (c d e : Course) (count : ℕ) where
  at_chunk : IsPlan plan → Draining plan l m w v c d → (chunk : List ℕ) (want : NoMemory) (turn : Turn) → IsHeard plan.packet plan.most m n d.received count (Chunk chunk)
      → IsChunkTurn plan chunk (record d { received = count }) e v u turn → IsDrainedOn plan l n w u c e (rest_after want turn)
  at_chunk fit a chunk want turn_is.On h t = drains-more plan l m n w v u c d e count fit a chunk h t
  at_chunk fit a chunk want (turn_is.Done reuse) h t = absurd t
  at_chunk fit a chunk want (turn_is.Failed cause) h t =
      chunk_over plan l m n w v u c d e count fit a chunk (turn_is.Failed cause) (λ is. absurd cc) (λ is. absurd cc) (λ is. absurd cc) h t
  at_chunk fit a chunk want turn_is.Lost h t = drains-lost plan l m n w v u c d e count fit a chunk h t
  at_chunk fit a chunk want (turn_is.LostAtEnd reuse) h t = absurd t
  at_chunk fit a chunk want turn_is.Unread h t = absurd t
  at_chunk fit a chunk want turn_is.Cut h t = absurd t
  at_chunk fit a chunk want (turn_is.Bad own) h t = absurd t
  at_chunk fit a chunk want turn_is.NoMemory h t = absurd (let failed = a.lost.failed in let well = t.1 in cc)

  at_end : IsPlan plan → Draining plan l m w v c d → (reuse : Bool) (want : NoMemory) (turn : Turn) → IsHeard plan.packet plan.most m n d.received count (End reuse)
      → IsEndTurn reuse (record d { received = count }) e v u turn → IsDrainedOn plan l n w u c e (rest_after want turn)
  at_end fit a reuse want turn_is.On h t = absurd t
  at_end fit a reuse want (turn_is.Done again) h t =
      subst (λ (keep : Bool). Drains plan l n w u c e keep false) (sym t.0) (drained_end plan l m n w v u c d e count fit a reuse again h t)
  at_end fit a reuse want (turn_is.Failed cause) h t = end_over plan l m n w v u c d e count fit a reuse cause h t
  at_end fit a reuse want turn_is.Lost h t = absurd t
  at_end fit a reuse want (turn_is.LostAtEnd again) h t =
      subst (λ (keep : Bool). Drains plan l n w u c e keep false) (sym t.0) (drained_lost_end plan l m n w v u c d e count fit a reuse again h t)
  at_end fit a reuse want turn_is.Unread h t = absurd t
  at_end fit a reuse want turn_is.Cut h t = absurd t
  at_end fit a reuse want (turn_is.Bad own) h t = absurd t
  at_end fit a reuse want turn_is.NoMemory h t = absurd (let failed = a.lost.failed in let well = t.1 in cc)

  at_other : IsPlan plan → (a : Draining plan l m w v c d) (message : Message) (answer : Result (Option Bool) NoMemory) → (message ≡ End true → ⊥) → EndsRest c a.chunks message
      → IsHeard plan.packet plan.most m n d.received count message → IsClosing (record d { received = count }) e v u answer → IsDrainedOn plan l n w u c e answer
  at_other fit a message answer other stops h t =
      subst (IsDrainedOn plan l n w u c e) (sym t.closes)
      (subst (λ (x : Moment). Drains plan l n w x c e false false) (sym t.client)
      (subst (λ (k : Course). Drains plan l n w v c k false false) (sym t.course) (other_over plan l m n w v c d count fit a message other stops h)))

  at_message : IsPlan plan → Draining plan l m w v c d → (message : Message) (answer : Result (Option Bool) NoMemory) → IsHeard plan.packet plan.most m n d.received count message
      → IsDroppedMessage plan message (record d { received = count }) e v u answer → IsDrainedOn plan l n w u c e answer
  at_message fit a (Headers parts) answer h t = at_other fit a (Headers parts) answer (λ is. absurd cc) tt h t
  at_message fit a (Chunk chunk) answer h t = subst (IsDrainedOn plan l n w u c e) (sym t.2) (at_chunk fit a chunk t.0 t.1 h t.3)
  at_message fit a (End reuse) answer h t = subst (IsDrainedOn plan l n w u c e) (sym t.2) (at_end fit a reuse t.0 t.1 h t.3)
  at_message fit a (Ask most) answer h t = at_other fit a (Ask most) answer (λ is. absurd cc) tt h t
  at_message fit a Pong answer h t = at_other fit a Pong answer (λ is. absurd cc) tt h t

  at_none : IsPlan plan → Draining plan l m w v c d → (want : NoMemory) (why : Unheard) → IsUnheard plan.packet plan.most m n d.received count why
      → IsDrainedOn plan l n w v c (record d { received = count }) (rest_without want why)
  at_none fit a want unheard_is.Line h = drained_silent plan l m n w v v c d (record d { received = count }) count fit a unheard_is.Line false h (λ goes is. absurd cc) refl (refl, refl)
  at_none fit a want unheard_is.Ended h = drained_silent plan l m n w v v c d (record d { received = count }) count fit a unheard_is.Ended false h (λ goes is. absurd cc) refl (refl, refl)
  at_none fit a want unheard_is.Wrong h = drained_silent plan l m n w v v c d (record d { received = count }) count fit a unheard_is.Wrong false h (λ goes is. absurd cc) refl (refl, refl)
  at_none fit a want unheard_is.TooLong h = drained_silent plan l m n w v v c d (record d { received = count }) count fit a unheard_is.TooLong false h (λ goes is. absurd cc) refl (refl, refl)
  at_none fit a want unheard_is.NoMemory h = drained_silent plan l m n w v v c d (record d { received = count }) count fit a unheard_is.NoMemory true h (λ goes is. absurd cc) refl (refl, refl)

pub drained_on : (plan : TalkPlan) (l m n : Moment) (w v u : Moment) (c d e : Course) (answer : Result (Option Bool) NoMemory) → IsPlan plan → Draining plan l m w v c d
    → IsDrop plan m n v u d e answer → IsDrainedOn plan l n w u c e answer
drained_on plan l m n w v u c d e answer fit a (inl t) = at_message plan l m n w v u c d e t.count fit a t.message answer t.heard t.acts
drained_on plan l m n w v u c d e answer fit a (inr t) =
    subst (IsDrainedOn plan l n w u c e) (sym t.closes)
    (subst (λ (x : Moment). IsDrainedOn plan l n w x c e (rest_without t.want t.why)) (sym t.client)
    (subst (λ (k : Course). IsDrainedOn plan l n w v c k (rest_without t.want t.why)) (sym t.course) (at_none plan l m n w v u c d e t.count fit a t.want t.why t.unheard)))

-- a message that was read was counted
pub drop_more : (plan : TalkPlan) (l m n : Moment) (w v u : Moment) (c d e : Course) → IsPlan plan → Draining plan l m w v c d → IsDrop plan m n v u d e (Ok None)
    → d.received < e.received
drop_more plan l m n w v u c d e fit a (inl t) =
    let some = some-bytes plan.packet t.message t.heard.bytes t.heard.is in
    let exact : t.count ≡ d.received + length t.heard.bytes = omega (arith, t.heard.came.counts, some.1, a.below, fit.most) in
    let received : e.received ≡ t.count = counted t.message t.acts in
    omega (arith, received, exact, some.0)
  where
    of : (chunk : List ℕ) (want : NoMemory) (turn : Turn) → Ok None ≡ rest_after want turn → IsChunkTurn plan chunk (record d { received = t.count }) e v u turn → e.received ≡ t.count
    of chunk want turn_is.On is h = ap (λ (x : Course). x.received) h.2
    of chunk want (turn_is.Done reuse) is h = absurd h
    of chunk want (turn_is.Failed cause) is h = absurd cc
    of chunk want turn_is.Lost is h = ap (λ (x : Course). x.received) h.2.rest
    of chunk want (turn_is.LostAtEnd reuse) is h = absurd h
    of chunk want turn_is.Unread is h = absurd h
    of chunk want turn_is.Cut is h = absurd h
    of chunk want (turn_is.Bad own) is h = absurd h
    of chunk want turn_is.NoMemory is h = absurd cc

    ended : (reuse : Bool) (want : NoMemory) (turn : Turn) → Ok None ≡ rest_after want turn → IsEndTurn reuse (record d { received = t.count }) e v u turn → e.received ≡ t.count
    ended reuse want turn_is.On is h = absurd h
    ended reuse want (turn_is.Done again) is h = absurd cc
    ended reuse want (turn_is.Failed cause) is h = absurd cc
    ended reuse want turn_is.Lost is h = absurd h
    ended reuse want (turn_is.LostAtEnd again) is h = absurd cc
    ended reuse want turn_is.Unread is h = absurd h
    ended reuse want turn_is.Cut is h = absurd h
    ended reuse want (turn_is.Bad own) is h = absurd h
    ended reuse want turn_is.NoMemory is h = absurd cc

    counted : (message : Message) → IsDroppedMessage plan message (record d { received = t.count }) e v u (Ok None) → e.received ≡ t.count
    counted (Headers parts) h = absurd (let is = h.closes in cc)
    counted (Chunk chunk) h = of chunk h.0 h.1 h.2 h.3
    counted (End reuse) h = ended reuse h.0 h.1 h.2 h.3
    counted (Ask most) h = absurd (let is = h.closes in cc)
    counted Pong h = absurd (let is = h.closes in cc)
drop_more plan l m n w v u c d e fit a (inr t) = absurd (of t.want t.why t.closes)
  where
    of : (want : NoMemory) (why : Unheard) → Ok None ≡ rest_without want why → ⊥
    of want unheard_is.Line is = cc
    of want unheard_is.Ended is = cc
    of want unheard_is.Wrong is = cc
    of want unheard_is.TooLong is = cc
    of want unheard_is.NoMemory is = cc

pub course-of : (c : Course) → IsLostCourse c → IsOnCourse c
course-of c lost = record { opened = λ e. lost.opened; fresh = λ e. absurd (let some = lost.headers in cc) }
