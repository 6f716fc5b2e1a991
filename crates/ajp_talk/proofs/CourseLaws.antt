-- How a talk stands between two messages, and that each message that it accepts leaves it standing so.
use Rattle.std.proofs.Common.{◌≡◌, ℕ, ◌+◌, ◌≤◌, ◌<◌, Bool, true, false, List, [], ◌∷◌, ◌++◌, length, refl, sym, ap, subst, ◌∙◌, arith, append_assoc, length-append, Option, Some, None, IfSome, is_some, inl, inr}
use Rattle.std.specs.Prelude.{◌==◌, if◌then◌else◌}
use Rattle.std.specs.Option.{option_map}
use Rattle.std.proofs.lemmas.Bool.{cases_Bool, eqb-false}
use Rattle.jk_io.specs.Told.{appended}
use Rattle.jk_io.proofs.ToldLaws.{appended-appended}
use Rattle.ajp_wire.specs.Packet.{body_packet}
use Rattle.ajp_reply.specs.declared.message.Message.{Message}
use Rattle.ajp_reply.specs.declared.message.Message.TheVariants.{Headers, Chunk, End, Ask, Pong}
use Rattle.ajp_reply.specs.declared.message.ReplyParts.{ReplyParts}
use Rattle.ajp_reply.specs.Stream.{IsPacketOf, Spelled, IsFront, head_of}
use Rattle.http_front.specs.Body.{Data, dropped}
use Rattle.http_front.specs.State.{taken_of}
use Rattle.http_front.specs.Walks.{counted}
use Rattle.http_out.specs.declared.framing.RequestKind.{RequestKind}
use Rattle.http_out.specs.Framing.{framing_of, has_no_body, is_beyond, is_complete}
use Rattle.http_out.specs.ReplyBytes.{so_far, so_far_of}
use Rattle.http_out.specs.Writer.{Writer, framing_now, after_head, after_chunk, chunk_bytes, end_bytes}
use Rattle.http_out.proofs.ReplyLaws.{grows, ends}
use Rattle.jk_io.specs.Moments.{Moment}
use Rattle.ajp_talk.specs.Moments.{BodyAt, TalkMoment, data_at, Traffic, IsSteady, TakesOfBody, IsFrontOf}
use Rattle.ajp_talk.specs.Replies.{is_good, is_listed, head_out, kind_of, chunks_of, sum_of, framing_in, exceeds, agrees, so_far_of_talk, whole_of, told_by}
use Rattle.ajp_talk.specs.Owed.{want, asked, answer, behind_first, answers, pong_of, opening, owed}
use Rattle.ajp_talk.specs.Courses.{writer_for, Stands}
use Rattle.ajp_talk.specs.Turns.{IsHeard, Sends, GivesData, with_head, with_chunk}
use Rattle.ajp_talk.specs.Ends.{IsPlan}
use Rattle.ajp_talk.specs.declared.plan.TalkPlan.{TalkPlan}
use Rattle.ajp_talk.specs.declared.course.Course.{Course}
use Rattle.ajp_talk.specs.declared.ending.Told.{Told}
use Rattle.ajp_talk.proofs.MessageLaws.{some-bytes, sum-within, chunk-within}
use Rattle.ajp_talk.proofs.ReplyLaws.{beyond-exceeds, complete-agrees, none-exceeds, none-of, first-head}
use Rattle.ajp_talk.proofs.AskLaws.{dropped-dropped, left-then, told-answer, traffic-came, traffic-sent, takes-then}

-- One message more came, and nothing was done with it yet.
pub record Next (plan : TalkPlan) (s : TalkMoment) (l : Moment) (c : Course) (count : ℕ) (message : Message) (past : List Message) (came put bytes : List ℕ) : Type 0 where
  pub traffic : Traffic s.line l (pong_of plan ++ (came ++ bytes)) put
  pub spelled : Spelled plan.packet (message ∷ past) (came ++ bytes)
  pub counts : count ≡ length (pong_of plan ++ (came ++ bytes))
  pub exact : count ≡ c.received + length bytes
  pub more : c.received < count
  pub below : count < plan.most
  pub is : IsPacketOf plan.packet message bytes
  pub opened : IsFrontOf (opening plan) put
  pub steady : IsSteady s.line l

pub longer : (pong came bytes : List ℕ) → length (pong ++ (came ++ bytes)) ≡ length (pong ++ came) + length bytes
longer pong came bytes = omega (arith, length-append pong (came ++ bytes), length-append came bytes, length-append pong came)

pub next : (plan : TalkPlan) (s m : TalkMoment) (l : Moment) (c : Course) (count : ℕ) (message : Message) (past : List Message) (came put : List ℕ) → IsPlan plan
    → Stands plan s m c past came put → IsFrontOf (opening plan) put → IsSteady s.line m.line
    → (h : IsHeard plan.packet plan.most m.line l c.received count message)
    → Next plan s l c count message past came put h.bytes
next plan s m l c count message past came put fit st opened steady h =
    let some = some-bytes plan.packet message h.bytes h.is in
    let exact : count ≡ c.received + length h.bytes = omega (arith, h.came.counts, st.below, fit.most, some.1) in
    record {
      traffic = traffic-came s.line m.line l (pong_of plan) came h.bytes put st.traffic h.came.came h.came.sent;
      spelled = (came, h.bytes, st.accepts.spelled, h.is, refl);
      counts = omega (arith, exact, st.received, longer (pong_of plan) came h.bytes);
      exact = exact;
      more = omega (arith, exact, some.0);
      below = h.below;
      is = h.is;
      opened = opened;
      steady = h.steady ∙ steady;
    }

-- ---- a head

-- without a head there is no chunk
no_chunks : (past : List Message) → IsFront is_good past → is_some (head_of past) ≡ false → chunks_of past ≡ []
no_chunks [] front none = refl
no_chunks (Headers parts ∷ past) front none = absurd cc
no_chunks (Chunk chunk ∷ past) front none = absurd (let some = front.0 in cc)
no_chunks (End reuse ∷ past) front none = absurd front
no_chunks (Ask n ∷ past) front none = no_chunks past front none
no_chunks (Pong ∷ past) front none = absurd front

nothing-held : (kind : RequestKind) (told : Option (List ℕ)) (o : Option ReplyParts) (chunks : List (List ℕ)) (parts : ReplyParts) → o ≡ None → chunks ≡ []
    → appended told (so_far kind (option_map head_out o) chunks) ≡ appended told (so_far kind (Some (head_out parts)) chunks)
nothing-held kind told o chunks parts none first = rw (none, first) refl

told-first : (kind : RequestKind) (parts : ReplyParts) (chunks : List (List ℕ)) → chunks ≡ []
    → ◌≡◌ {A = Told} (record { status = parts.status; body = 0 }) (told_by kind parts chunks)
told-first kind parts chunks first =
    rw first (elim (cases_Bool (has_no_body kind parts.status)) as (λ _. ◌≡◌ {A = Told} (record { status = parts.status; body = 0 }) (told_by kind parts []))
    [ inl bare ↦ rw bare refl | inr full ↦ rw full refl ])

within-first : (plan : TalkPlan) (parts : ReplyParts) (chunks : List (List ℕ)) → chunks ≡ [] → exceeds (framing_in plan parts) (sum_of chunks) ≡ false
within-first plan parts chunks first = rw first (none-exceeds (framing_in plan parts))

pub stand_head : (plan : TalkPlan) (s m n : TalkMoment) (c c' : Course) (count : ℕ) (parts : ReplyParts) (past : List Message) (came put bytes : List ℕ)
    → Stands plan s m c past came put → Next plan s n.line c count (Headers parts) past came put bytes
    → c.headers ≡ false → is_good parts ≡ true → is_listed plan.fail_on parts.status ≡ false → c' ≡ with_head (record c { received = count }) parts
    → n.client ≡ m.client → n.body ≡ m.body → Stands plan s n c' (Headers parts ∷ past) (came ++ bytes) put
stand_head plan s m n c c' count parts past came put bytes st nx none good unlisted is client body =
    let no_head : is_some (head_of past) ≡ false = sym st.headers ∙ none in
    let first = no_chunks past st.accepts.front no_head in
    let received : c'.received ≡ count = ap (λ (x : Course). x.received) is in
    let sent : c'.sent ≡ c.sent = ap (λ (x : Course). x.sent) is in
    record {
      accepts = record {
        spelled = nx.spelled;
        front = (no_head, good, st.accepts.front);
        unlisted = unlisted;
        within = within-first plan parts (chunks_of past) first;
      };
      traffic = nx.traffic;
      written = ap (λ (w : Moment). w.sent) client ∙ st.written
          ∙ nothing-held (kind_of plan) s.client.sent (head_of past) (chunks_of past) parts (none-of (head_of past) no_head) first;
      writer = ap (λ (x : Course). x.writer) is ∙ ap (λ (w : Writer). after_head w (head_out parts)) st.writer
          ∙ first-head (kind_of plan) (head_of past) (chunks_of past) parts (none-of (head_of past) no_head) first;
      headers = ap (λ (x : Course). x.headers) is;
      told = ap (λ (x : Course). x.told) is ∙ told-first (kind_of plan) parts (chunks_of past) first;
      sent = sent ∙ st.sent;
      received = received ∙ nx.counts;
      below = omega (arith, received, nx.below);
      few = omega (arith, st.few, received, nx.more);
      taken = st.taken;
      takes = subst (λ (b : BodyAt). TakesOfBody s.body b st.taken) (sym body) st.takes;
      left = ap data_at body ∙ st.left;
      asked_for = st.asked_for;
      little = omega (arith, st.little, received, nx.more, ap (λ (b : BodyAt). taken_of b.body) body);
    }

-- ---- a chunk

module _ (kind : RequestKind) where
  pub chunk-sum : (o : Option ReplyParts) (chunks : List (List ℕ)) (w : Writer) (n : ℕ) (b : Bool) → w ≡ writer_for kind o chunks → is_some o ≡ true
      → IfSome o (λ parts. exceeds (framing_of kind (head_out parts)) (sum_of chunks) ≡ false) → is_beyond (framing_now w) n ≡ b
      → IfSome o (λ parts. exceeds (framing_of kind (head_out parts)) (sum_of chunks + n) ≡ b)
  chunk-sum None chunks w n b e some within is = absurd cc
  chunk-sum (Some parts) chunks w n b e some within is =
      sym (beyond-exceeds (framing_of kind (head_out parts)) chunks n within) ∙ ap (λ (x : Writer). is_beyond (framing_now x) n) (sym e) ∙ is

  pub end-sum : (o : Option ReplyParts) (chunks : List (List ℕ)) (w : Writer) (b : Bool) → w ≡ writer_for kind o chunks → is_some o ≡ true
      → IfSome o (λ parts. exceeds (framing_of kind (head_out parts)) (sum_of chunks) ≡ false) → is_complete (framing_now w) ≡ b
      → IfSome o (λ parts. agrees (framing_of kind (head_out parts)) (sum_of chunks) ≡ b)
  end-sum None chunks w b e some within is = absurd cc
  end-sum (Some parts) chunks w b e some within is =
      sym (complete-agrees (framing_of kind (head_out parts)) chunks within) ∙ ap (λ (x : Writer). is_complete (framing_now x)) (sym e) ∙ is

  pub chunk-written : (o : Option ReplyParts) (chunks : List (List ℕ)) (w : Writer) (chunk : List ℕ) → w ≡ writer_for kind o chunks → is_some o ≡ true
      → so_far kind (option_map head_out o) (chunk ∷ chunks) ≡ so_far kind (option_map head_out o) chunks ++ chunk_bytes w chunk
  chunk-written None chunks w chunk e some = absurd cc
  chunk-written (Some parts) chunks w chunk e some =
      (grows kind (head_out parts) chunk chunks).0 ∙ ap (λ (x : Writer). so_far_of kind (head_out parts) chunks ++ chunk_bytes x chunk) (sym e)

  pub chunk-writer : (o : Option ReplyParts) (chunks : List (List ℕ)) (w : Writer) (chunk : List ℕ) → w ≡ writer_for kind o chunks → is_some o ≡ true
      → after_chunk w chunk ≡ writer_for kind o (chunk ∷ chunks)
  chunk-writer None chunks w chunk e some = absurd cc
  chunk-writer (Some parts) chunks w chunk e some =
      ap (λ (x : Writer). after_chunk x chunk) e ∙ (grows kind (head_out parts) chunk chunks).1

  pub end-written : (o : Option ReplyParts) (chunks : List (List ℕ)) (w : Writer) → w ≡ writer_for kind o chunks → is_some o ≡ true
      → whole_of kind (option_map head_out o) chunks ≡ so_far kind (option_map head_out o) chunks ++ end_bytes w
  end-written None chunks w e some = absurd cc
  end-written (Some parts) chunks w e some =
      ends kind (head_out parts) chunks ∙ ap (λ (x : Writer). so_far_of kind (head_out parts) chunks ++ end_bytes x) (sym e)

-- what is told after one more chunk
abbrev told-more : RequestKind → Told → List ℕ → Told
told-more kind told chunk = record { status = told.status; body = counted told.body (if has_no_body kind told.status then 0 else length chunk) }

told-chunk : (kind : RequestKind) (parts : ReplyParts) (chunks : List (List ℕ)) (told : Told) (chunk : List ℕ) → told ≡ told_by kind parts chunks
    → sum_of chunks + length chunk < 18446744073709551616 → told-more kind told chunk ≡ told_by kind parts (chunk ∷ chunks)
told-chunk kind parts chunks told chunk is fits =
    ap (λ (t : Told). told-more kind t chunk) is ∙ of
  where
    of : told-more kind (told_by kind parts chunks) chunk ≡ told_by kind parts (chunk ∷ chunks)
    of = elim (cases_Bool (has_no_body kind parts.status)) as (λ _. told-more kind (told_by kind parts chunks) chunk ≡ told_by kind parts (chunk ∷ chunks)) [
      | inl bare ↦ rw bare refl
      | inr full ↦ rw full (ap (λ (n : ℕ). record { status = parts.status; body = n }) (omega (arith, fits)))
    ]

told-chunk-if : (kind : RequestKind) (o : Option ReplyParts) (chunks : List (List ℕ)) (told : Told) (chunk : List ℕ) → IfSome o (λ parts. told ≡ told_by kind parts chunks)
    → sum_of chunks + length chunk < 18446744073709551616 → IfSome o (λ parts. told-more kind told chunk ≡ told_by kind parts (chunk ∷ chunks))
told-chunk-if kind None chunks told chunk is fits = tt
told-chunk-if kind (Some parts) chunks told chunk is fits = told-chunk kind parts chunks told chunk is fits

pub stand_chunk : (plan : TalkPlan) (s m n : TalkMoment) (c c' : Course) (count : ℕ) (chunk : List ℕ) (past : List Message) (came put bytes : List ℕ)
    → IsPlan plan → Stands plan s m c past came put → Next plan s n.line c count (Chunk chunk) past came put bytes
    → c.headers ≡ true → is_beyond (framing_now c.writer) (length chunk) ≡ false → c' ≡ with_chunk plan (record c { received = count }) chunk
    → n.client.sent ≡ appended m.client.sent (chunk_bytes c.writer chunk) → n.body ≡ m.body
    → Stands plan s n c' (Chunk chunk ∷ past) (came ++ bytes) put
stand_chunk plan s m n c c' count chunk past came put bytes fit st nx some within is written body =
    let has_head : is_some (head_of past) ≡ true = sym st.headers ∙ some in
    let received : c'.received ≡ count = ap (λ (x : Course). x.received) is in
    let sent : c'.sent ≡ c.sent = ap (λ (x : Course). x.sent) is in
    let sum = sum-within plan.packet past came st.accepts.spelled in
    let one = chunk-within plan.packet chunk bytes nx.is in
    let fits : sum_of (chunks_of past) + length chunk < 18446744073709551616 =
    omega (arith, sum, one, st.received, length-append (pong_of plan) came, nx.below, nx.exact, fit.most) in
    record {
      accepts = record {
        spelled = nx.spelled;
        front = (has_head, st.accepts.front);
        unlisted = st.accepts.unlisted;
        within = chunk-sum (kind_of plan) (head_of past) (chunks_of past) c.writer (length chunk) false st.writer has_head st.accepts.within within;
      };
      traffic = nx.traffic;
      written = written ∙ ap (λ (o : Option (List ℕ)). appended o (chunk_bytes c.writer chunk)) st.written
          ∙ appended-appended s.client.sent (so_far_of_talk plan past) (chunk_bytes c.writer chunk)
          ∙ ap (appended s.client.sent) (sym (chunk-written (kind_of plan) (head_of past) (chunks_of past) c.writer chunk st.writer has_head));
      writer = ap (λ (x : Course). x.writer) is ∙ chunk-writer (kind_of plan) (head_of past) (chunks_of past) c.writer chunk st.writer has_head;
      headers = ap (λ (x : Course). x.headers) is ∙ st.headers;
      told = subst (λ (t : Told). IfSome (head_of past) (λ parts. t ≡ told_by (kind_of plan) parts (chunk ∷ chunks_of past))) (sym (ap (λ (x : Course). x.told) is))
          (told-chunk-if (kind_of plan) (head_of past) (chunks_of past) c.told chunk st.told fits);
      sent = sent ∙ st.sent;
      received = received ∙ nx.counts;
      below = omega (arith, received, nx.below);
      few = omega (arith, st.few, received, nx.more);
      taken = st.taken;
      takes = subst (λ (b : BodyAt). TakesOfBody s.body b st.taken) (sym body) st.takes;
      left = ap data_at body ∙ st.left;
      asked_for = st.asked_for;
      little = omega (arith, st.little, received, nx.more, ap (λ (b : BodyAt). taken_of b.body) body);
    }

-- ---- an ask

pub answer-length : (piece : List ℕ) → length (body_packet piece) ≤ length piece + 6
answer-length [] = omega arith
answer-length (byte ∷ piece) = omega arith

pub front-length : (xs ys : List ℕ) → IsFrontOf xs ys → length xs ≤ length ys
front-length xs ys f = omega (arith, ap length f.joined, length-append xs f.rest)

pub want-piece : (plan : TalkPlan) (n : ℕ) → IsPlan plan → (0 < want plan.piece n) × (want plan.piece n ≤ 65530)
want-piece plan n fit =
    elim (cases_Bool (n == 0)) as (λ _. (0 < want plan.piece n) × (want plan.piece n ≤ 65530)) [
      | inl none ↦ rw none (fit.some_piece, fit.piece)
      | inr some ↦ rw some (let above = eqb-false n 0 some in (omega (arith, fit.some_piece, above), omega (arith, fit.piece)))
    ]

pub stand_ask : (plan : TalkPlan) (s m n : TalkMoment) (l : Moment) (c c' : Course) (count ask : ℕ) (piece more : List ℕ) (past : List Message) (came put bytes : List ℕ)
    → IsPlan plan → Stands plan s m c past came put → Next plan s l c count (Ask ask) past came put bytes
    → GivesData (want plan.piece ask) m.body n.body piece → Sends l n.line c.sent c'.sent more → IsFrontOf more (body_packet piece)
    → c' ≡ record c { received = count; sent = c'.sent } → n.client.sent ≡ m.client.sent
    → Stands plan s n c' (Ask ask ∷ past) (came ++ bytes) (put ++ more)
stand_ask plan s m n l c c' count ask piece more past came put bytes fit st nx gives sends front is written =
    let received : c'.received ≡ count = ap (λ (x : Course). x.received) is in
    let short : length more ≤ length piece + 6 = omega (arith, front-length more (body_packet piece) front, answer-length piece) in
    let wanted = want-piece plan ask fit in
    let narrow : length piece ≤ 65530 = omega (arith, gives.within, wanted.1) in
    let sent : c'.sent ≡ c.sent + length more = omega (arith, sends.counts, st.sent, st.few, st.below, fit.most, short, narrow) in
    let taken : taken_of m.body.body + length piece < 18446744073709551616 = omega (arith, st.little, narrow, st.below, fit.most) in
    let takes = takes-then (want plan.piece ask) s.body m.body n.body st.taken piece st.takes gives taken in
    let counts : taken_of n.body.body ≡ taken_of m.body.body + length piece = omega (arith, gives.counts, taken) in
    record {
      accepts = record { spelled = nx.spelled; front = st.accepts.front; unlisted = st.accepts.unlisted; within = st.accepts.within };
      traffic = traffic-sent s.line l n.line (pong_of plan ++ (came ++ bytes)) put more c.sent c'.sent nx.traffic sends;
      written = written ∙ st.written;
      writer = ap (λ (x : Course). x.writer) is ∙ st.writer;
      headers = ap (λ (x : Course). x.headers) is ∙ st.headers;
      told = subst (λ (t : Told). IfSome (head_of past) (λ parts. t ≡ told_by (kind_of plan) parts (chunks_of past))) (sym (ap (λ (x : Course). x.told) is)) st.told;
      sent = omega (arith, sent, st.sent, length-append put more);
      received = received ∙ nx.counts;
      below = omega (arith, received, nx.below);
      few = omega (arith, st.few, received, nx.more, short, narrow, length-append put more);
      taken = st.taken ++ piece;
      takes = takes;
      left = gives.left ∙ ap (dropped (want plan.piece ask)) st.left ∙ dropped-dropped (asked plan.piece past) (want plan.piece ask) (data_at s.body);
      asked_for = omega (arith, st.asked_for, gives.within, length-append st.taken piece);
      little = omega (arith, counts, st.little, received, nx.more, narrow);
    }

pub both-then : (t : Option Data) (P Q R : Data → Type 0) → IfSome t P → IfSome t Q → ((d : Data) → P d → Q d → R d) → IfSome t R
both-then None P Q R p q f = tt
both-then (Some d) P Q R p q f = f d p q

-- the answer is what is owed for the ask
pub owed-answer : (plan : TalkPlan) (s m : BodyAt) (n : BodyAt) (ask : ℕ) (piece : List ℕ) (past : List Message)
    → data_at m ≡ dropped (asked plan.piece past) (data_at s) → GivesData (want plan.piece ask) m n piece
    → IfSome (data_at s) (λ d. body_packet piece ≡ answer (want plan.piece ask) (behind_first (asked plan.piece past) d))
owed-answer plan s m n ask piece past left gives =
    left-then (asked plan.piece past) (data_at s) (data_at m) _ _ left (λ d h. told-answer (want plan.piece ask) (behind_first (asked plan.piece past) d) piece h) gives.data'

pub owed-longer : (plan : TalkPlan) (d : Data) (ask : ℕ) (past : List Message)
    → owed plan d (Ask ask ∷ past) ≡ owed plan d past ++ answer (want plan.piece ask) (behind_first (asked plan.piece past) d)
owed-longer plan d ask past = sym (append_assoc (opening plan) (answers plan.piece d past) (answer (want plan.piece ask) (behind_first (asked plan.piece past) d)))
