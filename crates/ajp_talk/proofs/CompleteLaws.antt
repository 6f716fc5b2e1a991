-- Where a whole reply comes and nothing fails, a talk is done.
use Rattle.std.proofs.Common.{◌≡◌, ◌≢◌, ℕ, ◌+◌, ◌≤◌, ◌<◌, ◌↔◌, Bool, true, false, List, [], ◌∷◌, ◌++◌, length, refl, sym, ap, subst, ◌∙◌, arith, append_assoc, append-nil, length-append, length-take, take, Option, Some, None, IfSome, is_some, inl, inr, ◌⊎◌, Result, Ok, Err}
use Rattle.std.proofs.lemmas.Bool.{cond-true, ltb-true, eqb-true, cases_lt, or_right}
use Rattle.jk_io.specs.Moments.{Moment}
use Rattle.jk_io.specs.Told.{appended, prepended, Rose, IsEmpty}
use Rattle.jk_io.specs.declared.failures.NoMemory.{NoMemory}
use Rattle.ajp_wire.specs.Packet.{packet, HasCome}
use Rattle.ajp_wire.proofs.PacketLaws.{packet-only, part-none}
use Rattle.ajp_reply.specs.declared.message.Message.{Message}
use Rattle.ajp_reply.specs.declared.message.Message.TheVariants.{Headers, Chunk, End, Ask, Pong}
use Rattle.ajp_reply.specs.declared.message.ReplyParts.{ReplyParts}
use Rattle.ajp_reply.specs.Stream.{IsPacketOf, Spelled, IsFront, IsForm, head_of}
use Rattle.ajp_reply.proofs.StreamLaws.{packets-only, goes_on, not_both}
use Rattle.http_out.specs.declared.framing.Framing.{Framing}
use Rattle.http_out.specs.declared.framing.Framing.TheVariants as By
use Rattle.http_front.specs.Body.{Data, reaches}
use Rattle.http_front.specs.State.{taken_of, most_of}
use Rattle.ajp_talk.specs.Moments.{TalkMoment, data_at}
use Rattle.ajp_talk.specs.Replies.{is_good, is_listed, chunks_of, sum_of, framing_in, exceeds, agrees, IsUnlisted, IsReply, bytes_for}
use Rattle.ajp_talk.specs.Owed.{asked, pong_of}
use Rattle.ajp_talk.specs.Talk.{IsTalk, HasFailed, HasNoPong, IsPingCause, IsCause, IsWrong, IsNext, BreaksSum, IsDone, IsGone, HasBadBody}
use Rattle.ajp_talk.specs.Complete.{Brings, BringsWhole, IsCompleted}
use Rattle.ajp_talk.specs.declared.plan.TalkPlan.{TalkPlan}
use Rattle.ajp_reply.specs.declared.stage.Stage.{Stage}
use Rattle.ajp_talk.specs.declared.ending.Told.{Told}
use Rattle.ajp_talk.specs.declared.ending.Cause.{Cause}
use Rattle.ajp_talk.specs.declared.ending.Cause.TheVariants as cause_is
use Rattle.ajp_talk.specs.declared.ending.TalkEnd.{TalkEnd}
use Rattle.ajp_talk.specs.declared.ending.TalkEnd.TheVariants as ends

-- ---- lists

-- of two beginnings of one list, one begins the other
pub prefix-cases : (a b x y : List ℕ) → a ++ x ≡ b ++ y → ((more : List ℕ) × (b ≡ a ++ more)) ⊎ ((more : List ℕ) × (a ≡ b ++ more))
prefix-cases [] b x y e = inl (b, refl)
prefix-cases (c ∷ a) [] x y e = inr (c ∷ a, refl)
prefix-cases (c ∷ a) (d ∷ b) x y e =
    let same : c ≡ d = cc in
    let rest : a ++ x ≡ b ++ y = cc in
    elim (prefix-cases a b x y rest) [
      | inl (more, is) ↦ inl (more, ap (λ (l : List ℕ). d ∷ l) is ∙ ap (λ (n : ℕ). n ∷ (a ++ more)) (sym same))
      | inr (more, is) ↦ inr (more, ap (λ (l : List ℕ). c ∷ l) is ∙ ap (λ (n : ℕ). n ∷ (b ++ more)) same)
    ]

pub cancel-front : (a x y : List ℕ) → a ++ x ≡ a ++ y → x ≡ y
cancel-front [] x y e = e
cancel-front (c ∷ a) x y e = cancel-front a x y cc

-- ---- replies and their fronts

front-of : (later past : List Message) → IsFront is_good (later ++ past) → IsFront is_good past
front-of [] past f = f
front-of (Headers parts ∷ later) past f = front-of later past f.2
front-of (Chunk bytes ∷ later) past f = front-of later past f.1
front-of (End reuse ∷ later) past f = absurd f
front-of (Ask most ∷ later) past f = front-of later past f
front-of (Pong ∷ later) past f = absurd f

form-front : (m : Message) (later past : List Message) → IsForm is_good (m ∷ (later ++ past)) → IsFront is_good (later ++ past)
form-front (Headers parts) later past f = absurd f
form-front (Chunk bytes) later past f = absurd f
form-front (End reuse) later past f = f.1
form-front (Ask most) later past f = absurd f
form-front Pong later past f = absurd f

form-of : (later past : List Message) → IsForm is_good (later ++ past) → (later ≡ []) ⊎ IsFront is_good past
form-of [] past f = inl refl
form-of (m ∷ later) past f = inr (front-of later past (form-front m later past f))

-- the head stays the same
head-front : (later past : List Message) (parts : ReplyParts) → head_of past ≡ Some parts → IsFront is_good (later ++ past) → head_of (later ++ past) ≡ Some parts
head-front [] past parts h f = h
head-front (Headers other ∷ later) past parts h f =
    let some = head-front later past parts h f.2 in
    let none = f.0 in
    absurd (let is : is_some (head_of (later ++ past)) ≡ true = ap is_some some in cc)
head-front (Chunk bytes ∷ later) past parts h f = head-front later past parts h f.1
head-front (End reuse ∷ later) past parts h f = absurd f
head-front (Ask most ∷ later) past parts h f = head-front later past parts h f
head-front (Pong ∷ later) past parts h f = absurd f

head-form : (m : Message) (later past : List Message) (parts : ReplyParts) → head_of past ≡ Some parts → IsForm is_good (m ∷ (later ++ past)) → head_of (m ∷ (later ++ past)) ≡ Some parts
head-form (Headers other) later past parts h f = absurd f
head-form (Chunk bytes) later past parts h f = absurd f
head-form (End reuse) later past parts h f = head-front later past parts h f.1
head-form (Ask most) later past parts h f = absurd f
head-form Pong later past parts h f = absurd f

head-all : (later past : List Message) (parts : ReplyParts) → head_of past ≡ Some parts → IsForm is_good (later ++ past) → head_of (later ++ past) ≡ Some parts
head-all [] past parts h f = h
head-all (m ∷ later) past parts h f = head-form m later past parts h f

-- the sum doesn't fall
sum-grows : (later past : List Message) → sum_of (chunks_of past) ≤ sum_of (chunks_of (later ++ past))
sum-grows [] past = omega arith
sum-grows (Headers parts ∷ later) past = sum-grows later past
sum-grows (Chunk bytes ∷ later) past = let rest = sum-grows later past in omega arith
sum-grows (End reuse ∷ later) past = sum-grows later past
sum-grows (Ask most ∷ later) past = sum-grows later past
sum-grows (Pong ∷ later) past = sum-grows later past

-- ---- readings

-- the oldest of some messages, and those after it
pub record Oldest (most : ℕ) (all : List Message) (bytes : List ℕ) : Type 0 where
  pub message : Message
  pub later : List Message
  pub first : List ℕ
  pub rest : List ℕ
  pub is : IsPacketOf most message first
  pub split : all ≡ later ++ (message ∷ [])
  pub joined : bytes ≡ first ++ rest

oldest : (most : ℕ) (m : Message) (past : List Message) (bytes : List ℕ) → Spelled most (m ∷ past) bytes → Oldest most (m ∷ past) bytes
oldest most m [] bytes (before, last, s, p, whole) =
    record { message = m; later = []; first = last; rest = []; is = p; split = refl; joined = whole ∙ ap (λ (b : List ℕ). b ++ last) s ∙ sym (append-nil last) }
oldest most m (k ∷ past) bytes (before, last, s, p, whole) =
    let o = oldest most k past before s in
    record {
      message = o.message;
      later = m ∷ o.later;
      first = o.first;
      rest = o.rest ++ last;
      is = o.is;
      split = ap (λ (l : List Message). m ∷ l) o.split;
      joined = whole ∙ ap (λ (b : List ℕ). b ++ last) o.joined ∙ append_assoc o.first o.rest last;
    }

-- The next message where a front was read of the bytes of a reply: one more of its messages, at the same place.
pub record Follows (most : ℕ) (all past : List Message) (came reply rest : List ℕ) : Type 0 where
  pub message : Message
  pub later : List Message
  pub first : List ℕ
  pub tail : List ℕ
  pub is : IsPacketOf most message first
  pub split : all ≡ later ++ (message ∷ past)
  pub joined : reply ≡ came ++ (first ++ tail)
  pub behind : List ℕ
  pub place : rest ≡ first ++ behind

module _ (most : ℕ) (all past : List Message) (came reply rest more : List ℕ) where
  after : (later : List Message) (l : List ℕ) → IsForm is_good all → IsFront is_good past → all ≡ later ++ past → reply ≡ came ++ l → Spelled most later l → came ++ rest ≡ reply ++ more
      → Follows most all past came reply rest
  after [] l form front split joined s e = absurd (not_both is_good past front (subst (IsForm is_good) split form))
  after (m ∷ later) l form front split joined s e =
      let o = oldest most m later l s in
      record {
        message = o.message;
        later = o.later;
        first = o.first;
        tail = o.rest;
        is = o.is;
        split = split ∙ ap (λ (k : List Message). k ++ past) o.split ∙ append_assoc o.later (o.message ∷ []) past;
        joined = joined ∙ ap (λ (b : List ℕ). came ++ b) o.joined;
        behind = o.rest ++ more;
        place = cancel-front came rest (o.first ++ (o.rest ++ more))
            (e ∙ ap (λ (b : List ℕ). b ++ more) (joined ∙ ap (λ (b : List ℕ). came ++ b) o.joined)
            ∙ append_assoc came (o.first ++ o.rest) more ∙ ap (λ (b : List ℕ). came ++ b) (append_assoc o.first o.rest more));
      }

  -- a reply is not read whole within its front
  not_within : (later : List Message) → IsForm is_good all → IsFront is_good past → past ≡ later ++ all → ⊥
  not_within later form front split = not_both is_good all (front-of later all (subst (IsFront is_good) split front)) form

  pub follows : Spelled most all reply → IsForm is_good all → Spelled most past came → IsFront is_good past → came ++ rest ≡ reply ++ more → Follows most all past came reply rest
  follows s form t front e =
      elim (prefix-cases came reply rest more e) [
        | inl (l, is) ↦
            let on = goes_on most past all came l t (subst (Spelled most all) is s) in
            after on.0 l form front on.1 is on.2 e
        | inr (l, is) ↦
            let on = goes_on most all past reply l s (subst (Spelled most past) is t) in
            absurd (not_within on.0 form front on.1)
      ]

-- the message that follows may stand there
pub may-stand : (later past : List Message) (message : Message) → IsForm is_good (later ++ (message ∷ past)) → IsFront is_good (message ∷ past) ⊎ IsForm is_good (message ∷ past)
may-stand later past message form = elim (form-of later (message ∷ past) form) [
  | inl none ↦ inr (subst (λ (l : List Message). IsForm is_good (l ++ (message ∷ past))) none form)
  | inr front ↦ inl front
]

-- two replies at one place are one
pub one-reply : (most : ℕ) (p q : List Message) (a b x y : List ℕ) → Spelled most p a → IsForm is_good p → Spelled most q b → IsForm is_good q → a ++ x ≡ b ++ y → p ≡ q
one-reply most p q a b x y s f t g e =
    elim (prefix-cases a b x y e) [
      | inl (l, is) ↦ (let on = goes_on most p q a l s (subst (Spelled most q) is t) in sym (same on.0 p q on.1 f g))
      | inr (l, is) ↦ (let on = goes_on most q p b l t (subst (Spelled most p) is s) in same on.0 q p on.1 g f)
    ]
  where
    same : (later past all : List Message) → all ≡ later ++ past → IsForm is_good past → IsForm is_good all → all ≡ past
    same later past all split form whole =
        elim (form-of later past (subst (IsForm is_good) split whole)) [
          | inl none ↦ split ∙ ap (λ (l : List Message). l ++ past) none
          | inr front ↦ absurd (not_both is_good past front form)
        ]

-- ---- each failure contradicts the reply that comes

exceeding : (f : Framing) (part all : ℕ) → exceeds f part ≡ true → agrees f all ≡ true → part ≤ all → ⊥
exceeding By.NoBody part all e a h = absurd cc
exceeding (By.Length due) part all e a h =
    let above = ltb-true due part e in
    let same = eqb-true due all a in
    absurd (omega arith)
exceeding By.Closing part all e a h = absurd cc
exceeding By.Chunks part all e a h = absurd cc

some-parts : (o : Option ReplyParts) (parts : ReplyParts) (P : ReplyParts → Type 0) → o ≡ Some parts → IfSome o P → P parts
some-parts o parts P e h = subst (λ (x : Option ReplyParts). IfSome x P) e h

module _ (plan : TalkPlan) (s n : TalkMoment) (all : List Message) (reply more : List ℕ) where
  -- a part of a packet, or a whole one, is no longer than the message at its place
  next-within : (rest first inc behind : List ℕ) (message : Message) → IsPacketOf plan.packet message first → IsNext plan.packet rest → rest ++ inc ≡ first ++ behind → length rest ≤ length first
  next-within rest first inc behind message p (inl (payload, whole)) e =
      let one : packet true payload ++ inc ≡ packet true p.payload ++ behind =
      ap (λ (b : List ℕ). b ++ inc) (sym whole.whole) ∙ e ∙ ap (λ (b : List ℕ). b ++ behind) p.packet.whole in
      let same = (packet-only true payload p.payload inc behind one).0 in
      omega (arith, ap length (whole.whole ∙ ap (packet true) same ∙ sym p.packet.whole))
  next-within rest first inc behind message p (inr (inl part)) e =
      elim (prefix-cases rest first inc behind e) [
        | inl (l, is) ↦ omega (arith, ap length is, length-append rest l)
        | inr (l, is) ↦ absurd (part-none true plan.packet rest p.payload l part (is ∙ ap (λ (b : List ℕ). b ++ l) p.packet.whole))
      ]
  next-within rest first inc behind message p (inr (inr none)) e = absurd (none inc first behind message p e)

  broken-sum : (later past : List Message) (message : Message) → IsReply plan all reply → all ≡ later ++ (message ∷ past) → BreaksSum plan past message → ⊥
  broken-sum later past (Headers parts) r split b = b
  broken-sum later past (Chunk bytes) r split (parts, head, above) =
      let form = subst (IsForm is_good) split r.form in
      let same : head_of all ≡ Some parts = ap head_of split ∙ head-all later (Chunk bytes ∷ past) parts head form in
      let sum = some-parts (head_of all) parts (λ p. agrees (framing_in plan p) (sum_of (chunks_of all)) ≡ true) same r.sum in
      exceeding (framing_in plan parts) (sum_of (chunks_of past) + length bytes) (sum_of (chunks_of all)) above sum
      (subst (λ (l : List Message). sum_of (chunks_of past) + length bytes ≤ sum_of (chunks_of l)) (sym split) (sum-grows later (Chunk bytes ∷ past)))
  broken-sum later past (End reuse) r split (parts, head, differs) =
      let form = subst (IsForm is_good) split r.form in
      elim (form-of later (End reuse ∷ past) form) [
        | inl none ↦
            let whole : all ≡ End reuse ∷ past = split ∙ ap (λ (l : List Message). l ++ (End reuse ∷ past)) none in
            let sum = some-parts (head_of past) parts (λ p. agrees (framing_in plan p) (sum_of (chunks_of past)) ≡ true) head
            (subst (λ (l : List Message). IfSome (head_of l) (λ p. agrees (framing_in plan p) (sum_of (chunks_of l)) ≡ true)) whole r.sum) in
            absurd (let a = sum in let b = differs in cc)
        | inr front ↦ absurd front
      ]
  broken-sum later past (Ask ask) r split b = b
  broken-sum later past Pong r split b = b

  no-cause : (past : List Message) (came rest inc : List ℕ) (refused : Option Message) (cause : Cause) → IsReply plan all reply → IsUnlisted plan all
      → Spelled plan.packet past came → IsFront is_good past → came ++ (rest ++ inc) ≡ reply ++ more → (IsEmpty n.line.incoming → inc ≡ [])
      → (Rose s.line.faults n.line.faults → ⊥) → length (pong_of plan ++ reply) < plan.most → plan.most ≤ length (pong_of plan ++ (came ++ rest)) ⊎ (cause ≢ cause_is.TooLong)
      → IsCause plan s n past came rest refused cause → ⊥
  no-cause past came rest inc refused cause r unlisted t front e empty steady below limit why =
      of cause limit why
    where
      f : Follows plan.packet all past came reply (rest ++ inc)
      f = follows plan.packet all past came reply (rest ++ inc) more r.spelled r.form t front e

      stands : IsFront is_good (f.message ∷ past) ⊎ IsForm is_good (f.message ∷ past)
      stands = may-stand f.later past f.message (subst (IsForm is_good) f.split r.form)

      wrong : (refused : Option Message) → IsWrong plan past rest refused → ⊥
      wrong None none = none inc f.first f.behind f.message f.is f.place
      wrong (Some message) (is, no_front, no_form) =
          let same = (packets-only plan.packet message f.message rest f.first inc f.behind is f.is f.place).message in
          elim stands [
            | inl front ↦ no_front (subst (λ (m : Message). IsFront is_good (m ∷ past)) (sym same) front)
            | inr form ↦ no_form (subst (λ (m : Message). IsForm is_good (m ∷ past)) (sym same) form)
          ]

      of : (cause : Cause) → plan.most ≤ length (pong_of plan ++ (came ++ rest)) ⊎ (cause ≢ cause_is.TooLong) → IsCause plan s n past came rest refused cause → ⊥
      of cause_is.NoLink limit h = h
      of cause_is.Line limit h = steady h.2
      of cause_is.Ended limit h =
          part-none true plan.packet rest f.is.payload f.behind h.1
          (sym (append-nil rest) ∙ ap (λ (l : List ℕ). rest ++ l) (sym (empty h.2)) ∙ f.place ∙ ap (λ (b : List ℕ). b ++ f.behind) f.is.packet.whole)
      of cause_is.BadReply limit h = wrong refused h.0
      of cause_is.Disagree limit (message, named, is, breaks) =
          let same = (packets-only plan.packet message f.message rest f.first inc f.behind is f.is f.place).message in
          broken-sum f.later past message r (f.split ∙ ap (λ (m : Message). f.later ++ (m ∷ past)) (sym same)) breaks
      of cause_is.TooLong limit h =
          let short = next-within rest f.first inc f.behind f.message f.is h.1 f.place in
          elim limit [
            | inl reached ↦ absurd (omega (arith, reached, short, below, ap length f.joined, length-append came (f.first ++ f.tail), length-append f.first f.tail, length-append (pong_of plan) reply, length-append (pong_of plan) (came ++ rest), length-append came rest))
            | inr other ↦ other refl
          ]
      of (cause_is.Status status) limit (parts, named, is, none, good, same, listed) =
          let message = (packets-only plan.packet (Headers parts) f.message rest f.first inc f.behind is f.is f.place).message in
          let split : all ≡ f.later ++ (Headers parts ∷ past) = f.split ∙ ap (λ (m : Message). f.later ++ (m ∷ past)) (sym message) in
          let head : head_of all ≡ Some parts = ap head_of split ∙ head-all f.later (Headers parts ∷ past) parts refl (subst (IsForm is_good) split r.form) in
          let not_listed = some-parts (head_of all) parts (λ p. is_listed plan.fail_on p.status ≡ false) head unlisted in
          absurd (let a = listed in let b = not_listed in cc)

-- ---- the ends

-- what is left of all that a link brings, when these bytes came: nothing, where it ended
told-left : (front xs : List ℕ) (o : Option (List ℕ)) → Some xs ≡ prepended front o → (inc : List ℕ) × (IsEmpty o → inc ≡ []) × (xs ≡ front ++ inc)
told-left front xs None e = absurd cc
told-left front xs (Some inc) e = (inc, (λ none. none), (let same : xs ≡ front ++ inc = cc in same))

all-came : (front xs : List ℕ) (before : Option (List ℕ)) → IsEmpty before → Some xs ≡ appended before front → xs ≡ front
all-came front xs None none e = absurd cc
all-came front xs (Some old) none e =
    let first : old ≡ [] = none in
    let same : xs ≡ old ++ front = cc in
    same ∙ ap (λ (b : List ℕ). b ++ front) first

left-of : (s n : Moment) (front xs : List ℕ) → Brings s n xs → HasCome s n front → (inc : List ℕ) × (IsEmpty n.incoming → inc ≡ []) × (xs ≡ front ++ inc)
left-of s n front xs (inl comes) came = told-left front xs n.incoming (sym comes ∙ came.used)
left-of s n front xs (inr (none, received)) came =
    ([], (λ over. refl), all-came front xs s.received none (sym received ∙ came.kept) ∙ sym (append-nil front))

-- what came after CPong is where the reply is
at-reply : (pong reply more got inc : List ℕ) → (pong ++ reply) ++ more ≡ (pong ++ got) ++ inc → got ++ inc ≡ reply ++ more
at-reply pong reply more got inc e =
    cancel-front pong (got ++ inc) (reply ++ more) (sym (append_assoc pong got inc) ∙ sym e ∙ append_assoc pong reply more)

-- the packets of a reply are within the limit, so CPong is
pong-fits : (most : ℕ) (all : List Message) (reply : List ℕ) → Spelled most all reply → IsForm is_good all → IsPacketOf most Pong (packet true (9 ∷ []))
pong-fits most [] reply s form = absurd form
pong-fits most (Headers parts ∷ past) reply s form = absurd form
pong-fits most (Chunk bytes ∷ past) reply s form = absurd form
pong-fits most (End reuse ∷ past) reply (before, last, s, p, whole) form =
    let within = p.packet.fits.within in
    let two : length p.payload ≡ 2 = ap length p.spelled.whole in
    record { payload = 9 ∷ []; packet = record { whole = refl; fits = record { within = omega (arith, within, two); narrow = omega arith } }; spelled = refl }
pong-fits most (Ask n ∷ past) reply s form = absurd form
pong-fits most (Pong ∷ past) reply s form = absurd form

reached-or-other : (plan : TalkPlan) (cause : Cause) (n : ℕ) → ((cause ≡ cause_is.TooLong) ↔ (plan.most ≤ n)) → (plan.most ≤ n) ⊎ (cause ≢ cause_is.TooLong)
reached-or-other plan cause n limit = elim (cases_lt n plan.most) [
  | inl below ↦ inr (λ e. absurd (let reached = limit.0 e in omega arith))
  | inr reached ↦ inl reached
]

module _ (plan : TalkPlan) (s n : TalkMoment) (all : List Message) (w : BringsWhole plan s n all) where
  not_failed : (stage : Stage) (cause : Cause) (told : Option Told) (bytes : ℕ) → HasFailed plan s n stage cause told bytes → ⊥
  not_failed stage cause told bytes f =
      let left = left-of s.line n.line (pong_of plan ++ (f.came ++ f.rest)) ((pong_of plan ++ w.reply) ++ w.more) w.comes f.traffic.came in
      no-cause plan s n all w.reply w.more f.past f.came f.rest left.0 f.refused cause w.is w.unlisted f.accepts.spelled f.accepts.front
      (sym (append_assoc f.came f.rest left.0) ∙ at-reply (pong_of plan) w.reply w.more (f.came ++ f.rest) left.0 left.2) left.1 w.line w.below
      (reached-or-other plan cause (length (pong_of plan ++ (f.came ++ f.rest))) f.too_long) f.why

  not_unanswered : (stage : Stage) (cause : Cause) (told : Option Told) (bytes : ℕ) → HasNoPong plan s n stage cause told bytes → ⊥
  not_unanswered stage cause told bytes p = of cause (reached-or-other plan cause (length p.rest) p.too_long) p.why
    where
      pong : pong_of plan ≡ packet true (9 ∷ [])
      pong = cond-true plan.ping (packet true (9 ∷ [])) [] p.pings

      left : (inc : List ℕ) × (IsEmpty n.line.incoming → inc ≡ []) × ((pong_of plan ++ w.reply) ++ w.more ≡ p.rest ++ inc)
      left = left-of s.line n.line p.rest ((pong_of plan ++ w.reply) ++ w.more) w.comes p.traffic.came

      is : IsPacketOf plan.packet Pong (packet true (9 ∷ []))
      is = pong-fits plan.packet all w.reply w.is.spelled w.is.form

      place : p.rest ++ left.0 ≡ packet true (9 ∷ []) ++ (w.reply ++ w.more)
      place = sym left.2 ∙ append_assoc (pong_of plan) w.reply w.more ∙ ap (λ (b : List ℕ). b ++ (w.reply ++ w.more)) pong

      empty : IsEmpty n.line.incoming → left.0 ≡ []
      empty none = left.1 none

      of : (cause : Cause) → (plan.most ≤ length p.rest) ⊎ (cause ≢ cause_is.TooLong) → IsPingCause plan s n p.rest cause → ⊥
      of cause_is.NoLink limit h = h
      of cause_is.Line limit h = w.line h.1
      of cause_is.Ended limit h =
          part-none true plan.packet p.rest (9 ∷ []) (w.reply ++ w.more) h.0
          (sym (append-nil p.rest) ∙ ap (λ (l : List ℕ). p.rest ++ l) (sym (empty h.1)) ∙ place)
      of cause_is.BadReply limit h = h left.0 (packet true (9 ∷ [])) (w.reply ++ w.more) is place
      of cause_is.Disagree limit h = h
      of cause_is.TooLong limit h =
          let short = next-within plan s n all w.reply w.more p.rest (packet true (9 ∷ [])) left.0 (w.reply ++ w.more) Pong is h place in
          elim limit [
            | inl reached ↦ absurd (let below = w.below in omega (arith, reached, short, below, ap length pong, length-append (pong_of plan) w.reply))
            | inr other ↦ other refl
          ]
      of (cause_is.Status status) limit h = h

  told-data : (P : Data → Type 0) → IfSome (data_at s.body) P → P w.data'
  told-data P h = subst (λ (o : Option Data). IfSome o P) w.told h

  reached-all : (k : ℕ) (d : Data) → d.whole ≡ true → reaches k d ≡ false → ⊥
  reached-all k d whole short = absurd (let yes_it : reaches k d ≡ true = or_right _ _ whole in cc)

  not_gone : (truncated keep : Bool) (bytes : ℕ) → IsGone plan s n truncated keep bytes → ⊥
  not_gone true keep bytes g =
      let short = told-data (λ d. (reaches (asked plan.piece g.past) d ≡ false) × (d.bad ≡ false)) (g.ended refl).2 in
      reached-all (asked plan.piece g.past) w.data' w.whole short.0
  not_gone false keep bytes g = w.client (g.failed refl)

  not_bad : (status : ℕ) (told : Option Told) (passed : Bool) (bytes : ℕ) → HasBadBody plan s n status told passed bytes → ⊥
  not_bad status told passed bytes b = elim b.why [
    | inl h ↦ (let short = told-data (λ d. (reaches (asked plan.piece (Ask b.ask ∷ b.past)) d ≡ false) × (d.bad ≡ true)) h.1 in reached-all (asked plan.piece (Ask b.ask ∷ b.past)) w.data' w.whole short.0)
    | inr h ↦ (
        let n = asked plan.piece (Ask b.ask ∷ b.past) in
        let long = told-data (λ d. most_of s.body.body ≤ taken_of s.body.body + length (take n d.bytes)) h.2 in
        let under = w.limit in absurd (omega (arith, length-take n w.data'.bytes)))
  ]

  done_with : (told : Told) (reuse : Bool) (bytes : ℕ) → IsDone plan s n told reuse bytes → n.client.sent ≡ appended s.client.sent (bytes_for plan all)
  done_with told reuse bytes d =
      let left = left-of s.line n.line (pong_of plan ++ d.came) ((pong_of plan ++ w.reply) ++ w.more) w.comes d.traffic.came in
      let same : End reuse ∷ d.past ≡ all =
      one-reply plan.packet (End reuse ∷ d.past) all d.came w.reply left.0 w.more d.reply.spelled d.reply.form w.is.spelled w.is.form
      (at-reply (pong_of plan) w.reply w.more d.came left.0 left.2) in
      d.written ∙ ap (λ (l : List Message). appended s.client.sent (bytes_for plan l)) same

  pub completed : (result : Result TalkEnd NoMemory) → IsTalk plan s n result → IsCompleted plan s n all result
  completed (Ok (ends.Done told reuse bytes)) t = done_with told reuse bytes t
  completed (Ok (ends.Failed stage cause told bytes)) (inl t) = not_failed stage cause told bytes t
  completed (Ok (ends.Failed stage cause told bytes)) (inr t) = not_unanswered stage cause told bytes t
  completed (Ok (ends.ClientGone truncated keep bytes)) t = not_gone truncated keep bytes t
  completed (Ok (ends.BadBody status told passed bytes)) t = not_bad status told passed bytes t
  completed (Err want) t = tt
