-- A container's turns on the bytes of one request, and the connector on the other end, which has just its answer.
use Rattle.std.proofs.Common.{◌≡◌, ℕ, zero, suc, ◌+◌, ◌^◌, ◌<◌, Bool, true, false, not, ◌&&◌, IsTrue, List, [], ◌∷◌, ◌++◌, length, map, reverse, Option, Some, None, refl, sym, ap, subst, ◌∙◌, arith, inl, inr, ◌⊎◌, append_assoc, append-nil, length-append}
use Rattle.std.specs.Prelude.{replicate, if◌then◌else◌}
use Rattle.std.proofs.lemmas.List.{append_cancel_left, reverse-append}
use Rattle.jk_io.specs.Moments.{Moment}
use Rattle.jk_io.specs.Told.{appended, prepended}
use Rattle.ajp_wire.specs.Packet.{packet}
use Rattle.ajp_wire.proofs.PacketLaws.{packet-only}
use Rattle.ajp_request.specs.Spelling.{SpellsForward}
use Rattle.ajp_request.specs.declared.forward.Forward.{Forward}
use Rattle.ajp_request.proofs.ForwardLaws.{spells_one}
use Rattle.ajp_reply.specs.Stream.{Spelled, IsFront, head_of}
use Rattle.ajp_reply.specs.declared.message.Message.{Message}
use Rattle.ajp_reply.specs.declared.message.Message.TheVariants.{Headers, Chunk, End, Ask, Pong}
use Rattle.ajp_reply.specs.declared.message.ReplyParts.{ReplyParts}
use Rattle.ajp_reply.proofs.StreamLaws.{goes_on}
use Rattle.ajp_talk.specs.Replies.{chunks_of, is_good}
use Rattle.ajp_container.specs.Answer.{answer_of, bytes_of}
use Rattle.ajp_container.specs.Applications.{drops}
use Rattle.ajp_container.specs.Ends.{IsTalk, TurnPlace, Stops, place_of}
use Rattle.ajp_container.specs.Request.{application_of}
use Rattle.ajp_container.specs.Turns.{Body, Awaited, Taken, ContainerTurn, Idle, Ping, Request, Came, CameBody, CameTaken, IsPacketSpelling, Turns, ask, asks_on, data_of, is_dropped, is_over, owed, owed_for, waits}
use Rattle.ajp_container.specs.declared.app_config.AppConfig.{AppConfig}
use Rattle.ajp_container.specs.declared.ends.ContainerEnd.{ContainerEnd}
use Rattle.ajp_container.specs.declared.ends.Stopped.{Stopped}
use Rattle.ajp_container.proofs.AnswerLaws.{answer-whole}
use Rattle.ajp_container.proofs.SentLaws.{owed-spelled}
use Rattle.drill.proofs.DataLaws.{taken-within}

-- ---- a container's talk from its first turn on

-- within the last turn, for whose owed messages a front of the bytes was sent
pub record Last (app : AppConfig) (put sent : List ℕ) : Type 0 where
  pub turn : ContainerTurn
  pub front : List ℕ
  pub rest : List ℕ
  pub more : List ℕ
  pub came : Came app turn front
  pub whole : put ≡ front ++ rest
  pub sends : bytes_of (owed app turn) ≡ sent ++ more

-- the turns, the oldest first, and the last
abbrev pub Talks : AppConfig → List ContainerTurn → (put sent : List ℕ) → Type 0
Talks app [] put sent = Last app put sent
Talks app (turn ∷ later) put sent =
    (first : List ℕ) × (rest : List ℕ) × (later_sent : List ℕ) × IsTrue (is_over app turn) × Came app turn first × Talks app later rest later_sent
    × (put ≡ first ++ rest) × (sent ≡ bytes_of (owed app turn) ++ later_sent)

pub record SomeTalk (app : AppConfig) (put sent : List ℕ) : Type 0 where
  pub all : List ContainerTurn
  pub talks : Talks app all put sent

talks-from : (app : AppConfig) (past later : List ContainerTurn) (came sent rest later_sent : List ℕ) → Turns app past came sent → Talks app later rest later_sent
    → SomeTalk app (came ++ rest) (sent ++ later_sent)
talks-from app [] later came sent rest later_sent (none, nothing) talks =
    record { all = later; talks = rw (none, nothing) talks }
talks-from app (turn ∷ past) later came sent rest later_sent (before, last, sent_before, turns, over, came_last, is, sends) talks =
    let on : Talks app (turn ∷ later) (last ++ rest) (bytes_of (owed app turn) ++ later_sent) = (last, rest, later_sent, over, came_last, talks, refl, refl) in
    let all = talks-from app past (turn ∷ later) before sent_before (last ++ rest) (bytes_of (owed app turn) ++ later_sent) turns on in
    let put : before ++ (last ++ rest) ≡ came ++ rest = sym (append_assoc before last rest) ∙ ap (λ (b : List ℕ). b ++ rest) (sym is) in
    let out : sent_before ++ (bytes_of (owed app turn) ++ later_sent) ≡ sent ++ later_sent =
    sym (append_assoc sent_before (bytes_of (owed app turn)) later_sent) ∙ ap (λ (b : List ℕ). b ++ later_sent) (sym sends) in
    subst (λ (b : List ℕ). SomeTalk app b (sent ++ later_sent)) put
    (subst (λ (b : List ℕ). SomeTalk app (before ++ (last ++ rest)) b) out all)

-- what a stop sent of what is owed
record Sends (going : List ℕ) (before after : Option (List ℕ)) : Type 0 where
  front : List ℕ
  more : List ℕ
  whole : going ≡ front ++ more
  put : after ≡ appended before front

stops-sends : (most : ℕ) (place : TurnPlace) (waiting dropped : Bool) (going : List ℕ) (before after : Moment) (rest : List ℕ) (stop : Stopped)
    → Stops most place waiting dropped going before after rest stop → Sends going before.sent after.sent
stops-sends most place waiting dropped going before after rest stop (inl reading) =
    record { front = going; more = []; whole = sym (append-nil going); put = reading.sent }
stops-sends most place waiting dropped going before after rest stop (inr (inl sending)) =
    record { front = sending.front.front; more = sending.front.rest; whole = sending.front.whole; put = sending.front.put }
stops-sends most place waiting dropped going before after rest stop (inr (inr all)) =
    record { front = going; more = []; whole = sym (append-nil going); put = all.sent }

some-is : (x y : List ℕ) → Some x ≡ Some y → x ≡ y
some-is x y same = cc

-- of bytes that are to come, those that came are a front
came-front : (put came : List ℕ) (after : Option (List ℕ)) → Some put ≡ prepended came after → (rest : List ℕ) × (after ≡ Some rest) × (put ≡ came ++ rest)
came-front put came None same = absurd cc
came-front put came (Some rest) same = (rest, refl, some-is put (came ++ rest) same)

pub some_talk : (app : AppConfig) (before after : Moment) (end : ContainerEnd) (put old sent : List ℕ) → IsTalk app before after end
    → before.incoming ≡ Some put → before.sent ≡ Some old → after.sent ≡ Some (old ++ sent) → SomeTalk app put sent
some_talk app before after end put old sent t coming had answers =
    let first = came-front put t.came t.between.incoming (sym coming ∙ t.goes.came.used) in
    let behind = came-front first.0 (t.stops.front ++ t.stops.rest) after.incoming (sym first.1 ∙ t.stops.comes.used) in
    let turn = t.stops.turn in
    let out = stops-sends app.packet (place_of turn) (waits app turn) (is_dropped app turn) (bytes_of (owed app turn)) t.between after t.stops.rest t.stop t.stops.stops in
    let between : t.between.sent ≡ Some (old ++ t.sent) = t.goes.sent ∙ ap (λ (o : Option (List ℕ)). appended o t.sent) had in
    let all_sent : old ++ sent ≡ (old ++ t.sent) ++ out.front =
    some-is (old ++ sent) ((old ++ t.sent) ++ out.front) (sym answers ∙ out.put ∙ ap (λ (o : Option (List ℕ)). appended o out.front) between) in
    let sent_is : sent ≡ t.sent ++ out.front = append_cancel_left old sent (t.sent ++ out.front) (all_sent ∙ append_assoc old t.sent out.front) in
    let last : Last app first.0 out.front = record {
      turn = t.stops.turn;
      front = t.stops.front;
      rest = t.stops.rest ++ behind.0;
      more = out.more;
      came = t.stops.came;
      whole = behind.2 ∙ append_assoc t.stops.front t.stops.rest behind.0;
      sends = out.whole;
    } in
    let all = talks-from app t.past [] t.came t.sent first.0 out.front t.turns last in
    subst (λ (b : List ℕ). SomeTalk app b sent) (sym first.2) (subst (λ (b : List ℕ). SomeTalk app (t.came ++ first.0) b) (sym sent_is) all)

-- ---- the first turn is the request

-- The container took the request with a body, and sent bytes of what it owes for it: all of them where the turn is over.
pub record TookRequest (app : AppConfig) (f : Forward) (behind sent : List ℕ) : Type 0 where
  pub body : Body
  pub came : List ℕ
  pub rest : List ℕ
  pub is : CameBody app f body came
  pub whole : behind ≡ came ++ rest
  pub sends : ((later_sent : List ℕ) × IsTrue (is_over app (Request f body)) × (sent ≡ bytes_of (owed_for app f body) ++ later_sent))
      ⊎ ((more : List ℕ) × (bytes_of (owed_for app f body) ≡ sent ++ more))

heads : (x y : ℕ) (xs ys : List ℕ) → x ∷ xs ≡ y ∷ ys → x ≡ y
heads x y xs ys same = cc

not_ping : (f : Forward) (payload x y : List ℕ) → SpellsForward f payload → packet false payload ++ x ≡ packet false (10 ∷ []) ++ y → ⊥
not_ping f payload x y spells same =
    let is = (packet-only false payload (10 ∷ []) x y same).0 in
    let two : 2 ≡ 10 = heads 2 10 _ [] (sym spells.whole ∙ is) in
    absurd (omega (arith, two))

-- the request's packet comes first of all
record SameRequest (f g : Forward) (x y : List ℕ) : Type 0 where
  forward : g ≡ f
  behind : x ≡ y

same_request : (most : ℕ) (f g : Forward) (payload head x y : List ℕ) → SpellsForward f payload → IsPacketSpelling (SpellsForward g) most head
    → packet false payload ++ x ≡ head ++ y → SameRequest f g x y
same_request most f g payload head x y spells p same =
    let one : packet false payload ++ x ≡ packet false p.payload ++ y = same ∙ ap (λ (b : List ℕ). b ++ y) p.packet.whole in
    let is = packet-only false payload p.payload x y one in
    record { forward = spells_one g f p.payload p.spelled (subst (SpellsForward f) is.0 spells); behind = is.1 }

empty-front : (sent more : List ℕ) → [] ≡ sent ++ more → sent ≡ []
empty-front [] more same = refl
empty-front (x ∷ sent) more same = absurd cc

pub took_request : (app : AppConfig) (f : Forward) (payload behind sent : List ℕ) (all : List ContainerTurn) → SpellsForward f payload
    → Talks app all (packet false payload ++ behind) sent → (sent ≡ [] → ⊥) → TookRequest app f behind sent
took_request app f payload behind sent [] spells last some = of last.turn last.came last.sends
  where
    of : (turn : ContainerTurn) → Came app turn last.front → bytes_of (owed app turn) ≡ sent ++ last.more → TookRequest app f behind sent
    of Idle came sends = absurd (some (empty-front sent last.more sends))
    of Ping came sends = absurd (not_ping f payload behind last.rest spells (last.whole ∙ ap (λ (b : List ℕ). b ++ last.rest) came))
    of (Request g body) (head, came, p, is, cut) sends =
        let same = same_request app.packet f g payload head behind (came ++ last.rest) spells p
        (last.whole ∙ ap (λ (b : List ℕ). b ++ last.rest) cut ∙ append_assoc head came last.rest) in
        record {
          body = body;
          came = came;
          rest = last.rest;
          is = subst (λ (h : Forward). CameBody app h body came) same.forward is;
          whole = same.behind;
          sends = inr (last.more, subst (λ (h : Forward). bytes_of (owed_for app h body) ≡ sent ++ last.more) same.forward sends);
        }
took_request app f payload behind sent (Idle ∷ later) spells (first, rest, later_sent, over, came, talks, put, sends) some = absurd cc
took_request app f payload behind sent (Ping ∷ later) spells (first, rest, later_sent, over, came, talks, put, sends) some =
    absurd (not_ping f payload behind rest spells (put ∙ ap (λ (b : List ℕ). b ++ rest) came))
took_request app f payload behind sent (Request g body ∷ later) spells (first, rest, later_sent, over, (head, came, p, is, cut), talks, put, sends) some =
    let same = same_request app.packet f g payload head behind (came ++ rest) spells p
    (put ∙ ap (λ (b : List ℕ). b ++ rest) cut ∙ append_assoc head came rest) in
    record {
      body = body;
      came = came;
      rest = rest;
      is = subst (λ (h : Forward). CameBody app h body came) same.forward is;
      whole = same.behind;
      sends = inl (
        later_sent,
        subst (λ (h : Forward). IsTrue (is_over app (Request h body))) same.forward over,
        subst (λ (h : Forward). sent ≡ bytes_of (owed_for app h body) ++ later_sent) same.forward sends,
      );
    }

-- the first turn is CPing, where the connector pings
abbrev pong : List ℕ
pong = packet true (9 ∷ [])

after_pong : (x y : List ℕ) → pong ++ x ≡ (pong ++ []) ++ y → x ≡ y
after_pong x y same = (packet-only true (9 ∷ []) (9 ∷ []) x y (same ∙ ap (λ (b : List ℕ). b ++ y) (append-nil pong))).1

pub after_ping : (app : AppConfig) (f : Forward) (put sent : List ℕ) (all : List ContainerTurn) → Talks app all (packet false (10 ∷ []) ++ put) (pong ++ sent)
    → (sent ≡ [] → ⊥) → SomeTalk app put sent
after_ping app f put sent [] last some = of last.turn last.came last.sends
  where
    of : (turn : ContainerTurn) → Came app turn last.front → bytes_of (owed app turn) ≡ (pong ++ sent) ++ last.more → SomeTalk app put sent
    of Idle came sends = absurd cc
    of Ping came sends =
        let none : [] ≡ sent ++ last.more = sym (after_pong (sent ++ last.more) [] (sym (append_assoc pong sent last.more) ∙ sym sends ∙ sym (append-nil (pong ++ [])))) in
        absurd (some (empty-front sent last.more none))
    of (Request g body) (head, came, p, is, cut) sends =
        absurd (not_ping g p.payload (came ++ last.rest) put p.spelled
        (sym (last.whole ∙ ap (λ (b : List ℕ). b ++ last.rest) cut ∙ append_assoc head came last.rest ∙ ap (λ (b : List ℕ). b ++ (came ++ last.rest)) p.packet.whole)))
after_ping app f put sent (Idle ∷ later) (first, rest, later_sent, over, came, talks, is, sends) some = absurd cc
after_ping app f put sent (Ping ∷ later) (first, rest, later_sent, over, came, talks, is, sends) some =
    let put_is : put ≡ rest = (packet-only false (10 ∷ []) (10 ∷ []) put rest (is ∙ ap (λ (b : List ℕ). b ++ rest) came)).1 in
    let sent_is : sent ≡ later_sent = after_pong sent later_sent sends in
    record { all = later; talks = rw (put_is, sent_is) talks }
after_ping app f put sent (Request g body ∷ later) (first, rest, later_sent, over, (head, came, p, is, cut), talks, whole, sends) some =
    absurd (not_ping g p.payload (came ++ rest) put p.spelled
    (sym (whole ∙ ap (λ (b : List ℕ). b ++ rest) cut ∙ append_assoc head came rest ∙ ap (λ (b : List ℕ). b ++ (came ++ rest)) p.packet.whole)))

-- ---- the messages are the asks and the answer

-- no message is End Response
abbrev NoEnd : List Message → Type 0
NoEnd [] = Unit {0}
NoEnd (Headers parts ∷ messages) = NoEnd messages
NoEnd (Chunk bytes ∷ messages) = NoEnd messages
NoEnd (End reuse ∷ messages) = ⊥
NoEnd (Ask most ∷ messages) = NoEnd messages
NoEnd (Pong ∷ messages) = NoEnd messages

no_end-append : (a b : List Message) → NoEnd a → NoEnd b → NoEnd (a ++ b)
no_end-append [] b p q = q
no_end-append (Headers parts ∷ a) b p q = no_end-append a b p q
no_end-append (Chunk bytes ∷ a) b p q = no_end-append a b p q
no_end-append (End reuse ∷ a) b p q = absurd p
no_end-append (Ask most ∷ a) b p q = no_end-append a b p q
no_end-append (Pong ∷ a) b p q = no_end-append a b p q

no_end-behind : (a b : List Message) → NoEnd (a ++ b) → NoEnd b
no_end-behind [] b p = p
no_end-behind (Headers parts ∷ a) b p = no_end-behind a b p
no_end-behind (Chunk bytes ∷ a) b p = no_end-behind a b p
no_end-behind (End reuse ∷ a) b p = absurd p
no_end-behind (Ask most ∷ a) b p = no_end-behind a b p
no_end-behind (Pong ∷ a) b p = no_end-behind a b p

front-no_end : (good : ReplyParts → Bool) (past : List Message) → IsFront good past → NoEnd past
front-no_end good [] f = tt
front-no_end good (Headers parts ∷ past) f = front-no_end good past f.2
front-no_end good (Chunk bytes ∷ past) f = front-no_end good past f.1
front-no_end good (End reuse ∷ past) f = absurd f
front-no_end good (Ask most ∷ past) f = front-no_end good past f
front-no_end good (Pong ∷ past) f = absurd f

one-no_end : (m : Message) → NoEnd (m ∷ []) → (a : List Message) → NoEnd a → NoEnd (a ++ m ∷ [])
one-no_end m p a q = no_end-append a (m ∷ []) q p

reverse-cons : (m : Message) (a : List Message) → reverse (m ∷ a) ≡ reverse a ++ m ∷ []
reverse-cons m a = reverse-append (m ∷ []) a

reverse-no_end : (a : List Message) → NoEnd a → NoEnd (reverse a)
reverse-no_end [] p = tt
reverse-no_end (Headers parts ∷ a) p = subst NoEnd (sym (reverse-cons (Headers parts) a)) (one-no_end (Headers parts) tt (reverse a) (reverse-no_end a p))
reverse-no_end (Chunk bytes ∷ a) p = subst NoEnd (sym (reverse-cons (Chunk bytes) a)) (one-no_end (Chunk bytes) tt (reverse a) (reverse-no_end a p))
reverse-no_end (End reuse ∷ a) p = absurd p
reverse-no_end (Ask most ∷ a) p = subst NoEnd (sym (reverse-cons (Ask most) a)) (one-no_end (Ask most) tt (reverse a) (reverse-no_end a p))
reverse-no_end (Pong ∷ a) p = subst NoEnd (sym (reverse-cons Pong a)) (one-no_end Pong tt (reverse a) (reverse-no_end a p))

asks-no_end : (k n : ℕ) → NoEnd (replicate k (Ask n))
asks-no_end zero n = tt
asks-no_end (suc k) n = asks-no_end k n

-- two lists, of which one goes on before the other, that have one End each, at their front, are one
record SameEnd (one other : Bool) (x y : List Message) : Type 0 where
  reuse : one ≡ other
  past : x ≡ y

same_end : (one other : Bool) (x y later : List Message) → NoEnd x → End one ∷ x ≡ later ++ End other ∷ y → SameEnd one other x y
same_end one other x y [] none same = record { reuse = cc; past = cc }
same_end one other x y (m ∷ later) none same =
    let is : x ≡ later ++ End other ∷ y = cc in
    absurd (no_end-behind later (End other ∷ y) (subst NoEnd is none))

no_end-none : (x later y : List Message) (reuse : Bool) → NoEnd x → x ≡ later ++ End reuse ∷ y → ⊥
no_end-none x later y reuse none same = no_end-behind later (End reuse ∷ y) (subst NoEnd same none)

-- no message but heads and chunks
abbrev pub IsPlain : List Message → Type 0
IsPlain [] = Unit {0}
IsPlain (Headers parts ∷ messages) = IsPlain messages
IsPlain (Chunk bytes ∷ messages) = IsPlain messages
IsPlain (End reuse ∷ messages) = ⊥
IsPlain (Ask most ∷ messages) = ⊥
IsPlain (Pong ∷ messages) = ⊥

plain-no_end : (messages : List Message) → IsPlain messages → NoEnd messages
plain-no_end [] p = tt
plain-no_end (Headers parts ∷ messages) p = plain-no_end messages p
plain-no_end (Chunk bytes ∷ messages) p = plain-no_end messages p
plain-no_end (End reuse ∷ messages) p = absurd p
plain-no_end (Ask most ∷ messages) p = absurd p
plain-no_end (Pong ∷ messages) p = absurd p

chunks-plain : (chunks : List (List ℕ)) → IsPlain (map Chunk chunks)
chunks-plain [] = tt
chunks-plain (chunk ∷ chunks) = chunks-plain chunks

-- an answer that isn't dropped is a head and chunks, and End Response after them
record EndsOnce (messages : List Message) : Type 0 where
  before : List Message
  plain : IsPlain before
  whole : messages ≡ before ++ End true ∷ []

answer-ends : (app : AppConfig) (f : Forward) (data' : List ℕ) → IsTrue (not (drops (application_of app f))) → EndsOnce (answer_of app f data')
answer-ends app f data' stays =
    let r = (answer-whole app f data' (application_of app f) stays).3 in
    record { before = Headers r.head ∷ map Chunk r.chunks; plain = chunks-plain r.chunks; whole = r.whole }

-- The bytes that the connector heard: the answer with these data, after an ask for each of some pieces.
pub record Heard (app : AppConfig) (f : Forward) (behind : List ℕ) (past : List Message) : Type 0 where
  pub first : List ℕ
  pub pieces : List (List ℕ)
  pub bytes : List ℕ
  pub rest : List ℕ
  pub came : CameTaken app f first pieces bytes
  pub whole : behind ≡ bytes ++ rest
  pub all : asks_on app f first pieces ≡ false
  pub before : List Message
  pub plain : IsPlain before
  pub answer : answer_of app f (data_of first pieces) ≡ before ++ End true ∷ []
  pub heard : past ≡ reverse before ++ reverse (replicate (length pieces) (ask app))

if-true : {A : Type 0} (b : Bool) (x y : A) → b ≡ true → (if b then x else y) ≡ x
if-true true x y is = refl
if-true false x y is = absurd cc

if-false : {A : Type 0} (b : Bool) (x y : A) → b ≡ false → (if b then x else y) ≡ y
if-false false x y is = refl
if-false true x y is = absurd cc

-- what is owed for a body that was taken so far
owed-asks : (app : AppConfig) (f : Forward) (first : List ℕ) (pieces : List (List ℕ)) → asks_on app f first pieces ≡ true
    → NoEnd (reverse (owed_for app f (Taken first pieces)))
owed-asks app f first pieces on =
    let is : owed_for app f (Taken first pieces) ≡ replicate (length pieces) (ask app) ++ ask app ∷ [] =
    ap (λ (l : List Message). replicate (length pieces) (ask app) ++ l) (if-true (asks_on app f first pieces) _ _ on) in
    reverse-no_end (owed_for app f (Taken first pieces))
    (subst NoEnd (sym is) (one-no_end (ask app) tt (replicate (length pieces) (ask app)) (asks-no_end (length pieces) _)))

owed-answer : (app : AppConfig) (f : Forward) (first : List ℕ) (pieces : List (List ℕ)) (before : List Message) → asks_on app f first pieces ≡ false
    → answer_of app f (data_of first pieces) ≡ before ++ End true ∷ []
    → reverse (owed_for app f (Taken first pieces)) ≡ End true ∷ (reverse before ++ reverse (replicate (length pieces) (ask app)))
owed-answer app f first pieces before off is =
    let asks = replicate (length pieces) (ask app) in
    let owed_is : owed_for app f (Taken first pieces) ≡ asks ++ (before ++ End true ∷ []) =
    ap (λ (l : List Message). asks ++ l) (if-false (asks_on app f first pieces) (ask app ∷ []) (answer_of app f (data_of first pieces)) off ∙ is) in
    ap reverse owed_is ∙ reverse-append asks (before ++ End true ∷ []) ∙ ap (λ (l : List Message). l ++ reverse asks) (reverse-append before (End true ∷ []))

cases_Bool : (b : Bool) → (b ≡ true) ⊎ (b ≡ false)
cases_Bool true = inl refl
cases_Bool false = inr refl

over-off : (app : AppConfig) (f : Forward) (first : List ℕ) (pieces : List (List ℕ)) → IsTrue (is_over app (Request f (Taken first pieces)))
    → asks_on app f first pieces ≡ false
over-off app f first pieces over = of (asks_on app f first pieces) (drops (application_of app f)) over
  where
    of : (a d : Bool) → IsTrue (not a && not d) → a ≡ false
    of false d over = refl
    of true d over = absurd cc

pub heard : (app : AppConfig) (f : Forward) (behind came : List ℕ) (reuse : Bool) (past : List Message) → IsTrue (not (drops (application_of app f)))
    → length behind < 2 ^ 64 → TookRequest app f behind came → Spelled app.packet (End reuse ∷ past) came → IsFront is_good past → Heard app f behind past
heard app f behind came reuse past stays few t spelled front = of t.body t.is t.sends
  where
    none : NoEnd past
    none = front-no_end is_good past front

    small : (first : List ℕ) (pieces : List (List ℕ)) → CameTaken app f first pieces t.came → length (data_of first pieces) < 2 ^ 64
    small first pieces c =
        let within = taken-within app f first pieces t.came c in
        let cut : length behind ≡ length t.came + length t.rest = ap length t.whole ∙ length-append t.came t.rest in
        omega (arith, within, cut, few)

    taken : (first : List ℕ) (pieces : List (List ℕ)) → CameTaken app f first pieces t.came → asks_on app f first pieces ≡ false
        → (e : EndsOnce (answer_of app f (data_of first pieces)))
        → past ≡ reverse e.before ++ reverse (replicate (length pieces) (ask app)) → Heard app f behind past
    taken first pieces c off e same = record {
      first = first;
      pieces = pieces;
      bytes = t.came;
      rest = t.rest;
      came = c;
      whole = t.whole;
      all = off;
      before = e.before;
      plain = e.plain;
      answer = e.whole;
      heard = same;
    }

    of : (body : Body) → CameBody app f body t.came
        → ((later_sent : List ℕ) × IsTrue (is_over app (Request f body)) × (came ≡ bytes_of (owed_for app f body) ++ later_sent))
        ⊎ ((more : List ℕ) × (bytes_of (owed_for app f body) ≡ came ++ more)) → Heard app f behind past
    of Awaited c (inl (later_sent, over, sends)) = absurd cc
    of Awaited c (inr (more, sends)) =
        let on = goes_on app.packet (End reuse ∷ past) [] came more spelled (sym sends) in
        absurd (no_end-none [] on.0 past reuse tt on.1)
    of (Taken first pieces) c (inl (later_sent, over, sends)) =
        let off = over-off app f first pieces over in
        let e = answer-ends app f (data_of first pieces) stays in
        let read = owed-spelled app (Request f (Taken first pieces)) (small first pieces c) in
        let on = goes_on app.packet (reverse (owed_for app f (Taken first pieces))) (End reuse ∷ past) (bytes_of (owed_for app f (Taken first pieces))) later_sent read
        (subst (Spelled app.packet (End reuse ∷ past)) sends spelled) in
        let same = same_end reuse true past (reverse e.before ++ reverse (replicate (length pieces) (ask app))) on.0 none
        (on.1 ∙ ap (λ (l : List Message). on.0 ++ l) (owed-answer app f first pieces e.before off e.whole)) in
        taken first pieces c off e same.past
    of (Taken first pieces) c (inr (more, sends)) =
        let read = owed-spelled app (Request f (Taken first pieces)) (small first pieces c) in
        let on = goes_on app.packet (End reuse ∷ past) (reverse (owed_for app f (Taken first pieces))) came more spelled
        (subst (Spelled app.packet (reverse (owed_for app f (Taken first pieces)))) sends read) in
        elim (cases_Bool (asks_on app f first pieces)) [
          | inl asks ↦ absurd (no_end-none (reverse (owed_for app f (Taken first pieces))) on.0 past reuse (owed-asks app f first pieces asks) on.1)
          | inr off ↦
              let e = answer-ends app f (data_of first pieces) stays in
              let tail = reverse e.before ++ reverse (replicate (length pieces) (ask app)) in
              let here : End true ∷ tail ≡ on.0 ++ End reuse ∷ past = sym (owed-answer app f first pieces e.before off e.whole) ∙ on.1 in
              let clear : NoEnd tail = no_end-append (reverse e.before) (reverse (replicate (length pieces) (ask app))) (reverse-no_end e.before (plain-no_end e.before e.plain))
              (reverse-no_end (replicate (length pieces) (ask app)) (asks-no_end (length pieces) _)) in
              let same = same_end true reuse tail past on.0 clear here in
              taken first pieces c off e (sym same.past)
        ]

-- ---- asks are no part of a reply

pub head-asks : (a : List Message) (k n : ℕ) → head_of (a ++ replicate k (Ask n)) ≡ head_of a
head-asks [] zero n = refl
head-asks [] (suc k) n = head-asks [] k n
head-asks (Headers parts ∷ a) k n = refl
head-asks (Chunk bytes ∷ a) k n = head-asks a k n
head-asks (End reuse ∷ a) k n = head-asks a k n
head-asks (Ask most ∷ a) k n = head-asks a k n
head-asks (Pong ∷ a) k n = head-asks a k n

pub chunks-asks : (a : List Message) (k n : ℕ) → chunks_of (a ++ replicate k (Ask n)) ≡ chunks_of a
chunks-asks [] zero n = refl
chunks-asks [] (suc k) n = chunks-asks [] k n
chunks-asks (Headers parts ∷ a) k n = chunks-asks a k n
chunks-asks (Chunk bytes ∷ a) k n = ap (λ (l : List (List ℕ)). bytes ∷ l) (chunks-asks a k n)
chunks-asks (End reuse ∷ a) k n = chunks-asks a k n
chunks-asks (Ask most ∷ a) k n = chunks-asks a k n
chunks-asks (Pong ∷ a) k n = chunks-asks a k n

asks-one : (k n : ℕ) → replicate k (Ask n) ++ Ask n ∷ [] ≡ Ask n ∷ replicate k (Ask n)
asks-one zero n = refl
asks-one (suc k) n = ap (λ (l : List Message). Ask n ∷ l) (asks-one k n)

pub reverse-asks : (k n : ℕ) → reverse (replicate k (Ask n)) ≡ replicate k (Ask n)
reverse-asks zero n = refl
reverse-asks (suc k) n = reverse-cons (Ask n) (replicate k (Ask n)) ∙ ap (λ (l : List Message). l ++ Ask n ∷ []) (reverse-asks k n) ∙ asks-one k n
