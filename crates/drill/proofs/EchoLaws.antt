-- The data that the container answers with are the request's own.
use Rattle.std.proofs.Common.{◌≡◌, ℕ, zero, suc, ◌+◌, ◌-◌, ◌<◌, ◌≤◌, ◌==◌, ◌&&◌, ◌||◌, min, nat_le, nat_lt, Bool, true, false, not, List, [], ◌∷◌, ◌++◌, length, take, drop, reverse, Option, None, unwrap_or, refl, sym, ap, subst, ◌∙◌, arith, inl, inr, ◌⊎◌, append_assoc, append-nil, length-append, length-take, length-drop, take-add, take-append-drop, take_all, leb-true, le-leb, lt-ltb, ne_eqb}
use Rattle.std.specs.Prelude.{if◌then◌else◌, replicate}
use Rattle.std.proofs.lemmas.Bool.{cases_Bool, cond-false, or_from}
use Rattle.std.proofs.lemmas.List.{reverse-append}
use Rattle.ajp_wire.specs.Packet.{body_packet, body_payload, packet}
use Rattle.ajp_wire.proofs.PacketLaws.{packet-only}
use Rattle.ajp_request.specs.declared.forward.Forward.{Forward}
use Rattle.ajp_reply.specs.declared.message.Message.{Message}
use Rattle.ajp_reply.specs.declared.message.Message.TheVariants.{Headers, Chunk, End, Ask, Pong}
use Rattle.ajp_talk.specs.Owed.{answer, answers, asked, behind_first, first_packet, want}
use Rattle.forwarding.specs.FirstPiece.{first_len}
use Rattle.http_front.specs.Body.{Data, behind, data_from, is_over, reaches}
use Rattle.http_front.specs.Places.{start_of}
use Rattle.http_front.specs.declared.place.Place.{Place}
use Rattle.http_front.specs.declared.place.Place.TheVariants as at
use Rattle.http_front.specs.declared.head.BodyPlan.{BodyPlan}
use Rattle.http_front.specs.declared.head.BodyPlan.TheVariants as plan
use Rattle.site_config.specs.declared.endpoint.Endpoint.{Endpoint}
use Rattle.ajp_container.specs.Answer.{answer_of}
use Rattle.ajp_container.specs.Applications.{is_echo}
use Rattle.ajp_container.specs.Request.{application_of, asks_body, content_length, has_first}
use Rattle.ajp_container.specs.Turns.{CameAnswers, CameFirst, IsPacketSpelling, SpellsPiece, data_of, has_ended, is_enough}
use Rattle.ajp_container.specs.declared.app_config.AppConfig.{AppConfig}
use Rattle.drill.proofs.MeetingLaws.{Heard, IsPlain, reverse-asks}
use Rattle.drill.proofs.DataLaws.{answer-same, piece-only}
use Rattle.drill.proofs.LengthLaws.{Names}

-- ---- the first piece

record IsFirst (first first' x y : List ℕ) : Type 0 where
  same : first' ≡ first
  behind : x ≡ y

-- a first body packet is there exactly where the request has a first piece
record FirstIs (has : Bool) (first : List ℕ) : Type 0 where
  some : has ≡ true → first ≡ [] → ⊥
  none : has ≡ false → first ≡ []

first-same : (most : ℕ) (has : Bool) (first first' front x y : List ℕ) → FirstIs has first → CameFirst most has first' front
    → first_packet first ++ x ≡ front ++ y → IsFirst first first' x y
first-same most false first first' front x y is (empty, nothing) same =
    let first_is : first ≡ [] = is.none refl in
    let behind : x ≡ y = subst (λ (f : List ℕ). first_packet f ++ x ≡ y) first_is (same ∙ ap (λ (b : List ℕ). b ++ y) nothing) in
    record { same = empty ∙ sym first_is; behind = behind }
first-same most true [] first' front x y is p same = absurd (is.some refl refl)
first-same most true (b ∷ first) first' front x y is p same =
    let one = packet-only false (body_payload (b ∷ first)) p.payload x y (same ∙ ap (λ (c : List ℕ). c ++ y) p.packet.whole) in
    record { same = piece-only first' (b ∷ first) (subst (SpellsPiece first') (sym one.0) p.spelled); behind = one.1 }

-- ---- messages that are no asks are answered by nothing

plain-answers : (most : ℕ) (d : Data) (a past : List Message) → IsPlain a → answers most d (a ++ past) ≡ answers most d past
plain-answers most d [] past p = refl
plain-answers most d (Headers parts ∷ a) past p = plain-answers most d a past p
plain-answers most d (Chunk bytes ∷ a) past p = plain-answers most d a past p
plain-answers most d (End reuse ∷ a) past p = absurd p
plain-answers most d (Ask n ∷ a) past p = absurd p
plain-answers most d (Pong ∷ a) past p = absurd p

plain-append : (a b : List Message) → IsPlain a → IsPlain b → IsPlain (a ++ b)
plain-append [] b p q = q
plain-append (Headers parts ∷ a) b p q = plain-append a b p q
plain-append (Chunk bytes ∷ a) b p q = plain-append a b p q
plain-append (End reuse ∷ a) b p q = absurd p
plain-append (Ask n ∷ a) b p q = absurd p
plain-append (Pong ∷ a) b p q = absurd p

reverse-plain : (a : List Message) → IsPlain a → IsPlain (reverse a)
reverse-plain [] p = tt
reverse-plain (Headers parts ∷ a) p =
    subst IsPlain (sym (reverse-append (Headers parts ∷ []) a)) (plain-append (reverse a) (Headers parts ∷ []) (reverse-plain a p) tt)
reverse-plain (Chunk bytes ∷ a) p =
    subst IsPlain (sym (reverse-append (Chunk bytes ∷ []) a)) (plain-append (reverse a) (Chunk bytes ∷ []) (reverse-plain a p) tt)
reverse-plain (End reuse ∷ a) p = absurd p
reverse-plain (Ask n ∷ a) p = absurd p
reverse-plain (Pong ∷ a) p = absurd p

-- ---- where a body reaches

-- an ask that comes after this many others is met
abbrev Met : (w n : ℕ) → Data → ℕ → Type 0
Met w n d k = reaches (want w n) (behind_first (asked w (replicate k (Ask n))) d) ≡ true

-- the first of them are all met
abbrev AreMet : (w n : ℕ) → Data → ℕ → Type 0
AreMet w n d zero = Unit {0}
AreMet w n d (suc k) = Met w n d k × AreMet w n d k

or-true : (b : Bool) → (b || true) ≡ true
or-true true = refl
or-true false = refl

or-none : (b : Bool) → (b || false) ≡ true → b ≡ true
or-none true is = refl
or-none false is = is

or-left : (b c : Bool) → b ≡ true → (b || c) ≡ true
or-left true c is = refl
or-left false c is = absurd cc

reach-earlier : (v m : ℕ) (bytes : List ℕ) (whole : Bool) → (nat_le v (length (drop (m + v) bytes)) || whole) ≡ true
    → (nat_le v (length (drop m bytes)) || whole) ≡ true
reach-earlier v m bytes true is = or-true (nat_le v (length (drop m bytes)))
reach-earlier v m bytes false is =
    let far : v ≤ length (drop (m + v) bytes) = leb-true v (length (drop (m + v) bytes)) (or-none (nat_le v (length (drop (m + v) bytes))) is) in
    let later = length-drop (m + v) bytes in
    let earlier = length-drop m bytes in
    or-left (nat_le v (length (drop m bytes))) false (le-leb v (length (drop m bytes)) (omega (arith, far, later, earlier)))

-- what is met later is met before
met-all : (w n : ℕ) (d : Data) (k : ℕ) → Met w n d k → AreMet w n d (suc k)
met-all w n d zero here = (here, tt)
met-all w n d (suc k) here =
    (here, met-all w n d k (reach-earlier (want w n) (asked w (replicate k (Ask n))) d.bytes d.whole here))

-- ---- the answers to asks

-- the pieces are these data, one after another
record AreData (first : List ℕ) (pieces : List (List ℕ)) (d : Data) (most taken : ℕ) (x y : List ℕ) : Type 0 where
  data' : data_of first pieces ≡ first ++ take taken d.bytes
  behind : x ≡ y
  ended : has_ended pieces ≡ true → 0 < most → length d.bytes ≤ taken

none-ended : (piece : List ℕ) (pieces : List (List ℕ)) → has_ended (piece ∷ pieces) ≡ true → piece ≡ []
none-ended [] pieces ended = refl
none-ended (b ∷ piece) pieces ended = absurd cc

empty-take : (w : ℕ) (xs : List ℕ) → [] ≡ take w xs → 0 < w → length xs ≡ 0
empty-take zero xs none some = absurd (omega (arith, some))
empty-take (suc w) [] none some = refl
empty-take (suc w) (x ∷ xs) none some = absurd cc

if-yes : (b : Bool) (x : List ℕ) → b ≡ true → (if b then x else []) ≡ x
if-yes true x is = refl
if-yes false x is = absurd cc

if-no : (b : Bool) (x : List ℕ) → b ≡ false → (if b then x else []) ≡ []
if-no true x is = absurd cc
if-no false x is = refl

answers-are : (most w n : ℕ) (d : Data) (first : List ℕ) (pieces : List (List ℕ)) (a x y : List ℕ) → AreMet w n d (length pieces)
    → CameAnswers most pieces a → answers w d (replicate (length pieces) (Ask n)) ++ x ≡ a ++ y
    → AreData first pieces d (want w n) (asked w (replicate (length pieces) (Ask n))) x y
answers-are most w n d first [] a x y met none same =
    record { data' = sym (append-nil first); behind = same ∙ ap (λ (b : List ℕ). b ++ y) none; ended = λ ended some. absurd cc }
answers-are most w n d first (piece ∷ pieces) a x y met (before, last, came, p, is) same =
    let m = asked w (replicate (length pieces) (Ask n)) in
    let past = answers w d (replicate (length pieces) (Ask n)) in
    let here = answer (want w n) (behind_first m d) in
    let cut : past ++ (here ++ x) ≡ before ++ (last ++ y) =
    sym (append_assoc past here x) ∙ same ∙ ap (λ (b : List ℕ). b ++ y) is ∙ append_assoc before last y in
    let so_far = answers-are most w n d first pieces before (here ++ x) (last ++ y) met.1 came cut in
    let here_is : here ≡ body_packet (take (want w n) (drop m d.bytes)) =
    if-yes (reaches (want w n) (behind_first m d)) (body_packet (take (want w n) (drop m d.bytes))) met.0 in
    let one = packet-only false (body_payload (take (want w n) (drop m d.bytes))) p.payload x y
    (ap (λ (b : List ℕ). b ++ x) (sym here_is) ∙ so_far.behind ∙ ap (λ (b : List ℕ). b ++ y) p.packet.whole) in
    let piece_is : piece ≡ take (want w n) (drop m d.bytes) = piece-only piece (take (want w n) (drop m d.bytes)) (subst (SpellsPiece piece) (sym one.0) p.spelled) in
    record {
      data' = ap (λ (b : List ℕ). b ++ piece) so_far.data' ∙ append_assoc first (take m d.bytes) piece
          ∙ ap (λ (b : List ℕ). first ++ b) (ap (λ (b : List ℕ). take m d.bytes ++ b) piece_is ∙ sym (take-add m (want w n) d.bytes));
      behind = one.1;
      ended = λ ended some.
          let empty = empty-take (want w n) (drop m d.bytes) (sym (none-ended piece pieces ended) ∙ piece_is) some in
          let left = length-drop m d.bytes in
          omega (arith, empty, left);
    }

-- a packet is not nothing
some-packet : (most : ℕ) (piece last y : List ℕ) → IsPacketSpelling (SpellsPiece piece) most last → [] ≡ last ++ y → ⊥
some-packet most piece last y p none =
    let is : [] ≡ packet false p.payload ++ y = none ∙ ap (λ (b : List ℕ). b ++ y) p.packet.whole in
    absurd cc

behind-none : (a b : List ℕ) → [] ≡ a ++ b → [] ≡ b
behind-none [] b none = none
behind-none (x ∷ a) b none = absurd cc

-- fewer asks aren't answered by more packets
too_many : (most w n : ℕ) (d : Data) (piece : List ℕ) (pieces : List (List ℕ)) (a y : List ℕ) → CameAnswers most (piece ∷ pieces) a
    → answers w d (replicate (length pieces) (Ask n)) ≡ a ++ y → ⊥
too_many most w n d piece [] a y (before, last, came, p, is) same =
    some-packet most piece last y p
    (behind-none before (last ++ y) (same ∙ ap (λ (b : List ℕ). b ++ y) is ∙ append_assoc before last y))
too_many most w n d piece (next ∷ pieces) a y (before, last, came, p, is) same = elim (cases_Bool (reaches (want w n) (behind_first m d))) [
  | inl met ↦
      let are = answers-are most w n d [] (next ∷ pieces) before [] (last ++ y) (met-all w n d (length pieces) met) came
      (append-nil (past ++ here) ∙ cut) in
      some-packet most piece last y p are.behind
  | inr unmet ↦
      let none : here ≡ [] = if-no (reaches (want w n) (behind_first m d)) (body_packet (take (want w n) (drop m d.bytes))) unmet in
      too_many most w n d next pieces before (last ++ y) came
      (sym (append-nil past) ∙ ap (λ (b : List ℕ). past ++ b) (sym none) ∙ cut)
]
  where
    m : ℕ
    m = asked w (replicate (length pieces) (Ask n))

    past : List ℕ
    past = answers w d (replicate (length pieces) (Ask n))

    here : List ℕ
    here = answer (want w n) (behind_first m d)

    cut : past ++ here ≡ before ++ (last ++ y)
    cut = same ∙ ap (λ (b : List ℕ). b ++ y) is ∙ append_assoc before last y

too_many_for : (most w n : ℕ) (d : Data) (k : ℕ) (pieces : List (List ℕ)) (a y : List ℕ) → length pieces ≡ suc k → CameAnswers most pieces a
    → answers w d (replicate k (Ask n)) ≡ a ++ y → ⊥
too_many_for most w n d k [] a y len came same = omega (arith, len)
too_many_for most w n d k (piece ∷ pieces) a y len came same =
    let one : k ≡ length pieces = omega (arith, len) in
    too_many most w n d piece pieces a y came (subst (λ (j : ℕ). answers w d (replicate j (Ask n)) ≡ a ++ y) one same)

-- a first packet before the answers
came-behind : (most : ℕ) (first front : List ℕ) (pieces : List (List ℕ)) (a : List ℕ) → IsPacketSpelling (SpellsPiece first) most front → CameAnswers most pieces a
    → CameAnswers most (pieces ++ first ∷ []) (front ++ a)
came-behind most first front [] a p none = ([], front, refl, p, ap (λ (b : List ℕ). front ++ b) none ∙ append-nil front)
came-behind most first front (piece ∷ pieces) a p (before, last, came, q, is) = (
  front ++ before,
  last,
  came-behind most first front pieces before p came,
  q,
  ap (λ (b : List ℕ). front ++ b) is ∙ sym (append_assoc front before last),
)

-- asks that were all answered were all met
all-met : (most w n : ℕ) (d : Data) (pieces : List (List ℕ)) (a y : List ℕ) → CameAnswers most pieces a
    → answers w d (replicate (length pieces) (Ask n)) ≡ a ++ y → AreMet w n d (length pieces)
all-met most w n d [] a y came same = tt
all-met most w n d (piece ∷ pieces) a y came same = elim (cases_Bool (reaches (want w n) (behind_first m d))) [
  | inl met ↦ met-all w n d (length pieces) met
  | inr unmet ↦
      let none : answer (want w n) (behind_first m d) ≡ [] =
      if-no (reaches (want w n) (behind_first m d)) (body_packet (take (want w n) (drop m d.bytes))) unmet in
      absurd (too_many most w n d piece pieces a y came (sym (append-nil past) ∙ ap (λ (b : List ℕ). past ++ b) (sym none) ∙ same))
]
  where
    m : ℕ
    m = asked w (replicate (length pieces) (Ask n))

    past : List ℕ
    past = answers w d (replicate (length pieces) (Ask n))

-- ---- a body by length

exact-step : (b : ℕ) (bytes : List ℕ) (n : ℕ) → data_from (b ∷ bytes) (at.Exact (suc n)) ≡ behind (b ∷ []) (data_from bytes (at.Exact n))
exact-step b bytes n =
    let open_end : is_over (at.Exact (suc n)) ≡ false = or_from _ _ (ne_eqb (suc n) 0 (λ e. absurd (omega (arith, e)))) refl in
    let next : at.Exact (suc n - 1) ≡ at.Exact n = ap (λ (m : ℕ). at.Exact m) (omega arith) in
    cond-false _ _ _ open_end ∙ ap (λ (p : Place). behind (b ∷ []) (data_from bytes p)) next

-- its data are never more than its length
exact-within : (bytes : List ℕ) (n : ℕ) → length (data_from bytes (at.Exact n)).bytes ≤ n
exact-within [] n = omega arith
exact-within (b ∷ bytes) zero = omega arith
exact-within (b ∷ bytes) (suc n) =
    let step : length (data_from (b ∷ bytes) (at.Exact (suc n))).bytes ≡ suc (length (data_from bytes (at.Exact n)).bytes) =
    ap (λ (d : Data). length d.bytes) (exact-step b bytes n) in
    let within = exact-within bytes n in
    omega (arith, step, within)

none-length : (bytes : List ℕ) → (data_from bytes at.Done).bytes ≡ []
none-length [] = refl
none-length (b ∷ bytes) = refl

-- ---- a request has no first piece where the container awaits none

none-first : (p : BodyPlan) (named' : Option ℕ) (ends : List Endpoint) (bytes : List ℕ) → Names p named' → nat_lt 0 (unwrap_or named' 0) ≡ false
    → take (first_len p ends) bytes ≡ []
none-first plan.None named' ends bytes is none = refl
none-first plan.Chunked named' ends bytes is none = refl
none-first (plan.Exact n) named' ends bytes (is, some) none =
    let has : nat_lt 0 n ≡ true = lt-ltb 0 n some in
    let not' : nat_lt 0 n ≡ false = sym (ap (λ (o : Option ℕ). nat_lt 0 (unwrap_or o 0)) is) ∙ none in
    absurd cc

-- ---- all data came

ended-or-enough : (a e h : Bool) → a ≡ true → (a && (not e && not h)) ≡ false → (e ≡ true) ⊎ (h ≡ true)
ended-or-enough false e h echo off = absurd cc
ended-or-enough true true h echo off = inl refl
ended-or-enough true false true echo off = inr refl
ended-or-enough true false false echo off = absurd cc

-- a body is no longer than the data that are enough
enough-all : (p : BodyPlan) (named' : Option ℕ) (bytes : List ℕ) (len : ℕ) → Names p named' → is_enough named' len ≡ true
    → length (data_from bytes (start_of p)).bytes ≤ len
enough-all plan.None named' bytes len is enough = let none : length (data_from bytes at.Done).bytes ≡ 0 = ap length (none-length bytes) in omega (arith, none)
enough-all (plan.Exact n) named' bytes len (is, some) enough =
    let all = exact-within bytes n in
    let few : n ≤ len = leb-true n len (sym (ap (λ (o : Option ℕ). is_enough o len) is) ∙ enough) in
    omega (arith, all, few)
enough-all plan.Chunked named' bytes len is enough =
    let no : is_enough None len ≡ true = sym (ap (λ (o : Option ℕ). is_enough o len) is) ∙ enough in absurd cc

-- data that come after the first piece, up to the end of the body
joined : (first first' own : List ℕ) (l m : ℕ) (data' : List ℕ) → first' ≡ first → first ≡ take l own → data' ≡ first' ++ take m (drop l own)
    → length (drop l own) ≤ m → data' ≡ own
joined first first' own l m data' same is_front is full =
    is ∙ ap (λ (b : List ℕ). b ++ take m (drop l own)) (same ∙ is_front)
    ∙ ap (λ (b : List ℕ). take l own ++ b) (take_all m (drop l own) full) ∙ take-append-drop l own

-- an ask for some data wants some
want-some : (w n : ℕ) → 0 < w → 0 < n → 0 < want w n
want-some w n some also = of (n == 0)
  where
    of : (b : Bool) → 0 < (if b then w else min n w)
    of true = some
    of false = omega (arith, some, also)

-- A request's own data by its plan, and the first piece of them.
pub record AreOwn (f : Forward) (p : BodyPlan) (ends : List Endpoint) (own : Data) (first : List ℕ) : Type 0 where
  pub bytes : List ℕ
  pub brings : own ≡ data_from bytes (start_of p)
  pub names : Names p (content_length f)
  pub first_is : first ≡ take (first_len p ends) own.bytes

-- what was sent after the Forward Request for these messages
abbrev pub behind_request : (w : ℕ) (p : BodyPlan) (ends : List Endpoint) (own : Data) (first : List ℕ) (past : List Message) → List ℕ
behind_request w p ends own first past = first_packet first ++ answers w (behind_first (first_len p ends) own) past

-- where the application echoes, it took all of them
echoed : (app : AppConfig) (f : Forward) (p : BodyPlan) (ends : List Endpoint) (own : Data) (first : List ℕ) (w : ℕ) (past : List Message)
    → w ≡ app.packet - 6 → AreOwn f p ends own first → (h : Heard app f (behind_request w p ends own first past) past)
    → is_echo (application_of app f) ≡ true → data_of h.first h.pieces ≡ own.bytes
echoed app f p ends own first w past size o h echo =
    joined first h.first own.bytes l wanted (data_of h.first h.pieces) front.same o.first_is are.data' full
  where
    l : ℕ
    l = first_len p ends

    n : ℕ
    n = app.packet - 6

    rest : Data
    rest = behind_first l own

    asks : List Message
    asks = replicate (length h.pieces) (Ask n)

    wanted : ℕ
    wanted = asked w asks

    answers_are : answers w rest past ≡ answers w rest asks
    answers_are =
        ap (answers w rest) (h.heard ∙ ap (λ (m : List Message). reverse h.before ++ m) (reverse-asks (length h.pieces) n))
        ∙ plain-answers w rest (reverse h.before) asks (reverse-plain h.before h.plain)

    cut : first_packet first ++ answers w rest asks ≡ h.came.front ++ (h.came.answers ++ h.rest)
    cut =
        ap (λ (b : List ℕ). first_packet first ++ b) (sym answers_are) ∙ h.whole ∙ ap (λ (b : List ℕ). b ++ h.rest) h.came.whole
        ∙ append_assoc h.came.front h.came.answers h.rest

    is_first : FirstIs (has_first f) first
    is_first = record {
      some = λ has none.
          too_many_for app.packet w n rest (length h.pieces) (h.pieces ++ h.first ∷ []) (h.came.front ++ h.came.answers) h.rest
          (length-append h.pieces (h.first ∷ []) ∙ omega arith)
          (came-behind app.packet h.first h.came.front h.pieces h.came.answers
          (subst (λ (b : Bool). CameFirst app.packet b h.first h.came.front) has h.came.begun) h.came.answered)
          (subst (λ (b : List ℕ). first_packet b ++ answers w rest asks ≡ h.came.front ++ (h.came.answers ++ h.rest)) none cut
          ∙ sym (append_assoc h.came.front h.came.answers h.rest));
      none = λ has. o.first_is ∙ none-first p (content_length f) ends own.bytes o.names has;
    }

    front : IsFirst first h.first (answers w rest asks) (h.came.answers ++ h.rest)
    front = first-same app.packet (has_first f) first h.first h.came.front (answers w rest asks) (h.came.answers ++ h.rest) is_first h.came.begun cut

    are : AreData h.first h.pieces rest (want w n) wanted [] h.rest
    are =
        answers-are app.packet w n rest h.first h.pieces h.came.answers [] h.rest
        (all-met app.packet w n rest h.pieces h.came.answers h.rest h.came.answered front.behind) h.came.answered
        (append-nil (answers w rest asks) ∙ front.behind)

    full : length (drop l own.bytes) ≤ wanted
    full = elim (ended-or-enough (asks_body app f) (has_ended h.pieces) (is_enough (content_length f) (length (data_of h.first h.pieces))) echo h.all) [
      | inl ended ↦
          let above = app.packet_at_least in
          are.ended ended (want-some w n (omega (arith, size, above)) (omega (arith, above)))
      | inr enough ↦
          let all : length own.bytes ≤ length (data_of h.first h.pieces) =
          subst (λ (d : Data). length d.bytes ≤ length (data_of h.first h.pieces)) (sym o.brings)
          (enough-all p (content_length f) o.bytes (length (data_of h.first h.pieces)) o.names enough) in
          let len : length (data_of h.first h.pieces) ≡ length h.first + length (take wanted rest.bytes) =
          ap length are.data' ∙ length-append h.first (take wanted rest.bytes) in
          let taken = length-take wanted rest.bytes in
          let same : length h.first ≡ length first = ap length front.same in
          let fronts : length first ≡ length (take l own.bytes) = ap length o.first_is in
          let both : length (take l own.bytes) + length (drop l own.bytes) ≡ length own.bytes =
          sym (length-append (take l own.bytes) (drop l own.bytes)) ∙ ap length (take-append-drop l own.bytes) in
          omega (arith, all, len, taken, same, fronts, both)
    ]

pub same_answer : (app : AppConfig) (f : Forward) (p : BodyPlan) (ends : List Endpoint) (own : Data) (first : List ℕ) (w : ℕ) (past : List Message)
    → w ≡ app.packet - 6 → AreOwn f p ends own first → (h : Heard app f (behind_request w p ends own first past) past)
    → answer_of app f (data_of h.first h.pieces) ≡ answer_of app f own.bytes
same_answer app f p ends own first w past size o h = elim (cases_Bool (is_echo (application_of app f))) [
  | inl echo ↦ ap (answer_of app f) (echoed app f p ends own first w past size o h echo)
  | inr none ↦ answer-same app f (data_of h.first h.pieces) own.bytes none
]
