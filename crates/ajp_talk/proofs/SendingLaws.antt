-- A send, whole or in part, and an ask whose piece was sent or whose body can't be taken further.
use Rattle.std.proofs.Common.{◌≡◌, ℕ, ◌+◌, ◌-◌, ◌≤◌, Bool, true, false, List, [], ◌++◌, length, take, drop, refl, sym, ap, subst, ◌∙◌, arith, length-take, take_all, Option, Some, None, IfSome, Result, Ok, Err, IsOk, OnOk, inl, inr}
use Rattle.std.specs.Prelude.{IsTrue, if◌then◌else◌}
use Rattle.ajp_wire.specs.Packet.{body_packet}
use Rattle.std.proofs.lemmas.List.{append-nil, take-append-drop}
use Rattle.jk_io.specs.Told.{appended, Rose, HasCause}
use Rattle.jk_io.specs.declared.failures.IoError.{IoError}
use Rattle.jk_io.specs.declared.failures.IoError.TheVariants as Io
use Rattle.jk_io.specs.declared.traits.streams.Meanings.{Ghosts}
use Rattle.jk_io.proofs.ToldLaws.{appended-nil}
use Rattle.http_front.specs.Body.{Data, reaches}
use Rattle.http_front.specs.Faults.{IsNoFailure}
use Rattle.http_front.specs.Places.{is_limited}
use Rattle.http_front.specs.State.{place_of, taken_of, most_of}
use Rattle.http_front.specs.Walks.{counted}
use Rattle.http_front.specs.declared.fault.BodyFault.{BodyFault}
use Rattle.http_front.specs.declared.fault.BodyFault.TheVariants as fault
use Rattle.jk_io.specs.Moments.{Moment}
use Rattle.ajp_talk.specs.Moments.{BodyAt, data_at, IsSteady, IsUsed, IsFrontOf, KeepsLink}
use Rattle.ajp_talk.specs.declared.plan.TalkPlan.{TalkPlan}
use Rattle.ajp_talk.specs.Owed.{answer, first_packet, request_of}
use Rattle.ajp_talk.specs.Turns.{Sends, IsSent, GivesData, IsAskTurn, IsCalmTurn, fault_turn, turn_of_sent}
use Rattle.ajp_talk.proofs.AskLaws.{front-none}

-- a count that stayed, and one that did not fall twice
pub no_fewer-same : (n : ℕ) → n ≤ n
no_fewer-same n = omega arith

pub no_fewer-then : (before mid now : ℕ) → before ≤ mid → mid ≤ now → before ≤ now
no_fewer-then before mid now first next = omega arith

taken-length : (n : ℕ) (bytes : List ℕ) → n ≤ length bytes → length (take (n - 0) bytes) ≡ n
taken-length n bytes within = omega (arith, length-take (n - 0) bytes)

part-sent : (l l' : Moment) (before after written : ℕ) (bytes : List ℕ) → written ≤ length bytes → l'.sent ≡ appended l.sent (take (written - 0) bytes)
    → l'.incoming ≡ l.incoming → l'.received ≡ l.received → l.faults ≤ l'.faults → after ≡ counted before written → Sends l l' before after (take (written - 0) bytes)
part-sent l l' before after written bytes within put incoming received no_fewer counts =
    record { sent = put; counts = λ fits. omega (arith, counts, taken-length written bytes within, fits); incoming = incoming; received = received; no_fewer = no_fewer }

all-taken : (n : ℕ) (bytes : List ℕ) → n ≡ length bytes → take (n - 0) bytes ≡ bytes
all-taken n bytes e = take_all (n - 0) bytes (omega arith)

pub sent-from : (l l' : Moment) (before after written : ℕ) (bytes : List ℕ) (r : Result Unit IoError) → OnOk r (written ≡ 0 + length bytes) → written ≤ 0 + length bytes
    → l'.sent ≡ appended l.sent (take (written - 0) bytes) → l'.incoming ≡ l.incoming → l'.received ≡ l.received → HasCause l.faults l'.faults r → (IsOk r → IsSteady l l')
    → after ≡ counted before written → IsSent l l' before after bytes r
sent-from l l' before after written bytes (Ok u) whole within put incoming received cause steady counts =
    let all = all-taken written bytes (omega (arith, whole)) in
    let same : take (written - 0) bytes ≡ bytes = all in
    (rw same at (part-sent l l' before after written bytes (omega (arith, within)) put incoming received cause.no_fewer counts), steady refl)
sent-from l l' before after written bytes (Err Io.Failed) whole within put incoming received cause steady counts = (
  take (written - 0) bytes,
  part-sent l l' before after written bytes (omega (arith, within)) put incoming received cause.no_fewer counts,
  record { rest = drop (written - 0) bytes; joined = sym (take-append-drop (written - 0) bytes) },
  cause.failed refl,
)
sent-from l l' before after written bytes (Err Io.NoMemory) whole within put incoming received cause steady counts = (
  take (written - 0) bytes,
  part-sent l l' before after written bytes (omega (arith, within)) put incoming received cause.no_fewer counts,
  record { rest = drop (written - 0) bytes; joined = sym (take-append-drop (written - 0) bytes) },
  cause.wanted refl,
)

-- a request without a first piece
pub forward-alone : (plan : TalkPlan) → plan.first ≡ [] → request_of plan ≡ plan.forward
forward-alone plan none = ap (λ (first : List ℕ). plan.forward ++ first_packet first) none ∙ append-nil plan.forward

-- nothing was sent
pub sends-nothing : (l : Moment) (before : ℕ) → Sends l l before before []
sends-nothing l before = record { sent = sym (appended-nil l.sent); counts = λ fits. omega arith; incoming = refl; received = refl; no_fewer = omega arith }

pub unsent : (l : Moment) (before : ℕ) (bytes : List ℕ) → (put : List ℕ) × Sends l l before before put × IsFrontOf put bytes × IsSteady l l
unsent l before bytes = ([], sends-nothing l before, front-none bytes, refl)

no-front : (n : ℕ) (t : Option Data) → IfSome t (λ d. IsFrontOf [] (answer n d))
no-front n None = tt
no-front n (Some d) = front-none (answer n d)

-- the body couldn't be taken further
pub ask-refused : (n : ℕ) (l : Moment) (before : ℕ) (w w' : Moment) (b b' : BodyAt) (X Y : Data → Type 0) (why : BodyFault) → IsUsed b b'
    → (why ≡ fault.Truncated → IfSome (data_at b) (λ d. (reaches n d ≡ false) × (d.bad ≡ false) × X d))
    → (why ≡ fault.BadChunk → IfSome (data_at b) (λ d. (reaches n d ≡ false) × (d.bad ≡ true) × Y d))
    → (why ≡ fault.TooLong → (is_limited (place_of b.body) ≡ true) × IfSome (data_at b) (λ d. most_of b.body ≤ taken_of b.body + length (take n d.bytes)))
    → (why ≡ fault.Fault → Rose w.faults w'.faults)
    → IsAskTurn n (record { line = l; client = w; body = b }) (record { line = l; client = w'; body = b' }) before before (fault_turn why)
ask-refused n l before w w' b b' X Y fault.Truncated used short bad long failed =
    (sends-nothing l before, refl, used, two (data_at b) (short refl))
  where
    two : (t : Option Data) → IfSome t (λ d. (reaches n d ≡ false) × (d.bad ≡ false) × X d) → IfSome t (λ d. (reaches n d ≡ false) × (d.bad ≡ false))
    two None h = tt
    two (Some d) h = (h.0, h.1)
ask-refused n l before w w' b b' X Y fault.BadChunk used short bad long failed =
    (sends-nothing l before, refl, used, inl (refl, two (data_at b) (bad refl)))
  where
    two : (t : Option Data) → IfSome t (λ d. (reaches n d ≡ false) × (d.bad ≡ true) × Y d) → IfSome t (λ d. (reaches n d ≡ false) × (d.bad ≡ true))
    two None h = tt
    two (Some d) h = (h.0, h.1)
ask-refused n l before w w' b b' X Y fault.TooLong used short bad long failed = (sends-nothing l before, refl, used, inr (refl, (long refl).0, (long refl).1))
ask-refused n l before w w' b b' X Y fault.Fault used short bad long failed = (sends-nothing l before, used, failed refl)
ask-refused n l before w w' b b' X Y fault.NoMemory used short bad long failed = ([], sends-nothing l before, refl, used, no-front n (data_at b))

front-answer : (n : ℕ) (t : Option Data) (put piece : List ℕ) → IfSome t (λ d. (piece ≡ take n d.bytes) × IsTrue (reaches n d)) → IsFrontOf put (body_packet piece)
    → IfSome t (λ d. IsFrontOf put (answer n d))
front-answer n None put piece next front = tt
front-answer n (Some d) put piece next front =
    let there : IsFrontOf put (body_packet (take n d.bytes)) = subst (λ (l : List ℕ). IsFrontOf put (body_packet l)) next.0 front in
    subst (λ (x : Bool). IsFrontOf put (if x then body_packet (take n d.bytes) else [])) (sym next.1) there

-- the packet of a piece was sent, or a front of it
pub ask-sent : (n : ℕ) (l l' : Moment) (before after : ℕ) (w w' : Moment) (b b' : BodyAt) (piece : List ℕ) (answered : Result Unit IoError) → GivesData n b b' piece
    → IsSent l l' before after (body_packet piece) answered
    → IsAskTurn n (record { line = l; client = w; body = b }) (record { line = l'; client = w'; body = b' }) before after (turn_of_sent answered)
ask-sent n l l' before after w w' b b' piece (Ok done) gives sent = (piece, gives, sent.0, sent.1)
ask-sent n l l' before after w w' b b' piece (Err Io.Failed) gives sent = (piece, sent.0, gives, sent.1, sent.2, sent.3)
ask-sent n l l' before after w w' b b' piece (Err Io.NoMemory) gives sent =
    (sent.0, sent.1, sent.3, record { gone = gives.uses.gone; used = gives.uses.used; most = gives.most }, front-answer n (data_at b) sent.0 piece gives.data' sent.2)

-- where the body's fault is none of a read, no read of the client failed
pub refused-calm : (why : BodyFault) (before now : ℕ) → (IsNoFailure why → now ≡ before) → IsCalmTurn (fault_turn why) → now ≡ before
refused-calm fault.Truncated before now steady calm = steady tt
refused-calm fault.BadChunk before now steady calm = steady tt
refused-calm fault.TooLong before now steady calm = steady tt
refused-calm fault.Fault before now steady calm = absurd calm
refused-calm fault.NoMemory before now steady calm = steady tt

-- a link that no call touched
pub keeps-same : {L B : Type 0} (told : Ghosts L B) (link : L) → KeepsLink told link link
keeps-same told link = record { beside = refl; no_fewer = no_fewer-same _ }

-- one call after another
pub keeps-then : {L B : Type 0} (told : Ghosts L B) (before mid now : L) → KeepsLink told before mid → KeepsLink told mid now → KeepsLink told before now
keeps-then told before mid now first next = record { beside = next.beside ∙ first.beside; no_fewer = no_fewer-then _ _ _ first.no_fewer next.no_fewer }
