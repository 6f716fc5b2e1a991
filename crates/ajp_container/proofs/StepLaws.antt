-- How the steps of a turn follow one another, over what is told of the link at each moment.
use Rattle.std.proofs.Common.{◌≡◌, ℕ, ◌≤◌, Bool, true, List, [], ◌++◌, length, Option, refl, sym, ap, ◌∙◌, arith, inl, inr}
use Rattle.jk_io.specs.Told.{appended, prepended}
use Rattle.jk_io.proofs.ToldLaws.{appended-appended, appended-nil, prepended-prepended, prepended-nil, none_put, then_put, Rose-within}
use Rattle.ajp_container.specs.declared.ends.BadPacket.TheVariants.{Piece}
use Rattle.ajp_container.specs.declared.ends.Stopped.{Stopped}
use Rattle.ajp_container.specs.declared.ends.Stopped.TheVariants.{Closed, Dropped, LinkFault, Truncated, Bad, NoMemory}
use Rattle.ajp_container.specs.Turns.{SpellsPiece}
use Rattle.jk_io.specs.Moments.{Moment}
use Rattle.ajp_wire.specs.Packet.{HasCome}
use Rattle.ajp_container.specs.Ends.{Goes, TurnPlace, Within, EndsReading, EndsSending, Stops}
use Rattle.ajp_container.specs.Steps.{TookPacket, NotTaken, TookPiece, NotSent}

-- ---- body packets

pub piece-refused : (most : ℕ) (m0 m1 : Moment) (payload : List ℕ) → TookPacket most m0 m1 payload → ((piece : List ℕ) → SpellsPiece piece payload → ⊥)
    → NotTaken most Within m0 m1 (Bad Piece)
piece-refused most m0 m1 payload took none = record {
  bytes = took.bytes;
  comes = took.goes.came;
  sent = took.goes.sent ∙ appended-nil m0.sent;
  why = (payload, took.packet, none);
}

pub packet-unkept : (most : ℕ) (place : TurnPlace) (m0 m1 : Moment) (payload : List ℕ) → TookPacket most m0 m1 payload → NotTaken most place m0 m1 NoMemory
packet-unkept most place m0 m1 payload took = record {
  bytes = took.bytes;
  comes = took.goes.came;
  sent = took.goes.sent ∙ appended-nil m0.sent;
  why = (inr (payload, took.packet), took.goes.steady);
}

pub piece-took : (most : ℕ) (m0 m1 : Moment) (payload piece body body_after : List ℕ) → TookPacket most m0 m1 payload → SpellsPiece piece payload
    → body_after ≡ body ++ piece → TookPiece most body m0 m1 body_after (length piece)
piece-took most m0 m1 payload piece body body_after took spelled added = record {
  piece = piece;
  bytes = took.bytes;
  packet = record { payload = payload; packet = took.packet; spelled = spelled };
  added = added;
  counted = refl;
  goes = took.goes;
}

-- ---- moments in a row

pub comes-then : (m0 m1 m2 : Moment) (x y : List ℕ) → HasCome m0 m1 x → HasCome m1 m2 y → HasCome m0 m2 (x ++ y)
comes-then m0 m1 m2 x y p q = record {
  used = p.used ∙ ap (prepended x) q.used ∙ prepended-prepended x y m2.incoming;
  kept = q.kept ∙ ap (λ (r : Option (List ℕ)). appended r y) p.kept ∙ appended-appended m0.received x y;
}

pub comes-none : (m : Moment) → HasCome m m []
comes-none m = record { used = sym (prepended-nil m.incoming); kept = sym (appended-nil m.received) }

pub goes-none : (m : Moment) → Goes m m [] []
goes-none m = record { came = comes-none m; sent = sym (appended-nil m.sent); steady = refl }

sent-then : (s0 s1 s2 : Option (List ℕ)) (x y : List ℕ) → s1 ≡ appended s0 x → s2 ≡ appended s1 y → s2 ≡ appended s0 (x ++ y)
sent-then s0 s1 s2 x y p q = q ∙ ap (λ (s : Option (List ℕ)). appended s y) p ∙ appended-appended s0 x y

pub goes-then : (m0 m1 m2 : Moment) (x y a b : List ℕ) → Goes m0 m1 x a → Goes m1 m2 y b → Goes m0 m2 (x ++ y) (a ++ b)
goes-then m0 m1 m2 x y a b p q = record {
  came = comes-then m0 m1 m2 x y p.came q.came;
  sent = sent-then m0.sent m1.sent m2.sent a b p.sent q.sent;
  steady = q.steady ∙ p.steady;
}

pub no-fewer : (m0 m1 : Moment) (x a : List ℕ) → Goes m0 m1 x a → m0.faults ≤ m1.faults
no-fewer m0 m1 x a goes = omega (arith, goes.steady)

reading-earlier : (most : ℕ) (place : TurnPlace) (m0 m1 m2 : Moment) (bytes : List ℕ) (stop : Stopped) → m1.faults ≡ m0.faults
    → EndsReading most place m1 m2 bytes stop → EndsReading most place m0 m2 bytes stop
reading-earlier most place m0 m1 m2 bytes Closed f why = why
reading-earlier most place m0 m1 m2 bytes Dropped f why = why
reading-earlier most place m0 m1 m2 bytes LinkFault f why = (Rose-within m0.faults m1.faults m2.faults m2.faults (omega (arith, f)) why.0 (omega arith), why.1)
reading-earlier most place m0 m1 m2 bytes Truncated f why = why
reading-earlier most place m0 m1 m2 bytes (Bad bad) f why = why
reading-earlier most place m0 m1 m2 bytes NoMemory f why = (why.0, why.1 ∙ f)

sending-earlier : (m0 m1 m2 : Moment) (stop : Stopped) → m1.faults ≡ m0.faults → EndsSending m1 m2 stop → EndsSending m0 m2 stop
sending-earlier m0 m1 m2 Closed f why = why
sending-earlier m0 m1 m2 Dropped f why = why
sending-earlier m0 m1 m2 LinkFault f why = Rose-within m0.faults m1.faults m2.faults m2.faults (omega (arith, f)) why (omega arith)
sending-earlier m0 m1 m2 Truncated f why = why
sending-earlier m0 m1 m2 (Bad bad) f why = why
sending-earlier m0 m1 m2 NoMemory f why = why ∙ f

-- what stops after a step that was done stops after what that step sent
pub stops-then : (most : ℕ) (place : TurnPlace) (waiting dropped : Bool) (m0 m1 m2 : Moment) (x a b rest : List ℕ) (stop : Stopped) → Goes m0 m1 x a
    → Stops most place waiting dropped b m1 m2 rest stop → Stops most place waiting dropped (a ++ b) m0 m2 rest stop
stops-then most place waiting dropped m0 m1 m2 x a b rest stop goes (inl r) = inl (record {
  waits = r.waits;
  sent = sent-then m0.sent m1.sent m2.sent a b goes.sent r.sent;
  why = reading-earlier most place m0 m1 m2 rest stop goes.steady r.why;
})
stops-then most place waiting dropped m0 m1 m2 x a b rest stop goes (inr (inl s)) = inr (inl (record {
  none = s.none;
  front = then_put m0.sent m1.sent m2.sent a b goes.sent s.front;
  why = sending-earlier m0 m1 m2 stop goes.steady s.why;
}))
stops-then most place waiting dropped m0 m1 m2 x a b rest stop goes (inr (inr d)) = inr (inr (record {
  none = d.none;
  drops = d.drops;
  sent = sent-then m0.sent m1.sent m2.sent a b goes.sent d.sent;
  why = d.why;
}))

-- a packet that wasn't taken stops the container where it waits for one, and owes nothing
pub stops-reading : (most : ℕ) (place : TurnPlace) (dropped : Bool) (m0 m1 : Moment) (stop : Stopped) (t : NotTaken most place m0 m1 stop)
    → Stops most place true dropped [] m0 m1 t.bytes stop
stops-reading most place dropped m0 m1 stop t = inl (record { waits = refl; sent = t.sent ∙ sym (appended-nil m0.sent); why = t.why })

-- what wasn't sent whole stops it
pub stops-sending : (most : ℕ) (place : TurnPlace) (waiting dropped : Bool) (m0 m1 : Moment) (going : List ℕ) (stop : Stopped)
    → NotSent going m0 m1 stop → Stops most place waiting dropped going m0 m1 [] stop
stops-sending most place waiting dropped m0 m1 going stop s = inr (inl (record { none = refl; front = s.front; why = s.why }))

-- so does want of memory for it
pub stops-wanting : (most : ℕ) (place : TurnPlace) (waiting dropped : Bool) (m : Moment) (going : List ℕ) → Stops most place waiting dropped going m m [] NoMemory
stops-wanting most place waiting dropped m going = inr (inl (record { none = refl; front = none_put m.sent going; why = refl }))
