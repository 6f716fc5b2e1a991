-- A session between two of its steps, and the steps that its client alone takes part in.
use Rattle.std.specs.Prelude.{◌≡◌, ◌≤◌, ℕ, List, Option}
use Rattle.jk_io.specs.Moments.{Moment, moment}
use Rattle.jk_io.specs.Told.{appended, PutsFront}
use Rattle.jk_io.specs.declared.reaching.Beside.{Beside}
use Rattle.jk_io.specs.declared.reaching.Talk.{Talk}
use Rattle.jk_io.specs.declared.traits.streams.Meanings.{Ghosts}
use Rattle.http_front.specs.Request.{IsDecided}
use Rattle.http_front.specs.Unread.{unread}
use Rattle.http_front.specs.declared.body.BodyIn.{BodyIn}
use Rattle.ajp_talk.specs.Moments.{KeepsLink}
use Rattle.lb_book.specs.Desks.{DeskState}
use Rattle.status_worker.specs.Desks.{DeskSide, desk_side}
use Rattle.exchange.specs.Deliveries.{PutsShort}
use Rattle.exchange.specs.Rounds.{Scene}

-- The talks that the reach noted, and its count of faults.
pub record ReachSide : Type 0 where
  pub talks : Option (List Talk)
  pub faults : ℕ

-- The client's link, and its bytes that were read and not yet used.
pub record ClientStanding : Type 0 where
  pub desk : DeskSide
  pub reach : ReachSide
  pub client : Moment
  pub inbox : List ℕ

-- the moment of a client, by all that its type tells
abbrev pub client_at : {C X : Type 0} → Ghosts C X → C → Moment
client_at told client = moment told.incoming told.received told.sent told.faults client

-- A step of this kind that the client alone takes part in: what stands beside it stays, and its count of faults never falls.
pub record IsClientStep {C X : Type 0} (told : Ghosts C X) (s n : C) (kind : Moment → Moment → Type 0) : Type 0 where
  pub step : kind (client_at told s) (client_at told n)
  pub kept : KeepsLink told s n

-- The standing at a moment, by what the types tell: `standing B.state K.answers R.Meanings C.Meanings`.
abbrev pub standing : {B K R C X : Type 0} → (B → DeskState) → (K → Option (List ℕ)) → Ghosts R Beside → Ghosts C X
    → B → K → R → C → List ℕ → ClientStanding
standing state answers told_of_reach told_of_client desk clock reach client inbox = record {
  desk = desk_side state answers desk clock;
  reach = record { talks = (told_of_reach.beside reach).talks; faults = told_of_reach.faults reach };
  client = client_at told_of_client client;
  inbox = inbox;
}

-- the client's bytes that no request used
abbrev pub unread_at : ClientStanding → Option (List ℕ)
unread_at s = unread s.inbox s.client.incoming

-- the scene of an exchange that is to take this body
abbrev pub with_body : ClientStanding → BodyIn → Scene
with_body s body = record {
  desk = s.desk.state;
  clock = s.desk.clock;
  around = record {
    talks = s.reach.talks;
    faults = s.reach.faults;
    client = s.client;
    body = record { body = body; unread = unread_at s };
  };
}

-- ---- reading

-- nothing but the client's bytes was touched
abbrev pub IsClientAlone : ClientStanding → ClientStanding → Type 0
IsClientAlone s n = n ≡ record s { client = n.client; inbox = n.inbox }

-- The client's bytes were read on, and no read failed.
pub record IsReadOn (s n : ClientStanding) : Type 0 where
  pub alone : IsClientAlone s n
  pub sent : n.client.sent ≡ s.client.sent
  pub steady : n.client.faults ≡ s.client.faults

-- Bytes may have come, and none was used: a read failed, or memory was wanted.
pub record StopsReading (s n : ClientStanding) : Type 0 where
  pub alone : IsClientAlone s n
  pub sent : n.client.sent ≡ s.client.sent
  pub unused : unread_at n ≡ unread_at s
  pub no_fewer : s.client.faults ≤ n.client.faults

-- The same, and no read failed: memory was wanted.
pub record WantsReading (s n : ClientStanding) : Type 0 where
  pub stops : StopsReading s n
  pub steady : n.client.faults ≡ s.client.faults

-- A read failed, and it was needed: the bytes that had come by then hold neither a head's end nor as many as a head may have.
pub record FailsReading (s n : ClientStanding) : Type 0 where
  pub stops : StopsReading s n
  pub awaited : IsDecided n.inbox → ⊥

-- ---- writing

-- these bytes were put on the link and went out, and no call failed
pub record Puts (s n : Moment) (bytes : List ℕ) : Type 0 where
  pub sent : n.sent ≡ appended s.sent bytes
  pub steady : n.faults ≡ s.faults
  pub incoming : n.incoming ≡ s.incoming
  pub received : n.received ≡ s.received

-- a front of them was: the whole of them or nothing, maybe
pub record PutsPart (s n : Moment) (bytes : List ℕ) : Type 0 where
  pub sent : PutsFront s.sent n.sent bytes
  pub no_fewer : s.faults ≤ n.faults
  pub incoming : n.incoming ≡ s.incoming
  pub received : n.received ≡ s.received

-- not all of them was, and no call failed
pub record PutsLess (s n : Moment) (bytes : List ℕ) : Type 0 where
  pub sent : PutsShort s.sent n.sent bytes
  pub steady : n.faults ≡ s.faults
  pub incoming : n.incoming ≡ s.incoming
  pub received : n.received ≡ s.received

-- This was written to the client, and nothing else was done.
pub record IsWritten (s n : ClientStanding) (bytes : List ℕ) : Type 0 where
  pub puts : Puts s.client n.client bytes
  pub alone : n ≡ record s { client = n.client }

-- Writing this broke off, and nothing else was done.
pub record IsBegun (s n : ClientStanding) (bytes : List ℕ) : Type 0 where
  pub puts : PutsPart s.client n.client bytes
  pub alone : n ≡ record s { client = n.client }

-- Memory was wanted before all of this was written, and nothing else was done.
pub record IsLess (s n : ClientStanding) (bytes : List ℕ) : Type 0 where
  pub puts : PutsLess s.client n.client bytes
  pub alone : n ≡ record s { client = n.client }
