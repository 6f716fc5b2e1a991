-- One moment of a talk: its link, its client and the request's body. An untold meaning is None.
use Rattle.std.specs.Prelude.{ℕ, ◌≡◌, ◌+◌, ◌≤◌, ◌⊎◌, List, ◌++◌, length, Option, None}
use Rattle.jk_io.specs.Moments.{Moment}
use Rattle.jk_io.specs.declared.traits.streams.Meanings.{Ghosts}
use Rattle.jk_io.specs.Told.{appended, prepended}
use Rattle.ajp_wire.specs.Moments.{link_at}
use Rattle.ajp_wire.specs.Packet.{HasCome}
use Rattle.http_front.specs.Unread.{unread}
use Rattle.http_front.specs.Body.{Data, Uses}
use Rattle.http_front.specs.State.{place_of, taken_of, most_of, failed_of, data_left_of}
use Rattle.http_front.specs.declared.body.BodyIn.{BodyIn}

-- the body as far as it was taken, and the client's bytes that no one used
pub record BodyAt : Type 0 where
  pub body : BodyIn
  pub unread : Option (List ℕ)

pub record TalkMoment : Type 0 where
  pub line : Moment
  pub client : Moment
  pub body : BodyAt

-- the moment of a talk, by what the types of its link and of its client tell
abbrev pub talk_at : {L C A B : Type 0} → Ghosts L A → Ghosts C B → L → C → BodyIn → List ℕ → TalkMoment
talk_at told_of_line told_of_client line client body inbox = record {
  line = link_at told_of_line line;
  client = link_at told_of_client client;
  body = record { body = body; unread = unread inbox (told_of_client.incoming client) };
}

-- the data that is left
abbrev pub data_at : BodyAt → Option Data
data_at b = data_left_of b.body b.unread

-- these bytes came on the link, and these were put on it
pub record Traffic (s n : Moment) (got put : List ℕ) : Type 0 where
  pub came : HasCome s n got
  pub sent : n.sent ≡ appended s.sent put

-- no call of the link failed
abbrev pub IsSteady : Moment → Moment → Type 0
IsSteady s n = n.faults ≡ s.faults

-- What each call of a talk leaves of a link: what stands beside it stays, and its count of faults never falls.
pub record KeepsLink {L B : Type 0} (told : Ghosts L B) (before now : L) : Type 0 where
  pub beside : told.beside now ≡ told.beside before
  pub no_fewer : told.faults before ≤ told.faults now

-- this data was taken of the body, and no call of it was refused
pub record TakesOfBody (s n : BodyAt) (taken : List ℕ) : Type 0 where
  pub uses : Uses s.unread n.unread (place_of s.body) (place_of n.body) taken
  pub counted : taken_of n.body ≡ taken_of s.body + length taken
  pub going : failed_of n.body ≡ None
  pub most : most_of n.body ≡ most_of s.body

-- some of the client's bytes were used, and none came back
pub record IsUsed (s n : BodyAt) : Type 0 where
  pub gone : List ℕ
  pub used : s.unread ≡ prepended gone n.unread
  pub most : most_of n.body ≡ most_of s.body

-- the first bytes of others, maybe all of them and maybe none
pub record IsFrontOf (front whole : List ℕ) : Type 0 where
  pub rest : List ℕ
  pub joined : whole ≡ front ++ rest

-- one of the two goes on where the other ends
abbrev pub AreAlong : List ℕ → List ℕ → Type 0
AreAlong put whole = IsFrontOf put whole ⊎ IsFrontOf whole put
