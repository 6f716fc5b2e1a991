-- A talk: its begin, the bytes that were said in it, and its note among the talks that ended.
use Rattle.std.specs.Prelude.{◌≡◌, ℕ, List, [], Option, None, IfSome, Bool, false}
use Rattle.jk_io.specs.declared.reaching.Talk.{Talk}
use Rattle.jk_io.specs.declared.reaching.Begun.{Begun}
use Rattle.jk_io.specs.declared.reaching.TalkAsked.{TalkAsked}

-- what a talk was begun with
abbrev pub begun_of : Talk → Begun
begun_of talk = record {
  lb = talk.lb;
  member = talk.member;
  host = talk.host;
  port = talk.port;
  fresh = talk.fresh;
  dialled = talk.dialled;
  came = talk.came;
}

-- what the talk that was asked for is begun with: its link new or not, and what that has to come where it is told
abbrev pub begun_with : TalkAsked → (dialled : Bool) → (came : Option (List ℕ)) → Begun
begun_with asked dialled came = record {
  lb = asked.lb;
  member = asked.member;
  host = asked.host.now;
  port = asked.port;
  fresh = asked.fresh;
  dialled = dialled;
  came = came;
}

-- the talk that a begin which failed leaves: nothing was dialled, and nothing was said
abbrev pub failed_talk : ℕ → ℕ → List ℕ → ℕ → Bool → Talk
failed_talk lb member host port fresh = record {
  lb = lb;
  member = member;
  host = host;
  port = port;
  fresh = fresh;
  dialled = false;
  came = None;
  sent = [];
  received = [];
  keep = false;
}

-- so of the talk that was asked for
abbrev pub failed_talk_of : TalkAsked → Talk
failed_talk_of asked = failed_talk asked.lb asked.member asked.host.now asked.port asked.fresh

-- the note says of the running talk what is told of it, and whether its link is to be kept
pub record IsNoteOf (begun : Option Begun) (sent received : Option (List ℕ)) (keep : Bool) (note : Talk) : Type 0 where
  pub begun_with : IfSome begun (λ b. b ≡ begun_of note)
  pub sent_in : IfSome sent (λ bytes. bytes ≡ note.sent)
  pub received_in : IfSome received (λ bytes. bytes ≡ note.received)
  pub kept : keep ≡ note.keep

-- the note of a talk of which all is told
abbrev pub talk_of : Begun → List ℕ → List ℕ → Bool → Talk
talk_of b sent received keep = record {
  lb = b.lb;
  member = b.member;
  host = b.host;
  port = b.port;
  fresh = b.fresh;
  dialled = b.dialled;
  came = b.came;
  sent = sent;
  received = received;
  keep = keep;
}
