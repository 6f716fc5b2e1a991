-- The moments of a talk, by what it is held with.
use Rattle.std.specs.Prelude.{◌≡◌}
use Rattle.jk_io.specs.declared.traits.streams.Meanings.{Ghosts}
use Rattle.ajp_talk.specs.Moments.{TalkMoment, talk_at}
use Rattle.ajp_talk.specs.declared.upload.Upload.{Upload}

-- The moment then: `talk_over L.Meanings C.Meanings line client upload`.
abbrev pub talk_over : {L C A B : Type 0} → Ghosts L A → Ghosts C B → L → C → Upload → TalkMoment
talk_over told_of_line told_of_client line client u = talk_at told_of_line told_of_client line client u.body.now u.inbox.now

-- The body and the inbox are still the caller's own.
abbrev pub IsSameUpload : Upload → Upload → Type 0
IsSameUpload s n = (n.body.ghost_name ≡ s.body.ghost_name) × (n.inbox.ghost_name ≡ s.inbox.ghost_name)
