-- The moment of a link, by all that its type tells.
use Rattle.jk_io.specs.Moments.{Moment, moment}
use Rattle.jk_io.specs.declared.traits.streams.Meanings.{Ghosts}

-- `link_at L.Meanings line.old`
abbrev pub link_at : {L Beside : Type 0} → Ghosts L Beside → L → Moment
link_at told link = moment told.incoming told.received told.sent told.faults link
