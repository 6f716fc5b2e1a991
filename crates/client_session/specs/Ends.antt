-- The end of a session, by the stray that its desk met and the faults of its client.
use Rattle.std.specs.Prelude.{ℕ, ◌≡◌}
use Rattle.jk_io.specs.Told.{Rose}
use Rattle.lb_book.specs.Desks.{DeskState, MeetsNone, RisesByOne, first_stray}
use Rattle.client_session.specs.declared.ending.SessionEnd.{SessionEnd}
use Rattle.client_session.specs.declared.ending.SessionStop.{SessionStop}
use Rattle.client_session.specs.declared.ending.SessionStop.TheVariants as stop

-- A stray was met where the session ended by one, which is the end's, and there alone.
abbrev pub MeetsBy : SessionStop → DeskState → DeskState → Type 0
MeetsBy (stop.Closed why) old new = MeetsNone old new
MeetsBy stop.ClientFault old new = MeetsNone old new
MeetsBy stop.Truncated old new = MeetsNone old new
MeetsBy (stop.Stray ticket returned_at) old new =
    RisesByOne old.strays new.strays × (new.met ≡ first_stray old.met (record { ticket = ticket; returned_at = returned_at }))
MeetsBy stop.NoMemory old new = MeetsNone old new

-- The client's faults rose where the session ended by one. Unless it ended by a stray they stand else, for want of memory too.
abbrev pub RisesBy : SessionStop → (old new : ℕ) → Type 0
RisesBy (stop.Closed why) old new = new ≡ old
RisesBy stop.ClientFault old new = Rose old new
RisesBy stop.Truncated old new = new ≡ old
RisesBy (stop.Stray ticket returned_at) old new = Unit {0}
RisesBy stop.NoMemory old new = new ≡ old

-- the session's end, after this many complete replies and pages
abbrev pub end_of : SessionStop → (requests : ℕ) → SessionEnd
end_of stop' requests = record { requests = requests; stop = stop' }
