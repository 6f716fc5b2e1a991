-- Each session with this end: its own answer has its cause, its bytes decide the end, an undisturbed reply came whole.
use Rattle.std.proofs.Common.{◌≡◌, ℕ, List, [], Option, refl}
use Rattle.jk_io.specs.declared.reaching.Beside.{Beside}
use Rattle.jk_io.specs.declared.traits.streams.Meanings.{Ghosts}
use Rattle.lb_book.specs.Desks.{DeskState}
use Rattle.lb_model.specs.declared.served.Served.{Served}
use Rattle.client_session.specs.Causes.{IsDecided, IsOwnCaused}
use Rattle.client_session.specs.Complete.{EndsWhole}
use Rattle.client_session.specs.Parts.{HasParts}
use Rattle.client_session.specs.Requests.{Visit, visit_at}
use Rattle.client_session.specs.Sessions.{InEachSession, IsSession, Serves}
use Rattle.client_session.specs.Ends.{MeetsBy, RisesBy, end_of}
use Rattle.client_session.specs.Keeping.{KeepsAround}
use Rattle.client_session.specs.Surroundings.{standing_of, standing_with}
use Rattle.client_session.specs.Standings.{ClientStanding}
use Rattle.client_session.specs.Whole.{HoldsOfEach, IsWholeSession}
use Rattle.client_session.specs.declared.ending.SessionEnd.{SessionEnd}
use Rattle.client_session.specs.declared.ending.SessionStop.TheVariants as stop
use Rattle.client_session.specs.declared.surroundings.Surroundings.{Surroundings}
use Rattle.client_session.proofs.CauseLaws.{own_cause}
use Rattle.client_session.proofs.CompleteLaws.{ends_whole, serves_whole}
use Rattle.client_session.proofs.DecideLaws.{decides}
use Rattle.client_session.proofs.PartsLaws.{has_parts}
use Rattle.client_session.proofs.SessionLaws.{unbegun}
use Rattle.client_session.proofs.SurroundingsLaws.{parts_at}

pub owned : (v : Visit) (end : SessionEnd) → InEachSession v end IsOwnCaused
owned v end s n rows way = own_cause (visit_at v way.date) way.number way.timed n way.last end.requests end.stop way.ends

pub decided : (v : Visit) (end : SessionEnd) → InEachSession v end IsDecided
decided v end s n rows way bytes told = decides (visit_at v way.date) way.number way.timed n way.last end bytes way.ends told

pub completed : (v : Visit) (end : SessionEnd) → InEachSession v end EndsWhole
completed v end s n rows way = ends_whole (visit_at v way.date) way.number way.timed n way.last end.requests end.stop way.ends

-- all of it
pub holds_of_each : (v : Visit) (end : SessionEnd) → HoldsOfEach v end
holds_of_each v end = record {
  own = owned v end;
  by_bytes = decided v end;
  complete = completed v end;
  served = λ date number s n gained served. serves_whole (visit_at v date) number s n gained served;
}

-- a session whole, from a client of which nothing was read
pub whole_by : {B K R C X : Type 0} (state : B → DeskState) (answers : K → Option (List ℕ)) (of_reach : Ghosts R Beside) (of_client : Ghosts C X) (v : Visit)
    (s n : Surroundings B K R C) (puts : List Served → Type 0) (end : SessionEnd)
    → (gained : List Served) × puts gained × IsSession v (standing_with state answers of_reach of_client s []) (standing_of state answers of_reach of_client n) gained end
    → MeetsBy end.stop (state s.desk.now) (state n.desk.now) → RisesBy end.stop (of_client.faults s.client.now) (of_client.faults n.client.now)
    → KeepsAround state of_reach of_client v s n → IsWholeSession state answers of_reach of_client v s n puts end
whole_by state answers of_reach of_client v s n puts end (gained, added, session) met fault kept = record {
  session = record { inbox = n.inbox.now; gained = gained; session = session; added = added };
  parts = parts_at _ (standing_with state answers of_reach of_client s []) (standing_of state answers of_reach of_client n) [] [] _
      (has_parts _ _ _ gained end refl session);
  fault = fault;
  met = met;
  kept = kept;
}

-- ---- a session that wanted memory before it read anything

pub never_began : (v : Visit) (at : List ℕ → ClientStanding) (puts : List Served → Type 0) → puts [] → Serves v at at puts (end_of stop.NoMemory 0)
never_began v at puts none = record { inbox = []; gained = []; session = unbegun v (at []); added = none }

pub no_parts : (v : Visit) (s : ClientStanding) → s.inbox ≡ [] → HasParts v s s (end_of stop.NoMemory 0)
no_parts v s fresh = has_parts v s s [] (end_of stop.NoMemory 0) fresh (unbegun v s)
