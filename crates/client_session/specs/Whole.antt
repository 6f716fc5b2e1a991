-- A session as its caller sees it: what was done, what the client has, and what is kept. Read this first.
use Rattle.std.specs.Prelude.{ℕ, List, [], Option}
use Rattle.jk_io.specs.declared.reaching.Beside.{Beside}
use Rattle.jk_io.specs.declared.traits.streams.Meanings.{Ghosts}
use Rattle.lb_model.specs.declared.served.Served.{Served}
use Rattle.lb_book.specs.Desks.{DeskState}
use Rattle.client_session.specs.Causes.{IsDecided, IsOwnCaused}
use Rattle.client_session.specs.Complete.{EndsWhole, ServesWhole}
use Rattle.client_session.specs.Ends.{MeetsBy, RisesBy}
use Rattle.client_session.specs.Parts.{HasParts}
use Rattle.client_session.specs.Keeping.{KeepsAround}
use Rattle.httpdate.specs.declared.date.HttpDate.{HttpDate}
use Rattle.client_session.specs.Requests.{Visit, visit_at}
use Rattle.client_session.specs.Sessions.{InEachSession, IsServedWhole, Serves}
use Rattle.client_session.specs.Standings.{ClientStanding}
use Rattle.client_session.specs.Surroundings.{standing_with}
use Rattle.client_session.specs.declared.ending.SessionEnd.{SessionEnd}
use Rattle.client_session.specs.declared.surroundings.Surroundings.{Surroundings}

-- One session, by what the types tell: `IsWholeSession B.state K.answers R.Meanings C.Meanings`. First the requests of the
-- client's bytes, what each gave and the row that it added, where the session ended and why; then what the client has: the
-- parts of its requests joined, and what belongs to the end. A client's fault ended it only where its faults rose, a stray
-- only where the desk's strays rose.
pub record IsWholeSession {B K R C X : Type 0} (state : B → DeskState) (answers : K → Option (List ℕ)) (of_reach : Ghosts R Beside)
    (of_client : Ghosts C X) (v : Visit) (s n : Surroundings B K R C) (puts : List Served → Type 0) (end : SessionEnd) : Type 0 where
  pub session : Serves v (standing_with state answers of_reach of_client s) (standing_with state answers of_reach of_client n) puts end
  pub parts : HasParts v (standing_with state answers of_reach of_client s []) (standing_with state answers of_reach of_client n []) end
  pub fault : RisesBy end.stop (of_client.faults s.client.now) (of_client.faults n.client.now)
  pub met : MeetsBy end.stop (state s.desk.now) (state n.desk.now)
  pub kept : KeepsAround state of_reach of_client v s n

-- The facts of each session that ends so: an own answer has a cause for each status, and a refusal its reason; the client's
-- bytes decide what they can; and a request that nothing disturbs is answered with exactly its member's reply, whether the
-- session goes on after it or not.
pub record HoldsOfEach (v : Visit) (end : SessionEnd) : Type 0 where
  pub own : InEachSession v end IsOwnCaused
  pub by_bytes : InEachSession v end IsDecided
  pub complete : InEachSession v end EndsWhole
  pub served : (date : Option HttpDate) (number : ℕ) (s n : ClientStanding) (gained : List Served) → IsServedWhole (visit_at v date) number s n gained
      → ServesWhole (visit_at v date) number s n
