-- The turn of a request, as a step of its session, with the rows that it added.
use Rattle.std.specs.Prelude.{ℕ, ◌≡◌, ◌+◌, List, None}
use Rattle.lb_book.specs.Desks.{DeskState, MeetsNone}
use Rattle.lb_model.specs.declared.served.Served.{Served}
use Rattle.http_front.specs.State.{failed_of}
use Rattle.http_front.specs.declared.body.BodyIn.{BodyIn}
use Rattle.client_session.specs.Ends.{MeetsBy, RisesBy}
use Rattle.client_session.specs.Requests.{Visit}
use Rattle.client_session.specs.Sessions.{EndsIn, IsServedWhole}
use Rattle.client_session.specs.Standings.{ClientStanding}
use Rattle.client_session.specs.declared.ending.SessionStop.{SessionStop}
use Rattle.client_session.specs.declared.ending.SessionStop.TheVariants as stop
use Rattle.client_session.specs.declared.ending.Why.TheVariants as why
use Rattle.client_session.specs.declared.turn.Answered.{Answered}
use Rattle.client_session.specs.declared.turn.Answered.TheVariants as answered
use Rattle.client_session.specs.declared.turn.SessionTurn.{SessionTurn}
use Rattle.client_session.specs.declared.turn.SessionTurn.TheVariants as turn

-- the next request is read, or the session ends after or at this one
abbrev pub IsTurn : Visit → (number : ℕ) → (s n : ClientStanding) → List Served → SessionTurn → Type 0
IsTurn v number s n rows turn.Next = IsServedWhole v number s n rows
IsTurn v number s n rows (turn.EndsAfter stop') = EndsIn v number s n rows (number + 1) stop'
IsTurn v number s n rows (turn.EndsAt stop') = EndsIn v number s n rows number stop'

abbrev pub MeetsInTurn : SessionTurn → DeskState → DeskState → Type 0
MeetsInTurn turn.Next old new = MeetsNone old new
MeetsInTurn (turn.EndsAfter stop') old new = MeetsBy stop' old new
MeetsInTurn (turn.EndsAt stop') old new = MeetsBy stop' old new

abbrev pub RisesInTurn : SessionTurn → (old new : ℕ) → Type 0
RisesInTurn turn.Next old new = new ≡ old
RisesInTurn (turn.EndsAfter stop') old new = RisesBy stop' old new
RisesInTurn (turn.EndsAt stop') old new = RisesBy stop' old new

abbrev pub MeetsInAnswer : Answered → DeskState → DeskState → Type 0
MeetsInAnswer answered.Whole old new = MeetsNone old new
MeetsInAnswer (answered.Not stop') old new = MeetsBy stop' old new

abbrev pub RisesInAnswer : Answered → (old new : ℕ) → Type 0
RisesInAnswer answered.Whole old new = new ≡ old
RisesInAnswer (answered.Not stop') old new = RisesBy stop' old new

-- after a whole answer no call on the body had failed
abbrev pub LeavesBodySound : Answered → BodyIn → Type 0
LeavesBodySound answered.Whole body = failed_of body ≡ None
LeavesBodySound (answered.Not stop') body = Unit {0}

-- the turn, and the rows that it added at the end: of each list of rows it is said whether they were put
abbrev pub TurnsSession : Visit → (number : ℕ) → (s n : ClientStanding) → (puts : List Served → Type 0) → SessionTurn → Type 0
TurnsSession v number s n puts turn' = (added : List Served) × puts added × IsTurn v number s n added turn'

-- The session doesn't end for a client that waits.
abbrev pub IsBusyStop : SessionStop → Type 0
IsBusyStop (stop.Closed why.ByClient) = Unit {0}
IsBusyStop (stop.Closed why.Idle) = ⊥
IsBusyStop (stop.Closed why.Last) = Unit {0}
IsBusyStop (stop.Closed (why.Own code)) = Unit {0}
IsBusyStop (stop.Closed (why.Refused refusal)) = Unit {0}
IsBusyStop (stop.Closed why.Cut) = Unit {0}
IsBusyStop (stop.Closed why.Unread) = Unit {0}
IsBusyStop stop.ClientFault = Unit {0}
IsBusyStop stop.Truncated = Unit {0}
IsBusyStop (stop.Stray ticket returned_at) = Unit {0}
IsBusyStop stop.NoMemory = Unit {0}

abbrev pub IsBusy : SessionTurn → Type 0
IsBusy turn.Next = Unit {0}
IsBusy (turn.EndsAfter stop') = IsBusyStop stop'
IsBusy (turn.EndsAt stop') = IsBusyStop stop'
