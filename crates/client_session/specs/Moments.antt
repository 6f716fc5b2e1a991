-- The moment that the answers of a request tell (RFC 9110, section 6.6.1).
use Rattle.std.specs.Prelude.{ℕ, ◌≡◌, ◌≤◌, ◌⊎◌, Bool, true, false, List, Option, Some, None}
use Rattle.httpdate.specs.Date.{unix_secs}
use Rattle.httpdate.specs.declared.date.HttpDate.{HttpDate}
use Rattle.jk_io.specs.Answers.{Answers}
use Rattle.client_session.specs.Requests.{Visit}
use Rattle.client_session.specs.Standings.{ClientStanding}
use Rattle.client_session.specs.declared.ending.SessionStop.{SessionStop}
use Rattle.client_session.specs.declared.ending.SessionStop.TheVariants as stop
use Rattle.client_session.specs.declared.ending.Why.TheVariants as why
use Rattle.client_session.specs.declared.turn.SessionTurn.{SessionTurn}
use Rattle.client_session.specs.declared.turn.SessionTurn.TheVariants as turn

-- the date of that second; none after the year 9999
abbrev pub IsDateAt : (at : ℕ) → Option HttpDate → Type 0
IsDateAt at None = 253402300800 ≤ at
IsDateAt at (Some date) = unix_secs date ≡ at

-- where a moment is told, that of the clock's next answer; where none is, the clock isn't asked
abbrev pub IsNextDate : (dated : Bool) → (old new : Option (List ℕ)) → Option HttpDate → Type 0
IsNextDate false old new date = (date ≡ None) × (new ≡ old)
IsNextDate true old new date = (at : ℕ) × Answers old at new × IsDateAt at date

-- The moment was read, and nothing else was done.
pub record ReadsMoment (v : Visit) (s n : ClientStanding) (date : Option HttpDate) : Type 0 where
  pub is : IsNextDate v.dated s.desk.clock n.desk.clock date
  pub alone : n ≡ record s { desk = record s.desk { clock = n.desk.clock } }

-- no moment was read
abbrev pub ReadsNoMoment : (s n : ClientStanding) → Option HttpDate → Type 0
ReadsNoMoment s n date = (n ≡ s) × (date ≡ None)

-- The same before the last turn of a session. Where nothing was answered, maybe none was read.
abbrev pub ReadsLast : SessionStop → Visit → (s n : ClientStanding) → Option HttpDate → Type 0
ReadsLast (stop.Closed why.ByClient) v s n date = ReadsNoMoment s n date ⊎ ReadsMoment v s n date
ReadsLast (stop.Closed why.Idle) v s n date = ReadsNoMoment s n date ⊎ ReadsMoment v s n date
ReadsLast (stop.Closed why.Last) v s n date = ReadsMoment v s n date
ReadsLast (stop.Closed (why.Own code)) v s n date = ReadsMoment v s n date
ReadsLast (stop.Closed (why.Refused refusal)) v s n date = ReadsMoment v s n date
ReadsLast (stop.Closed why.Cut) v s n date = ReadsMoment v s n date
ReadsLast (stop.Closed why.Unread) v s n date = ReadsMoment v s n date
ReadsLast stop.ClientFault v s n date = ReadsMoment v s n date
ReadsLast stop.Truncated v s n date = ReadsMoment v s n date
ReadsLast (stop.Stray ticket returned_at) v s n date = ReadsMoment v s n date
ReadsLast stop.NoMemory v s n date = ReadsNoMoment s n date ⊎ ReadsMoment v s n date

abbrev pub ReadsInTurn : SessionTurn → Visit → (s n : ClientStanding) → Option HttpDate → Type 0
ReadsInTurn turn.Next v s n date = ReadsMoment v s n date
ReadsInTurn (turn.EndsAfter stop') v s n date = ReadsLast stop' v s n date
ReadsInTurn (turn.EndsAt stop') v s n date = ReadsLast stop' v s n date

-- none is told where none was to be
abbrev pub IsTold : Visit → Option HttpDate → Type 0
IsTold v date = v.dated ≡ false → date ≡ None
