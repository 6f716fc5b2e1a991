-- The steps after an answer, the rest of its body among them, and those where no head was read.
use Rattle.std.specs.Prelude.{ℕ, ◌≡◌, ◌⊎◌, Bool, true, false, List, [], ◌∷◌, Option}
use Rattle.jk_io.specs.Moments.{Moment}
use Rattle.lb_model.specs.declared.served.Served.{Served}
use Rattle.http_front.specs.Refusal.{status_of}
use Rattle.http_front.specs.declared.answers.Form.{Form}
use Rattle.http_front.specs.declared.answers.HeadError.{HeadError}
use Rattle.http_front.specs.declared.answers.HeadError.TheVariants as error
use Rattle.http_front.specs.Takes.{BodyMoment, MeetsFault, PassesRest}
use Rattle.http_front.specs.Wants.{Rest}
use Rattle.http_front.specs.declared.fault.BodyFault.{BodyFault}
use Rattle.http_front.specs.declared.fault.BodyFault.TheVariants as fault
use Rattle.httpdate.specs.declared.date.HttpDate.{HttpDate}
use Rattle.client_session.specs.Requests.{refused_kind}
use Rattle.client_session.specs.Sessions.{refused_row}
use Rattle.client_session.specs.Writing.{WritesOwn}
use Rattle.client_session.specs.declared.ending.SessionStop.{SessionStop}
use Rattle.client_session.specs.declared.ending.SessionStop.TheVariants as stop
use Rattle.client_session.specs.declared.ending.Why.TheVariants as why
use Rattle.client_session.specs.declared.turn.Answered.{Answered}
use Rattle.client_session.specs.declared.turn.Answered.TheVariants as answered
use Rattle.client_session.specs.declared.turn.SessionTurn.{SessionTurn}
use Rattle.client_session.specs.declared.turn.SessionTurn.TheVariants as turn

-- why the session ends where the rest of a body can't be read
abbrev pub stop_after : BodyFault → SessionStop
stop_after fault.Truncated = stop.Truncated
stop_after fault.BadChunk = stop.Closed why.Unread
stop_after fault.TooLong = stop.Closed why.Unread
stop_after fault.Fault = stop.ClientFault
stop_after fault.NoMemory = stop.NoMemory

-- the rest was read and dropped, or came to a fault
abbrev pub Finishes : BodyMoment → BodyMoment → SessionTurn → Type 0
Finishes s n turn.Next = PassesRest s n
Finishes s n (turn.EndsAfter stop') = (why' : BodyFault) × MeetsFault s n Rest why' × (stop' ≡ stop_after why')
Finishes s n (turn.EndsAt stop') = ⊥

-- the session ends, or the rest of the body is read
abbrev pub TurnsAfter : Answered → (last : Bool) → BodyMoment → BodyMoment → SessionTurn → Type 0
TurnsAfter (answered.Not stop') last s n turn' = (turn' ≡ turn.EndsAt stop') × (n ≡ s)
TurnsAfter answered.Whole true s n turn' = (turn' ≡ turn.EndsAfter (stop.Closed why.Last)) × (n ≡ s)
TurnsAfter answered.Whole false s n turn' = Finishes s n turn'

-- an own answer adds a row, and nothing else does
abbrev pub AddsRefused : (status : ℕ) → (puts : List Served → Type 0) → SessionStop → Type 0
AddsRefused status puts (stop.Closed w) = puts (refused_row status ∷ [])
AddsRefused status puts stop.ClientFault = puts []
AddsRefused status puts stop.Truncated = puts []
AddsRefused status puts (stop.Stray ticket returned_at) = puts []
AddsRefused status puts stop.NoMemory = puts []

-- the refused head was answered with its status; or memory was wanted before
abbrev pub RefusesHead : Option HttpDate → Form → Moment → Moment → (puts : List Served → Type 0) → SessionStop → Type 0
RefusesHead date form s n puts stop' =
    ((stop' ≡ stop.NoMemory) × (n ≡ s) × puts [])
    ⊎ (WritesOwn (status_of form) (refused_kind date) s n stop' × AddsRefused (status_of form) puts stop')

-- a refused head was answered, and otherwise nothing was written
abbrev pub StopsWithoutHead : Option HttpDate → HeadError → Moment → Moment → (puts : List Served → Type 0) → SessionStop → Type 0
StopsWithoutHead date (error.Refused status form) s n puts stop' = RefusesHead date form s n puts stop'
StopsWithoutHead date error.Truncated s n puts stop' = (stop' ≡ stop.Truncated) × (n ≡ s) × puts []
StopsWithoutHead date error.Fault s n puts stop' = (stop' ≡ stop.ClientFault) × (n ≡ s) × puts []
StopsWithoutHead date error.NoMemory s n puts stop' = (stop' ≡ stop.NoMemory) × (n ≡ s) × puts []
