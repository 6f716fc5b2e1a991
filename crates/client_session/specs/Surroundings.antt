-- The standings of a session, by what it is served with, and a request's answer.
use Rattle.std.specs.Prelude.{◌≡◌, ◌⊎◌, ℕ, List, Option, Result, Ok, Err}
use Rattle.jk_io.specs.Moments.{Moment}
use Rattle.jk_io.specs.declared.reaching.Beside.{Beside}
use Rattle.jk_io.specs.declared.traits.streams.Meanings.{Ghosts}
use Rattle.http_front.specs.declared.body.BodyIn.{BodyIn}
use Rattle.httpdate.specs.declared.date.HttpDate.{HttpDate}
use Rattle.lb_book.specs.Desks.{DeskState}
use Rattle.lb_model.specs.declared.served.Served.{Served}
use Rattle.http_front.specs.declared.head.Head.{Head}
use Rattle.site_config.specs.declared.config.Status.{Status}
use Rattle.status_worker.specs.Pages.{IsPage}
use Rattle.status_worker.specs.declared.pages.Page.{Page}
use Rattle.client_session.specs.Answers.{IsAnswer, IsAnswerAt, IsStatusAnswer}
use Rattle.client_session.specs.Concluding.{rows_of}
use Rattle.client_session.specs.Moments.{ReadsInTurn}
use Rattle.client_session.specs.Requests.{Visit, kind_at, visit_at, visit_in}
use Rattle.client_session.specs.Sessions.{ReadsHead}
use Rattle.client_session.specs.Standings.{Puts, ClientStanding, standing}
use Rattle.client_session.specs.Turns.{TurnsSession}
use Rattle.client_session.specs.Writing.{WritesPart}
use Rattle.client_session.specs.declared.ending.SessionStop.{SessionStop}
use Rattle.client_session.specs.declared.ending.SessionStop.TheVariants as stop
use Rattle.client_session.specs.declared.inquiry.Inquiry.{Inquiry}
use Rattle.client_session.specs.declared.surroundings.Surroundings.{Surroundings}
use Rattle.client_session.specs.declared.turn.Settled.{Settled}
use Rattle.client_session.specs.declared.turn.SessionTurn.{SessionTurn}

-- The standing then: `standing_of B.state K.answers R.Meanings C.Meanings around`.
abbrev pub standing_of : {B K R C X : Type 0} → (B → DeskState) → (K → Option (List ℕ)) → Ghosts R Beside → Ghosts C X
    → Surroundings B K R C → ClientStanding
standing_of state answers told_of_reach told_of_client s =
    standing state answers told_of_reach told_of_client s.desk.now s.clock.now s.reach.now s.client.now s.inbox.now

-- The same with other bytes that were read and not used: `standing_with B.state .. C.Meanings around []`.
abbrev pub standing_with : {B K R C X : Type 0} → (B → DeskState) → (K → Option (List ℕ)) → Ghosts R Beside → Ghosts C X
    → Surroundings B K R C → List ℕ → ClientStanding
standing_with state answers told_of_reach told_of_client s inbox =
    standing state answers told_of_reach told_of_client s.desk.now s.clock.now s.reach.now s.client.now inbox

-- They are still the caller's own.
abbrev pub AreSame : {B K R C : Type 0} → Surroundings B K R C → Surroundings B K R C → Type 0
AreSame s n =
    (n.desk.ghost_name ≡ s.desk.ghost_name) × (n.clock.ghost_name ≡ s.clock.ghost_name) × (n.reach.ghost_name ≡ s.reach.ghost_name)
    × (n.client.ghost_name ≡ s.client.ghost_name) × (n.inbox.ghost_name ≡ s.inbox.ghost_name)

-- The request was answered so.
abbrev pub IsRequestAnswered : Inquiry → (s n : ClientStanding) → (body body' : BodyIn) → Settled → Type 0
IsRequestAnswered i s n body body' settled = IsAnswer (visit_in i) i.head.now i.last s n body body' settled.answered (rows_of settled.row)

-- It is mounted, and its client was told to go on.
abbrev pub IsAnsweredAt : Inquiry → (s n : ClientStanding) → (body body' : BodyIn) → Settled → Type 0
IsAnsweredAt i s n body body' settled = IsAnswerAt (visit_in i) i.head.now i.last s n body body' settled.answered (rows_of settled.row)

-- So of a status worker's request, whose body is left as it is, whichever it is.
abbrev pub IsShownAt : Inquiry → (s n : ClientStanding) → Settled → Type 0
IsShownAt i s n settled = (body : BodyIn) → IsAnsweredAt i s n body body settled

-- These rows were put where rows are put, which was so and is so now: `PutIn W.gained rows.old rows.new`.
abbrev pub PutIn : {W : Type 0} → (W → List Served → W → Type 0) → (old new : W) → List Served → Type 0
PutIn gained old new = λ rows. gained old rows new

-- The request was answered by that status worker.
abbrev pub Shows : Inquiry → Status → (s n : ClientStanding) → Result ℕ SessionStop → Type 0
Shows i status s n answer = IsStatusAnswer (visit_in i) status i.head.now i.last s n answer

-- The page of what the desk shows was sent, or a front of it; or memory was wanted before.
abbrev pub SendsPage : Inquiry → Status → (only : Option ℕ) → DeskState → (s n : Moment) → Result ℕ SessionStop → Type 0
SendsPage i status only d s n (Ok len) =
    (page : Page) × IsPage i.site.now.cfg.now status i.head.now.query d only (kind_at (visit_in i) i.head.now i.last) page
    × Puts s n page.reply × (len ≡ page.len)
SendsPage i status only d s n (Err stop') =
    ((stop' ≡ stop.NoMemory) × (n ≡ s))
    ⊎ ((page : Page) × IsPage i.site.now.cfg.now status i.head.now.query d only (kind_at (visit_in i) i.head.now i.last) page
    × WritesPart {T = Unit {0}} page.reply s n (Err stop'))

-- The moment of a turn was read, and so the session turned.
abbrev pub TurnsNow : Visit → (number : ℕ) → (s n : ClientStanding) → (puts : List Served → Type 0) → SessionTurn → Type 0
TurnsNow v number s n puts turn' =
    (date : Option HttpDate) × (timed : ClientStanding) × ReadsInTurn turn' v s timed date × TurnsSession (visit_at v date) number timed n puts turn'

-- The turn of a request whose head was read, wherever its bytes began.
abbrev pub TurnsFrom : Visit → (number : ℕ) → Head → (s n : ClientStanding) → (puts : List Served → Type 0) → SessionTurn → Type 0
TurnsFrom v number head s n puts turn' = (start : ClientStanding) → ReadsHead start s head → TurnsNow v number start n puts turn'
