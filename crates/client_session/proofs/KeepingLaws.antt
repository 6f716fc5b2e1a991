-- Desk, reach and client, kept over several steps of a session and over a status worker's answer.
use Rattle.std.proofs.Common.{◌≡◌, ◌≤◌, ℕ, Result, Ok, Err, refl, ap, ◌∙◌, subst, sym, length, get_or, ◌<◌, Bool, IfErr, arith}
use Rattle.std.specs.Prelude.{vec_capacity}
use Rattle.jk_io.specs.declared.reaching.Beside.{Beside}
use Rattle.jk_io.specs.declared.traits.streams.Meanings.{Ghosts}
use Rattle.lb_model.specs.declared.served.Asked.{Asked}
use Rattle.ajp_talk.specs.Moments.{KeepsLink}
use Rattle.lb_book.specs.Desks.{DeskState, MeetsNone}
use Rattle.http_front.specs.declared.body.BodyIn.{BodyIn}
use Rattle.http_front.specs.declared.head.Head.{Head}
use Rattle.site_config.specs.declared.config.Config.{Config}
use Rattle.site_config.specs.declared.config.Named.TheVariants as named
use Rattle.site_config.specs.declared.config.Status.{Status}
use Rattle.status_worker.specs.Desks.{KeepsTickets}
use Rattle.status_worker.proofs.DeskLaws.{twice, untouched}
use Rattle.std.proofs.lemmas.Option.{slice_get_read}
use Rattle.exchange.specs.Requests.{is_head}
use Rattle.client_session.specs.Answers.{IsAnswerAt, IsAtStatus, IsStatusAnswer}
use Rattle.client_session.specs.Concluding.{HasRowRoom, IsKnownStop, rows_of}
use Rattle.client_session.specs.Keeping.{IsShown, KeepsAround}
use Rattle.client_session.specs.Ready.{IsReady}
use Rattle.client_session.specs.Requests.{Visit}
use Rattle.client_session.specs.Standings.{ClientStanding}
use Rattle.client_session.specs.Surroundings.{AreSame}
use Rattle.client_session.specs.Turns.{MeetsInAnswer, RisesInAnswer}
use Rattle.client_session.specs.declared.ending.SessionStop.{SessionStop}
use Rattle.client_session.specs.declared.rows.Row.{Row}
use Rattle.client_session.specs.declared.surroundings.Surroundings.{Surroundings}
use Rattle.client_session.specs.declared.turn.Answered.{Answered}
use Rattle.client_session.specs.declared.turn.Settled.{Settled}
use Rattle.client_session.proofs.AnswerLaws.{line_of, shown_stop, shown_whole, stop_known, stop_meets, stop_rises}
use Rattle.client_session.proofs.SessionLaws.{ready_same}
use Rattle.client_session.proofs.SurroundingsLaws.{keeps_still, no_fewer_twice}

-- the reach wasn't asked
pub keeps_by : {B K R C X : Type 0} (state : B → DeskState) (of_reach : Ghosts R Beside) (of_client : Ghosts C X) (v : Visit) (s n : Surroundings B K R C)
    → IsReady v (state s.desk.now) (of_reach.beside s.reach.now) → KeepsTickets v.session (state s.desk.now) (state n.desk.now)
    → of_reach.beside n.reach.now ≡ of_reach.beside s.reach.now → of_reach.faults n.reach.now ≡ of_reach.faults s.reach.now
    → KeepsLink of_client s.client.now n.client.now → AreSame s n → KeepsAround state of_reach of_client v s n
keeps_by state of_reach of_client v s n ready kept still as_many client same = record {
  ready = ready_same _ _ _ _ _ ready kept still;
  kept = kept;
  beside = client.beside;
  reach_faults = omega (arith, as_many);
  client_faults = client.no_fewer;
  same = same;
}

-- nothing was done
pub keeps_all : {B K R C X : Type 0} (state : B → DeskState) (of_reach : Ghosts R Beside) (of_client : Ghosts C X) (v : Visit) (s : Surroundings B K R C)
    → IsReady v (state s.desk.now) (of_reach.beside s.reach.now) → KeepsAround state of_reach of_client v s s
keeps_all state of_reach of_client v s ready =
    keeps_by state of_reach of_client v s s ready (untouched _ _) refl refl (keeps_still of_client _) (refl, refl, refl, refl, refl)

pub keeps_twice : {B K R C X : Type 0} (state : B → DeskState) (of_reach : Ghosts R Beside) (of_client : Ghosts C X) (v : Visit) (s m n : Surroundings B K R C)
    → KeepsAround state of_reach of_client v s m → KeepsAround state of_reach of_client v m n → KeepsAround state of_reach of_client v s n
keeps_twice state of_reach of_client v s m n first second = record {
  ready = second.ready;
  kept = twice _ _ _ _ first.kept second.kept;
  beside = second.beside ∙ first.beside;
  reach_faults = no_fewer_twice _ _ _ first.reach_faults second.reach_faults;
  client_faults = no_fewer_twice _ _ _ first.client_faults second.client_faults;
  same = (second.same.0 ∙ first.same.0, second.same.1 ∙ first.same.1, second.same.2 ∙ first.same.2, second.same.3 ∙ first.same.3, second.same.4 ∙ first.same.4);
}

-- where the faults were as many when the answer began, they rise from there
pub rises_from : (a : Answered) (before mid now : ℕ) → mid ≡ before → RisesInAnswer a mid now → RisesInAnswer a before now
rises_from a before mid now same rises = subst (λ (k : ℕ). RisesInAnswer a k now) same rises

-- ---- a status worker's answer

-- the row has room for the status worker's name
pub room_for_status : (cfg : Config) (head : Head) (row : Row) (place : ℕ) (status : Status) → HasRowRoom cfg (named.Status place) head row
    → place < length cfg.statuses → status ≡ get_or cfg.statuses place status → length status.name ≤ vec_capacity row.name
room_for_status cfg head row place status room within is =
    let fits : length status.name ≤ room.0 = room.2 status (slice_get_read cfg.statuses (length cfg.statuses) place status refl within is) in
    omega (arith, fits, room.1.room)

pub shown_answers : (v : Visit) (head : Head) (last : Bool) (s n : ClientStanding) (body : BodyIn) (status : Status) (answer : Result ℕ SessionStop) (asked' : Asked) (settled : Settled)
    → IsAtStatus v head status → IsStatusAnswer v status head last s n answer → asked' ≡ line_of head → IsShown answer status.name (is_head head) asked' settled
    → IsAnswerAt v head last s n body body settled.answered (rows_of settled.row)
shown_answers v head last s n body status (Ok len) asked' settled at answer line is =
    subst (λ (x : Settled). IsAnswerAt v head last s n body body x.answered (rows_of x.row)) (sym is)
    (shown_whole v head last s n body status len asked' _ at answer line refl)
shown_answers v head last s n body status (Err stop') asked' settled at answer line is = shown_stop v head last s n body status stop' asked' settled at answer line is

pub shown_meets : (v : Visit) (head : Head) (last : Bool) (s n : ClientStanding) (status : Status) (answer : Result ℕ SessionStop) (asked' : Asked) (settled : Settled) (old new : DeskState)
    → IsStatusAnswer v status head last s n answer → IsShown answer status.name (is_head head) asked' settled → MeetsNone old new → MeetsInAnswer settled.answered old new
shown_meets v head last s n status (Ok len) asked' settled old new answer is met = subst (λ (x : Settled). MeetsInAnswer x.answered old new) (sym is) met
shown_meets v head last s n status (Err stop') asked' settled old new answer is met = stop_meets v head last s n status stop' asked' settled old new answer is met

pub shown_rises : (v : Visit) (head : Head) (last : Bool) (s n : ClientStanding) (status : Status) (answer : Result ℕ SessionStop) (asked' : Asked) (settled : Settled)
    → IsStatusAnswer v status head last s n answer → IsShown answer status.name (is_head head) asked' settled → RisesInAnswer settled.answered s.client.faults n.client.faults
shown_rises v head last s n status (Ok len) asked' settled answer is =
    subst (λ (x : Settled). RisesInAnswer x.answered s.client.faults n.client.faults) (sym is)
    (answer.3.puts.steady ∙ ap (λ (x : ClientStanding). x.client.faults) answer.2.alone)
shown_rises v head last s n status (Err stop') asked' settled answer is = stop_rises v head last s n status stop' asked' settled answer is

pub shown_known : (v : Visit) (head : Head) (last : Bool) (s n : ClientStanding) (status : Status) (answer : Result ℕ SessionStop)
    → IsStatusAnswer v status head last s n answer → IfErr answer IsKnownStop
shown_known v head last s n status (Ok len) answer = tt
shown_known v head last s n status (Err stop') answer = stop_known v head last s n status stop' answer
