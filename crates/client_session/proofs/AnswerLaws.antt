-- Answers to a request: of its status worker, of an end that came before its worker, and 404 where it is mounted nowhere.
use Rattle.std.proofs.Common.{◌≡◌, ◌<◌, ℕ, Bool, List, get_or, [], ◌∷◌, Option, IsSome, None, Some, Ok, Err, refl, sym, subst, inl, inr, ap, ◌∙◌, length}
use Rattle.std.proofs.lemmas.Option.{slice_get_read}
use Rattle.jk_io.specs.Moments.{Moment}
use Rattle.lb_model.specs.declared.served.Asked.{Asked}
use Rattle.lb_model.specs.declared.served.Asked.TheVariants as asked
use Rattle.lb_model.specs.declared.served.Served.{Served}
use Rattle.http_front.specs.declared.head.BodyPlan.{BodyPlan}
use Rattle.http_front.specs.declared.head.Head.{Head}
use Rattle.http_front.specs.declared.body.BodyIn.{BodyIn}
use Rattle.http_out.specs.declared.own_answers.OwnKind.{OwnKind}
use Rattle.site_config.specs.declared.config.Named.{Named}
use Rattle.site_config.specs.declared.config.Named.TheVariants as named
use Rattle.site_config.specs.declared.config.Status.{Status}
use Rattle.lb_book.specs.Desks.{DeskState, MeetsNone}
use Rattle.status_worker.proofs.DeskLaws.{none_met}
use Rattle.exchange.specs.Requests.{is_head}
use Rattle.client_session.specs.Answers.{IsAnswer, IsAnswerAt, IsAtStatus, IsStatusAnswer, StopsEarly, own_for}
use Rattle.client_session.specs.Concluding.{IsKnownStop, IsNotFound, rows_of, settled_by, stopped_by}
use Rattle.client_session.specs.Ends.{MeetsBy, RisesBy}
use Rattle.client_session.specs.Requests.{IsNewBody, Visit, continue_for, mounted_at, own_kind_at}
use Rattle.client_session.specs.Rows.{worker_row}
use Rattle.client_session.specs.Standings.{Puts, ClientStanding}
use Rattle.client_session.specs.Turns.{LeavesBodySound, MeetsInAnswer, RisesInAnswer}
use Rattle.client_session.specs.Writing.{BreaksOff, WritesOwn}
use Rattle.client_session.specs.declared.ending.SessionStop.{SessionStop}
use Rattle.client_session.specs.declared.ending.SessionStop.TheVariants as stop
use Rattle.client_session.specs.declared.ending.Why.TheVariants as why
use Rattle.client_session.specs.declared.turn.Answered.{Answered}
use Rattle.client_session.specs.declared.turn.Answered.TheVariants as answered
use Rattle.client_session.specs.declared.turn.Settled.{Settled}

abbrev pub line_of : Head → Asked
line_of head = asked.Line head.method head.target head.old

-- ---- a status worker's answer

pub at_status : (v : Visit) (head : Head) (place : ℕ) (status : Status) → mounted_at v head ≡ Some (named.Status place) → place < length v.cfg.statuses
    → status ≡ get_or v.cfg.statuses place status → IsAtStatus v head status
at_status v head place status mounted within is =
    record { place = place; mounted = mounted; stands = slice_get_read v.cfg.statuses (length v.cfg.statuses) place status refl within is }

pub shown_whole : (v : Visit) (head : Head) (last : Bool) (s n : ClientStanding) (body : BodyIn) (status : Status) (len : ℕ) (asked' : Asked) (row : Served)
    → IsAtStatus v head status → IsStatusAnswer v status head last s n (Ok len) → asked' ≡ line_of head
    → row ≡ worker_row asked' 200 len status.name → IsAnswerAt v head last s n body body answered.Whole (row ∷ [])
shown_whole v head last s n body status len asked' row at answer line is =
    inr (
      status,
      answer.0,
      answer.1,
      at,
      answer.2,
      answer.3,
      refl,
      ap (λ (r : Served). r ∷ []) (is ∙ ap (λ (a : Asked). worker_row a 200 len status.name) line
          ∙ ap (λ (k : ℕ). worker_row (line_of head) 200 k status.name) answer.4),
    )

pub shown_stop : (v : Visit) (head : Head) (last : Bool) (s n : ClientStanding) (body : BodyIn) (status : Status) (stop' : SessionStop) (asked' : Asked) (settled : Settled)
    → IsAtStatus v head status → IsStatusAnswer v status head last s n (Err stop') → asked' ≡ line_of head
    → settled ≡ settled_by stop' asked' (is_head head) → IsAnswerAt v head last s n body body settled.answered (rows_of settled.row)
shown_stop v head last s n body status stop' asked' settled at answer line is =
    subst (λ (x : Settled). IsAnswerAt v head last s n body body x.answered (rows_of x.row))
    (sym (is ∙ ap (λ (a : Asked). settled_by stop' a (is_head head)) line)) (by_stop stop' answer)
  where
    by_stop : (x : SessionStop) → IsStatusAnswer v status head last s n (Err x)
        → IsAnswerAt v head last s n body body (settled_by x (line_of head) (is_head head)).answered (rows_of (settled_by x (line_of head) (is_head head)).row)
    by_stop (stop.Closed why.ByClient) a = absurd a
    by_stop (stop.Closed why.Idle) a = absurd a
    by_stop (stop.Closed why.Last) a = absurd a
    by_stop (stop.Closed (why.Own code)) a = absurd a
    by_stop (stop.Closed (why.Refused refusal)) a = (refl, (status, at, a))
    by_stop (stop.Closed why.Cut) a = absurd a
    by_stop (stop.Closed why.Unread) a = absurd a
    by_stop stop.ClientFault a = (refl, inr (status, at, a))
    by_stop stop.Truncated a = absurd a
    by_stop (stop.Stray ticket returned_at) a = absurd a
    by_stop stop.NoMemory a = (refl, inr (status, at, a))

pub stop_known : (v : Visit) (head : Head) (last : Bool) (s n : ClientStanding) (status : Status) (stop' : SessionStop) → IsStatusAnswer v status head last s n (Err stop')
    → IsKnownStop stop'
stop_known v head last s n status (stop.Closed why.ByClient) answer = absurd answer
stop_known v head last s n status (stop.Closed why.Idle) answer = absurd answer
stop_known v head last s n status (stop.Closed why.Last) answer = absurd answer
stop_known v head last s n status (stop.Closed (why.Own code)) answer = absurd answer
stop_known v head last s n status (stop.Closed (why.Refused refusal)) answer = tt
stop_known v head last s n status (stop.Closed why.Cut) answer = absurd answer
stop_known v head last s n status (stop.Closed why.Unread) answer = absurd answer
stop_known v head last s n status stop.ClientFault answer = tt
stop_known v head last s n status stop.Truncated answer = absurd answer
stop_known v head last s n status (stop.Stray ticket returned_at) answer = absurd answer
stop_known v head last s n status stop.NoMemory answer = tt

pub stop_rises : (v : Visit) (head : Head) (last : Bool) (s n : ClientStanding) (status : Status) (stop' : SessionStop) (asked' : Asked) (settled : Settled)
    → IsStatusAnswer v status head last s n (Err stop') → settled ≡ settled_by stop' asked' (is_head head)
    → RisesInAnswer settled.answered s.client.faults n.client.faults
stop_rises v head last s n status stop' asked' settled answer is =
    subst (λ (x : Settled). RisesInAnswer x.answered s.client.faults n.client.faults) (sym is) (by_stop stop' answer)
  where
    by_stop : (x : SessionStop) → IsStatusAnswer v status head last s n (Err x)
        → RisesInAnswer (settled_by x asked' (is_head head)).answered s.client.faults n.client.faults
    by_stop (stop.Closed why.ByClient) a = absurd a
    by_stop (stop.Closed why.Idle) a = absurd a
    by_stop (stop.Closed why.Last) a = absurd a
    by_stop (stop.Closed (why.Own code)) a = absurd a
    by_stop (stop.Closed (why.Refused refusal)) a = a.2.puts.steady ∙ ap (λ (x : ClientStanding). x.client.faults) a.1.alone
    by_stop (stop.Closed why.Cut) a = absurd a
    by_stop (stop.Closed why.Unread) a = absurd a
    by_stop stop.ClientFault a = a.0
    by_stop stop.Truncated a = absurd a
    by_stop (stop.Stray ticket returned_at) a = tt
    by_stop stop.NoMemory (inl (inl (m, page, has, less))) = less.puts.steady ∙ ap (λ (x : ClientStanding). x.client.faults) has.alone
    by_stop stop.NoMemory (inl (inr (m, refusal, turned, less))) = less.puts.steady ∙ ap (λ (x : ClientStanding). x.client.faults) turned.alone
    by_stop stop.NoMemory (inr unwritten) = ap (λ (x : ClientStanding). x.client.faults) unwritten.alone

pub stop_meets : (v : Visit) (head : Head) (last : Bool) (s n : ClientStanding) (status : Status) (stop' : SessionStop) (asked' : Asked) (settled : Settled) (old new : DeskState)
    → IsStatusAnswer v status head last s n (Err stop') → settled ≡ settled_by stop' asked' (is_head head) → MeetsNone old new
    → MeetsInAnswer settled.answered old new
stop_meets v head last s n status stop' asked' settled old new answer is met =
    subst (λ (x : Settled). MeetsInAnswer x.answered old new) (sym is) (by_stop stop' answer)
  where
    by_stop : (x : SessionStop) → IsStatusAnswer v status head last s n (Err x) → MeetsInAnswer (settled_by x asked' (is_head head)).answered old new
    by_stop (stop.Closed why.ByClient) a = met
    by_stop (stop.Closed why.Idle) a = met
    by_stop (stop.Closed why.Last) a = met
    by_stop (stop.Closed (why.Own code)) a = met
    by_stop (stop.Closed (why.Refused refusal)) a = met
    by_stop (stop.Closed why.Cut) a = met
    by_stop (stop.Closed why.Unread) a = met
    by_stop stop.ClientFault a = met
    by_stop stop.Truncated a = met
    by_stop (stop.Stray ticket returned_at) a = absurd a
    by_stop stop.NoMemory a = met

-- ---- a mounted request that came to its end before its worker was asked

early_stop : (v : Visit) (head : Head) (s n : ClientStanding) (worker : Named) (stop' : SessionStop) → mounted_at v head ≡ Some worker → n ≡ record s { client = n.client }
    → BreaksOff (continue_for head) s.client n.client stop' → StopsEarly v head s n (answered.Not stop') []
early_stop v head s n worker stop' mounted alone (inl wanted) =
    subst (λ (x : SessionStop). StopsEarly v head s n (answered.Not x) []) (sym wanted.0)
    (refl, inl (alone ∙ ap (λ (m : Moment). record s { client = m }) wanted.1))
early_stop v head s n worker (stop.Closed w) mounted alone (inr writes) = absurd writes
early_stop v head s n worker stop.ClientFault mounted alone (inr writes) =
    (refl, writes.0, inr (subst (λ (o : Option Named). IsSome o) (sym mounted) refl, record { puts = writes.1; alone = alone }))
early_stop v head s n worker stop.Truncated mounted alone (inr writes) = absurd writes
early_stop v head s n worker (stop.Stray ticket returned_at) mounted alone (inr writes) = absurd writes
early_stop v head s n worker stop.NoMemory mounted alone (inr writes) =
    (refl, inr (inr (subst (λ (o : Option Named). IsSome o) (sym mounted) refl, record { puts = writes; alone = alone })))

pub answers_early : (v : Visit) (head : Head) (last : Bool) (s n : ClientStanding) (body : BodyIn) (worker : Named) (stop' : SessionStop) (settled : Settled)
    → mounted_at v head ≡ Some worker → n ≡ record s { client = n.client } → BreaksOff (continue_for head) s.client n.client stop' → settled ≡ stopped_by stop'
    → IsAnswer v head last s n body body settled.answered (rows_of settled.row)
answers_early v head last s n body worker stop' settled mounted alone broken is =
    subst (λ (x : Settled). IsAnswer v head last s n body body x.answered (rows_of x.row)) (sym is)
    (inl (early_stop v head s n worker stop' mounted alone broken))

meets_early_by : (bytes : List ℕ) (s n : Moment) (stop' : SessionStop) (desk : DeskState) → BreaksOff bytes s n stop' → MeetsBy stop' desk desk
meets_early_by bytes s n stop' desk (inl wanted) = subst (λ (x : SessionStop). MeetsBy x desk desk) (sym wanted.0) (none_met desk)
meets_early_by bytes s n (stop.Closed w) desk (inr writes) = absurd writes
meets_early_by bytes s n stop.ClientFault desk (inr writes) = none_met desk
meets_early_by bytes s n stop.Truncated desk (inr writes) = absurd writes
meets_early_by bytes s n (stop.Stray ticket returned_at) desk (inr writes) = absurd writes
meets_early_by bytes s n stop.NoMemory desk (inr writes) = none_met desk

pub meets_early : (bytes : List ℕ) (s n : Moment) (stop' : SessionStop) (settled : Settled) (desk : DeskState) → BreaksOff bytes s n stop' → settled ≡ stopped_by stop'
    → MeetsInAnswer settled.answered desk desk
meets_early bytes s n stop' settled desk broken is =
    subst (λ (x : Settled). MeetsInAnswer x.answered desk desk) (sym is) (meets_early_by bytes s n stop' desk broken)

rises_early_by : (bytes : List ℕ) (s n : Moment) (stop' : SessionStop) → BreaksOff bytes s n stop' → RisesBy stop' s.faults n.faults
rises_early_by bytes s n stop' (inl wanted) =
    subst (λ (x : SessionStop). RisesBy x s.faults n.faults) (sym wanted.0) (ap (λ (m : Moment). m.faults) wanted.1)
rises_early_by bytes s n (stop.Closed w) (inr writes) = absurd writes
rises_early_by bytes s n stop.ClientFault (inr writes) = writes.0
rises_early_by bytes s n stop.Truncated (inr writes) = absurd writes
rises_early_by bytes s n (stop.Stray ticket returned_at) (inr writes) = absurd writes
rises_early_by bytes s n stop.NoMemory (inr writes) = writes.steady

pub rises_early : (bytes : List ℕ) (s n : Moment) (stop' : SessionStop) (settled : Settled) → BreaksOff bytes s n stop' → settled ≡ stopped_by stop'
    → RisesInAnswer settled.answered s.faults n.faults
rises_early bytes s n stop' settled broken is =
    subst (λ (x : Settled). RisesInAnswer x.answered s.faults n.faults) (sym is) (rises_early_by bytes s n stop' broken)

-- ---- a request that is mounted nowhere

not_found_by : (v : Visit) (head : Head) (s : ClientStanding) (w : Moment) (x : SessionStop) → mounted_at v head ≡ None → WritesOwn 404 (own_kind_at v head) s.client w x
    → StopsEarly v head s (record s { client = w }) (settled_by x (line_of head) (is_head head)).answered (rows_of (settled_by x (line_of head) (is_head head)).row)
not_found_by v head s w (stop.Closed why.ByClient) none writes = absurd writes
not_found_by v head s w (stop.Closed why.Idle) none writes = absurd writes
not_found_by v head s w (stop.Closed why.Last) none writes = absurd writes
not_found_by v head s w (stop.Closed (why.Own code)) none writes =
    (writes.0, none, record { puts = subst (λ (k : ℕ). Puts s.client w (own_for k (own_kind_at v head))) (sym writes.0) writes.1; alone = refl }, refl)
not_found_by v head s w (stop.Closed (why.Refused refusal)) none writes = absurd writes
not_found_by v head s w (stop.Closed why.Cut) none writes = absurd writes
not_found_by v head s w (stop.Closed why.Unread) none writes = absurd writes
not_found_by v head s w stop.ClientFault none writes = (refl, writes.0, inl (none, record { puts = writes.1; alone = refl }))
not_found_by v head s w stop.Truncated none writes = absurd writes
not_found_by v head s w (stop.Stray ticket returned_at) none writes = absurd writes
not_found_by v head s w stop.NoMemory none writes = (refl, inr (inl (none, record { puts = writes; alone = refl })))

pub not_found_answers : (v : Visit) (head : Head) (last : Bool) (s : ClientStanding) (w : Moment) (body : BodyIn) (settled : Settled) → mounted_at v head ≡ None
    → IsNotFound v head s.client w settled → IsAnswer v head last s (record s { client = w }) body body settled.answered (rows_of settled.row)
not_found_answers v head last s w body settled none (inl (same, is)) =
    subst (λ (x : Settled). IsAnswer v head last s (record s { client = w }) body body x.answered (rows_of x.row)) (sym is)
    (inl (refl, inl (ap (λ (m : Moment). record s { client = m }) same)))
not_found_answers v head last s w body settled none (inr (stop', writes, is)) =
    subst (λ (x : Settled). IsAnswer v head last s (record s { client = w }) body body x.answered (rows_of x.row)) (sym is)
    (inl (not_found_by v head s w stop' none writes))

not_found_meets_by : (kind : OwnKind) (head_only : Bool) (line : Asked) (s n : Moment) (x : SessionStop) (desk : DeskState) → WritesOwn 404 kind s n x
    → MeetsInAnswer (settled_by x line head_only).answered desk desk
not_found_meets_by kind head_only line s n (stop.Closed why.ByClient) desk writes = absurd writes
not_found_meets_by kind head_only line s n (stop.Closed why.Idle) desk writes = absurd writes
not_found_meets_by kind head_only line s n (stop.Closed why.Last) desk writes = absurd writes
not_found_meets_by kind head_only line s n (stop.Closed (why.Own code)) desk writes = none_met desk
not_found_meets_by kind head_only line s n (stop.Closed (why.Refused refusal)) desk writes = absurd writes
not_found_meets_by kind head_only line s n (stop.Closed why.Cut) desk writes = absurd writes
not_found_meets_by kind head_only line s n (stop.Closed why.Unread) desk writes = absurd writes
not_found_meets_by kind head_only line s n stop.ClientFault desk writes = none_met desk
not_found_meets_by kind head_only line s n stop.Truncated desk writes = absurd writes
not_found_meets_by kind head_only line s n (stop.Stray ticket returned_at) desk writes = absurd writes
not_found_meets_by kind head_only line s n stop.NoMemory desk writes = none_met desk

pub not_found_meets : (v : Visit) (head : Head) (s n : Moment) (settled : Settled) (desk : DeskState) → IsNotFound v head s n settled → MeetsInAnswer settled.answered desk desk
not_found_meets v head s n settled desk (inl (same, is)) = subst (λ (x : Settled). MeetsInAnswer x.answered desk desk) (sym is) (none_met desk)
not_found_meets v head s n settled desk (inr (stop', writes, is)) =
    subst (λ (x : Settled). MeetsInAnswer x.answered desk desk) (sym is) (not_found_meets_by (own_kind_at v head) (is_head head) (line_of head) s n stop' desk writes)

not_found_rises_by : (kind : OwnKind) (head_only : Bool) (line : Asked) (s n : Moment) (x : SessionStop) → WritesOwn 404 kind s n x
    → RisesInAnswer (settled_by x line head_only).answered s.faults n.faults
not_found_rises_by kind head_only line s n (stop.Closed why.ByClient) writes = absurd writes
not_found_rises_by kind head_only line s n (stop.Closed why.Idle) writes = absurd writes
not_found_rises_by kind head_only line s n (stop.Closed why.Last) writes = absurd writes
not_found_rises_by kind head_only line s n (stop.Closed (why.Own code)) writes = writes.1.steady
not_found_rises_by kind head_only line s n (stop.Closed (why.Refused refusal)) writes = absurd writes
not_found_rises_by kind head_only line s n (stop.Closed why.Cut) writes = absurd writes
not_found_rises_by kind head_only line s n (stop.Closed why.Unread) writes = absurd writes
not_found_rises_by kind head_only line s n stop.ClientFault writes = writes.0
not_found_rises_by kind head_only line s n stop.Truncated writes = absurd writes
not_found_rises_by kind head_only line s n (stop.Stray ticket returned_at) writes = absurd writes
not_found_rises_by kind head_only line s n stop.NoMemory writes = writes.steady

pub not_found_rises : (v : Visit) (head : Head) (s n : Moment) (settled : Settled) → IsNotFound v head s n settled → RisesInAnswer settled.answered s.faults n.faults
not_found_rises v head s n settled (inl (same, is)) =
    subst (λ (x : Settled). RisesInAnswer x.answered s.faults n.faults) (sym is) (ap (λ (m : Moment). m.faults) same)
not_found_rises v head s n settled (inr (stop', writes, is)) =
    subst (λ (x : Settled). RisesInAnswer x.answered s.faults n.faults) (sym is) (not_found_rises_by (own_kind_at v head) (is_head head) (line_of head) s n stop' writes)

-- ---- a request that goes on to its worker

pub told_on : (v : Visit) (head : Head) (last : Bool) (s n : ClientStanding) (w : Moment) (body body' : BodyIn) (a : Answered) (rows : List Served) (worker : Named) → mounted_at v head ≡ Some worker
    → Puts s.client w (continue_for head) → IsAnswerAt v head last (record s { client = w }) n body body' a rows → IsAnswer v head last s n body body' a rows
told_on v head last s n w body body' a rows worker mounted puts at =
    inr (record s { client = w }, record { mounted = subst (λ (o : Option Named). IsSome o) (sym mounted) refl; written = record { puts = puts; alone = refl } }, at)

-- no call on a new body had failed
pub goes_on_new : (a : Answered) (plan : BodyPlan) (body : BodyIn) → IsNewBody plan body → LeavesBodySound a body
goes_on_new answered.Whole plan body fresh = fresh.going
goes_on_new (answered.Not stop') plan body fresh = tt
