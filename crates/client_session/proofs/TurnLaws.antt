-- The turn of a request: the session goes on, ends at it, or ends after it.
use Rattle.std.proofs.Common.{◌≡◌, ℕ, ◌+◌, ◌≤◌, ◌<◌, ◌==◌, ◌||◌, Bool, true, false, List, [], refl, sym, Option, None, subst, inl, inr, ap, ◌∙◌, arith}
use Rattle.std.proofs.lemmas.Bool.{eq-eqb, true≢false}
use Rattle.jk_io.specs.Moments.{Moment}
use Rattle.jk_io.specs.Told.{Rose}
use Rattle.lb_model.specs.declared.served.Served.{Served}
use Rattle.http_front.specs.Refusal.{status_of}
use Rattle.http_out.specs.declared.own_answers.OwnKind.{OwnKind}
use Rattle.httpdate.specs.declared.date.HttpDate.{HttpDate}
use Rattle.http_front.specs.declared.answers.HeadError.{HeadError}
use Rattle.http_front.specs.declared.answers.HeadError.TheVariants as error
use Rattle.http_front.specs.declared.head.Head.{Head}
use Rattle.http_front.specs.State.{failed_of}
use Rattle.http_front.specs.Takes.{BodyMoment, MeetsFault, body_at}
use Rattle.http_front.specs.Wants.{Rest}
use Rattle.http_front.specs.declared.body.BodyIn.{BodyIn}
use Rattle.http_front.specs.declared.fault.BodyFault.{BodyFault}
use Rattle.http_front.specs.declared.fault.BodyFault.TheVariants as fault
use Rattle.client_session.specs.Answers.{IsAnswer}
use Rattle.lb_book.specs.Desks.{DeskState, MeetsNone}
use Rattle.client_session.specs.Ends.{MeetsBy, RisesBy, end_of}
use Rattle.client_session.specs.Finishing.{Finishes, StopsWithoutHead, TurnsAfter, stop_after}
use Rattle.client_session.specs.Requests.{IsNewBody, Visit, is_last, refused_kind}
use Rattle.client_session.specs.Sessions.{EndsIn, IsGoingOn, IsRequest, ReadsHead}
use Rattle.client_session.specs.Standings.{IsClientAlone, ClientStanding}
use Rattle.client_session.specs.Turns.{LeavesBodySound, IsBusy, IsBusyStop, IsTurn, MeetsInAnswer, MeetsInTurn, RisesInAnswer, RisesInTurn, TurnsSession}
use Rattle.client_session.specs.Writing.{WritesOwn}
use Rattle.client_session.specs.declared.ending.SessionEnd.{SessionEnd}
use Rattle.client_session.specs.declared.ending.SessionStop.{SessionStop}
use Rattle.client_session.specs.declared.ending.SessionStop.TheVariants as stop
use Rattle.client_session.specs.declared.ending.Why.TheVariants as why
use Rattle.client_session.specs.declared.turn.Answered.{Answered}
use Rattle.client_session.specs.declared.turn.Answered.TheVariants as answered
use Rattle.client_session.specs.declared.turn.SessionTurn.{SessionTurn}
use Rattle.client_session.specs.declared.turn.SessionTurn.TheVariants as turn

abbrev pub request : (v : Visit) (number : ℕ) (s read n : ClientStanding) (head : Head) (fresh body : BodyIn) (a : Answered) (rows : List Served)
    → ReadsHead s read head → IsNewBody head.plan fresh → IsAnswer v head (is_last number head) read n fresh body a rows
    → IsRequest v number s n body a rows
request v number s read n head fresh body a rows reads is_fresh answers =
    record { head = head; read = read; fresh = fresh; reads = reads; is_fresh = is_fresh; answers = answers }

rose_from : (first before now : ℕ) → before ≡ first → Rose before now → Rose first now
rose_from first before now is rose = subst (λ (n : ℕ). Rose n now) is rose

-- the request wasn't answered whole
pub stops : (v : Visit) (number : ℕ) (s read n : ClientStanding) (head : Head) (fresh body : BodyIn) (stop' : SessionStop) (rows : List Served)
    → ReadsHead s read head → IsNewBody head.plan fresh → IsAnswer v head (is_last number head) read n fresh body (answered.Not stop') rows
    → RisesInAnswer (answered.Not stop') read.client.faults n.client.faults → EndsIn v number s n rows number stop'
stops v number s read n head fresh body (stop.Closed why.ByClient) rows reads is_fresh answers rises =
    elim answers [ inl early ↦ absurd early | inr later ↦ absurd later.2 ]
stops v number s read n head fresh body (stop.Closed why.Idle) rows reads is_fresh answers rises =
    elim answers [ inl early ↦ absurd early | inr later ↦ absurd later.2 ]
stops v number s read n head fresh body (stop.Closed why.Last) rows reads is_fresh answers rises =
    elim answers [ inl early ↦ absurd early | inr later ↦ absurd later.2 ]
stops v number s read n head fresh body (stop.Closed (why.Own code)) rows reads is_fresh answers rises =
    (refl, inr (body, request v number s read n head fresh body (answered.Not (stop.Closed (why.Own code))) rows reads is_fresh answers))
stops v number s read n head fresh body (stop.Closed (why.Refused refusal)) rows reads is_fresh answers rises =
    (refl, (body, request v number s read n head fresh body (answered.Not (stop.Closed (why.Refused refusal))) rows reads is_fresh answers))
stops v number s read n head fresh body (stop.Closed why.Cut) rows reads is_fresh answers rises =
    (refl, (body, request v number s read n head fresh body (answered.Not (stop.Closed why.Cut)) rows reads is_fresh answers))
stops v number s read n head fresh body (stop.Closed why.Unread) rows reads is_fresh answers rises =
    elim answers [ inl early ↦ absurd early | inr later ↦ absurd later.2 ]
stops v number s read n head fresh body stop.ClientFault rows reads is_fresh answers rises =
    inl (
      refl,
      elim answers [ inl early ↦ early.0 | inr later ↦ later.2.0 ],
      rose_from _ _ _ reads.on.steady rises,
      inr (inr (body, request v number s read n head fresh body (answered.Not stop.ClientFault) rows reads is_fresh answers)),
    )
stops v number s read n head fresh body stop.Truncated rows reads is_fresh answers rises =
    inl (
      refl,
      elim answers [ inl early ↦ absurd early | inr later ↦ later.2.0 ],
      inr (body, request v number s read n head fresh body (answered.Not stop.Truncated) rows reads is_fresh answers),
    )
stops v number s read n head fresh body (stop.Stray ticket returned_at) rows reads is_fresh answers rises = (
  refl,
  elim answers [ inl early ↦ absurd early | inr later ↦ later.2.0 ],
  (body, request v number s read n head fresh body (answered.Not (stop.Stray ticket returned_at)) rows reads is_fresh answers),
)
stops v number s read n head fresh body stop.NoMemory rows reads is_fresh answers rises =
    inl (
      refl,
      elim answers [ inl early ↦ early.0 | inr later ↦ later.2.0 ],
      inr (inr (inr (body, request v number s read n head fresh body (answered.Not stop.NoMemory) rows reads is_fresh answers))),
    )

-- the rest of the body came to a fault
pub unread : (v : Visit) (number : ℕ) (s mid n : ClientStanding) (body after : BodyIn) (rows : List Served) (why' : BodyFault)
    → IsGoingOn v number s mid body rows → failed_of body ≡ None → IsClientAlone mid n
    → MeetsFault (body_at body mid.inbox mid.client) (body_at after n.inbox n.client) Rest why'
    → EndsIn v number s n rows (number + 1) (stop_after why')
unread v number s mid n body after rows fault.Truncated going_on going alone meets =
    inr (refl, (body, mid, going_on, record { after = after; meets = meets; going = going; alone = alone }))
unread v number s mid n body after rows fault.BadChunk going_on going alone meets =
    (refl, inl (body, mid, going_on, record { after = after; meets = meets; going = going; alone = alone }))
unread v number s mid n body after rows fault.TooLong going_on going alone meets =
    (refl, inr (body, mid, going_on, record { after = after; meets = meets; going = going; alone = alone }))
unread v number s mid n body after rows fault.Fault going_on going alone meets =
    inr (refl, (body, mid, going_on, record { after = after; meets = meets; going = going; alone = alone }))
unread v number s mid n body after rows fault.NoMemory going_on going alone meets =
    inr (refl, (body, mid, going_on, record { after = after; meets = meets; going = going; alone = alone }))

-- the rest of the body was read, or wasn't
pub finishes : (v : Visit) (number : ℕ) (s mid n : ClientStanding) (body after : BodyIn) (rows : List Served) (turn' : SessionTurn)
    → IsGoingOn v number s mid body rows → failed_of body ≡ None → IsClientAlone mid n
    → Finishes (body_at body mid.inbox mid.client) (body_at after n.inbox n.client) turn' → IsTurn v number s n rows turn'
finishes v number s mid n body after rows turn.Next going_on going alone finished =
    record { body = body; mid = mid; going_on = going_on; skips = record { after = after; passes = finished; alone = alone } }
finishes v number s mid n body after rows (turn.EndsAfter stop') going_on going alone finished =
    subst (λ (x : SessionStop). EndsIn v number s n rows (number + 1) x) (sym finished.2)
    (unread v number s mid n body after rows finished.0 going_on going alone finished.1)
finishes v number s mid n body after rows (turn.EndsAt stop') going_on going alone finished = absurd finished

-- ---- the turn of a request that was read

answered_as : (v : Visit) (number : ℕ) (read n : ClientStanding) (head : Head) (fresh body : BodyIn) (a b : Answered) (last : Bool) (rows : List Served)
    → a ≡ b → last ≡ is_last number head → IsAnswer v head last read n fresh body a rows → IsAnswer v head (is_last number head) read n fresh body b rows
answered_as v number read n head fresh body a b last rows same is answers =
    subst (λ (x : Answered). IsAnswer v head (is_last number head) read n fresh body x rows) same
    (subst (λ (l : Bool). IsAnswer v head l read n fresh body a rows) is answers)

-- there was no memory for its row
pub unrowed : (v : Visit) (number : ℕ) (s read : ClientStanding) (head : Head) (fresh : BodyIn) (puts : List Served → Type 0) → IsNewBody head.plan fresh
    → puts [] → ReadsHead s read head → TurnsSession v number s read puts (turn.EndsAt stop.NoMemory)
unrowed v number s read head fresh puts is_fresh none reads = (
  [],
  none,
  inl (refl, refl, inr (inr (inr (fresh, request v number s read read head fresh fresh (answered.Not stop.NoMemory) [] reads is_fresh (inl (refl, inl refl)))))),
)

-- it wasn't answered whole
pub turn_stops : (v : Visit) (number : ℕ) (s read n : ClientStanding) (head : Head) (fresh body : BodyIn) (a : Answered) (stop' : SessionStop) (last : Bool) (puts : List Served → Type 0) (added : List Served)
    → IsNewBody head.plan fresh → puts added → a ≡ answered.Not stop' → last ≡ is_last number head
    → IsAnswer v head last read n fresh body a added → RisesInAnswer a read.client.faults n.client.faults → ReadsHead s read head
    → TurnsSession v number s n puts (turn.EndsAt stop')
turn_stops v number s read n head fresh body a stop' last puts added is_fresh put is ends answers rises reads = (
  added,
  put,
  stops v number s read n head fresh body stop' added reads is_fresh (answered_as v number read n head fresh body a (answered.Not stop') last added is ends answers)
      (subst (λ (x : Answered). RisesInAnswer x read.client.faults n.client.faults) is rises),
)

-- it was, and is the last one
pub turn_last : (v : Visit) (number : ℕ) (s read n : ClientStanding) (head : Head) (fresh body : BodyIn) (a : Answered) (last : Bool) (puts : List Served → Type 0) (added : List Served)
    → IsNewBody head.plan fresh → puts added → a ≡ answered.Whole → last ≡ is_last number head → last ≡ true
    → IsAnswer v head last read n fresh body a added → ReadsHead s read head → TurnsSession v number s n puts (turn.EndsAfter (stop.Closed why.Last))
turn_last v number s read n head fresh body a last puts added is_fresh put is ends true' answers reads = (
  added,
  put,
  (
    refl,
    (
      body,
      request v number s read n head fresh body answered.Whole added reads is_fresh (answered_as v number read n head fresh body a answered.Whole last added is ends answers),
      sym ends ∙ true',
    ),
  ),
)

-- it was, and isn't the last one
pub turn_finishes : (v : Visit) (number : ℕ) (s read m n : ClientStanding) (head : Head) (fresh body after : BodyIn) (a : Answered) (last : Bool) (puts : List Served → Type 0) (added : List Served) (turn' : SessionTurn)
    → IsNewBody head.plan fresh → puts added → a ≡ answered.Whole → last ≡ is_last number head → last ≡ false
    → IsAnswer v head last read m fresh body a added → LeavesBodySound a body → IsClientAlone m n
    → Finishes (body_at body m.inbox m.client) (body_at after n.inbox n.client) turn' → ReadsHead s read head → TurnsSession v number s n puts turn'
turn_finishes v number s read m n head fresh body after a last puts added turn' is_fresh put is ends false' answers going alone finished reads = (
  added,
  put,
  finishes v number s m n body after added turn'
      (record {
        request = request v number s read m head fresh body answered.Whole added reads is_fresh (answered_as v number read m head fresh body a answered.Whole last added is ends answers);
        more = sym ends ∙ false';
      })
      (subst (λ (x : Answered). LeavesBodySound x body) is going) alone finished,
)

-- ---- what follows the answer

same_standing : (mid n : ClientStanding) (body after : BodyIn) → IsClientAlone mid n → body_at after n.inbox n.client ≡ body_at body mid.inbox mid.client → n ≡ mid
same_standing mid n body after alone same = alone ∙ ap (λ (m : BodyMoment). record mid { client = m.client; inbox = m.inbox }) same

pub turn_follows : (v : Visit) (number : ℕ) (s read mid n : ClientStanding) (head : Head) (fresh body after : BodyIn) (a : Answered) (last : Bool) (puts : List Served → Type 0) (added : List Served) (turn' : SessionTurn)
    → IsNewBody head.plan fresh → puts added → last ≡ is_last number head
    → IsAnswer v head last read mid fresh body a added → RisesInAnswer a read.client.faults mid.client.faults → LeavesBodySound a body → IsClientAlone mid n
    → TurnsAfter a last (body_at body mid.inbox mid.client) (body_at after n.inbox n.client) turn' → ReadsHead s read head → TurnsSession v number s n puts turn'
turn_follows v number s read mid n head fresh body after (answered.Not stop') last puts added turn' is_fresh put ends answers rises going alone turned reads =
    subst (λ (x : SessionTurn). TurnsSession v number s n puts x) (sym turned.0)
    (subst (λ (m : ClientStanding). TurnsSession v number s m puts (turn.EndsAt stop')) (sym (same_standing mid n body after alone turned.1))
    (turn_stops v number s read mid head fresh body (answered.Not stop') stop' last puts added is_fresh put refl ends answers rises reads))
turn_follows v number s read mid n head fresh body after answered.Whole true puts added turn' is_fresh put ends answers rises going alone turned reads =
    subst (λ (x : SessionTurn). TurnsSession v number s n puts x) (sym turned.0)
    (subst (λ (m : ClientStanding). TurnsSession v number s m puts (turn.EndsAfter (stop.Closed why.Last))) (sym (same_standing mid n body after alone turned.1))
    (turn_last v number s read mid head fresh body answered.Whole true puts added is_fresh put refl ends refl answers reads))
turn_follows v number s read mid n head fresh body after answered.Whole false puts added turn' is_fresh put ends answers rises going alone turned reads =
    turn_finishes v number s read mid n head fresh body after answered.Whole false puts added turn' is_fresh put refl ends refl answers going alone turned reads

pub turns_not : (a : Answered) (stop' : SessionStop) (last : Bool) (s n : BodyMoment) → a ≡ answered.Not stop' → n ≡ s → TurnsAfter a last s n (turn.EndsAt stop')
turns_not a stop' last s n is same = subst (λ (x : Answered). TurnsAfter x last s n (turn.EndsAt stop')) (sym is) (refl, same)

pub turns_last : (a : Answered) (last : Bool) (s n : BodyMoment) → a ≡ answered.Whole → last ≡ true → n ≡ s → TurnsAfter a last s n (turn.EndsAfter (stop.Closed why.Last))
turns_last a last s n is true' same =
    subst (λ (x : Answered). TurnsAfter x last s n (turn.EndsAfter (stop.Closed why.Last))) (sym is)
    (subst (λ (l : Bool). TurnsAfter answered.Whole l s n (turn.EndsAfter (stop.Closed why.Last))) (sym true') (refl, same))

pub turns_on : (a : Answered) (last : Bool) (s n : BodyMoment) (turn' : SessionTurn) → a ≡ answered.Whole → last ≡ false → Finishes s n turn' → TurnsAfter a last s n turn'
turns_on a last s n turn' is false' finished =
    subst (λ (x : Answered). TurnsAfter x last s n turn') (sym is) (subst (λ (l : Bool). TurnsAfter answered.Whole l s n turn') (sym false') finished)

met_unread : (why' : BodyFault) (old new : DeskState) → MeetsNone old new → MeetsBy (stop_after why') old new
met_unread fault.Truncated old new met = met
met_unread fault.BadChunk old new met = met
met_unread fault.TooLong old new met = met
met_unread fault.Fault old new met = met
met_unread fault.NoMemory old new met = met

finished_meets : (s n : BodyMoment) (turn' : SessionTurn) (old new : DeskState) → Finishes s n turn' → MeetsNone old new → MeetsInTurn turn' old new
finished_meets s n turn.Next old new finished met = met
finished_meets s n (turn.EndsAfter stop') old new finished met =
    subst (λ (x : SessionStop). MeetsBy x old new) (sym finished.2) (met_unread finished.0 old new met)
finished_meets s n (turn.EndsAt stop') old new finished met = absurd finished

pub follows_meets : (a : Answered) (last : Bool) (s n : BodyMoment) (turn' : SessionTurn) (old new : DeskState) → TurnsAfter a last s n turn' → MeetsInAnswer a old new
    → MeetsInTurn turn' old new
follows_meets (answered.Not stop') last s n turn' old new turned met = subst (λ (x : SessionTurn). MeetsInTurn x old new) (sym turned.0) met
follows_meets answered.Whole true s n turn' old new turned met = subst (λ (x : SessionTurn). MeetsInTurn x old new) (sym turned.0) met
follows_meets answered.Whole false s n turn' old new turned met = finished_meets s n turn' old new turned met

rose_later : (first before now : ℕ) → first ≤ before → Rose before now → Rose first now
rose_later first before now more rose = omega (arith, more, rose)

risen_unread : (why' : BodyFault) (s n : BodyMoment) (first : ℕ) → s.client.faults ≡ first → failed_of s.body ≡ None → MeetsFault s n Rest why'
    → RisesBy (stop_after why') first n.client.faults
risen_unread fault.Truncated s n first same going meets = meets.steady tt ∙ same
risen_unread fault.BadChunk s n first same going meets = meets.steady tt ∙ same
risen_unread fault.TooLong s n first same going meets = meets.steady tt ∙ same
risen_unread fault.Fault s n first same going meets = rose_later _ _ _ (omega (arith, same)) (meets.fault refl going)
risen_unread fault.NoMemory s n first same going meets = meets.steady tt ∙ same

finished_rises : (s n : BodyMoment) (turn' : SessionTurn) (first : ℕ) → s.client.faults ≡ first → failed_of s.body ≡ None → Finishes s n turn'
    → RisesInTurn turn' first n.client.faults
finished_rises s n turn.Next first same going finished = finished.on.steady ∙ same
finished_rises s n (turn.EndsAfter stop') first same going finished =
    subst (λ (x : SessionStop). RisesBy x first n.client.faults) (sym finished.2) (risen_unread finished.0 s n first same going finished.1)
finished_rises s n (turn.EndsAt stop') first same going finished = absurd finished

pub follows_rises : (a : Answered) (last : Bool) (s n : BodyMoment) (turn' : SessionTurn) (first : ℕ) → LeavesBodySound a s.body
    → TurnsAfter a last s n turn' → RisesInAnswer a first s.client.faults → RisesInTurn turn' first n.client.faults
follows_rises (answered.Not stop') last s n turn' first going turned rises =
    subst (λ (x : SessionTurn). RisesInTurn x first n.client.faults) (sym turned.0)
    (subst (λ (m : BodyMoment). RisesInTurn (turn.EndsAt stop') first m.client.faults) (sym turned.1) rises)
follows_rises answered.Whole true s n turn' first going turned rises =
    subst (λ (x : SessionTurn). RisesInTurn x first n.client.faults) (sym turned.0) (ap (λ (m : BodyMoment). m.client.faults) turned.1 ∙ rises)
follows_rises answered.Whole false s n turn' first going turned rises = finished_rises s n turn' first rises going turned

or_right : (x y : Bool) → (x || y) ≡ false → y ≡ false
or_right true y e = absurd (true≢false e)
or_right false y e = e

-- a request that isn't the last is not the 1,000th
pub not_last : (number : ℕ) (head : Head) → is_last number head ≡ false → number < 1000 → number + 1 < 1000
not_last number head more below =
    let unequal = or_right head.close (number + 1 == 1000) (or_right head.old _ more) in
    let other : number + 1 ≡ 1000 → ⊥ = λ is. true≢false (sym (eq-eqb (number + 1) 1000 is) ∙ unequal) in
    omega (arith, below, other)

-- the session ends, and no next request is read
pub none_next : (stop' : SessionStop) (P : Type 0) → turn.EndsAt stop' ≡ turn.Next → P
none_next stop' P is = absurd cc

-- the faults were as many when the turn began
pub rises_since : (turn' : SessionTurn) (before mid now : ℕ) → mid ≡ before → RisesInTurn turn' mid now → RisesInTurn turn' before now
rises_since turn' before mid now same rises = subst (λ (k : ℕ). RisesInTurn turn' k now) same rises

-- ---- an end for a client that waits

abbrev IsBusyAnswer : Answered → Type 0
IsBusyAnswer answered.Whole = Unit {0}
IsBusyAnswer (answered.Not stop') = IsBusyStop stop'

never_idle : (v : Visit) (head : Head) (last : Bool) (s n : ClientStanding) (body body' : BodyIn) (rows : List Served)
    → IsAnswer v head last s n body body' (answered.Not (stop.Closed why.Idle)) rows → ⊥
never_idle v head last s n body body' rows (inl early) = early
never_idle v head last s n body body' rows (inr later) = later.2

-- no answer ends a session so
answer_busy : (v : Visit) (head : Head) (last : Bool) (s n : ClientStanding) (body body' : BodyIn) (a : Answered) (rows : List Served)
    → IsAnswer v head last s n body body' a rows → IsBusyAnswer a
answer_busy v head last s n body body' answered.Whole rows answers = tt
answer_busy v head last s n body body' (answered.Not (stop.Closed why.ByClient)) rows answers = tt
answer_busy v head last s n body body' (answered.Not (stop.Closed why.Idle)) rows answers = never_idle v head last s n body body' rows answers
answer_busy v head last s n body body' (answered.Not (stop.Closed why.Last)) rows answers = tt
answer_busy v head last s n body body' (answered.Not (stop.Closed (why.Own code))) rows answers = tt
answer_busy v head last s n body body' (answered.Not (stop.Closed (why.Refused refusal))) rows answers = tt
answer_busy v head last s n body body' (answered.Not (stop.Closed why.Cut)) rows answers = tt
answer_busy v head last s n body body' (answered.Not (stop.Closed why.Unread)) rows answers = tt
answer_busy v head last s n body body' (answered.Not stop.ClientFault) rows answers = tt
answer_busy v head last s n body body' (answered.Not stop.Truncated) rows answers = tt
answer_busy v head last s n body body' (answered.Not (stop.Stray ticket returned_at)) rows answers = tt
answer_busy v head last s n body body' (answered.Not stop.NoMemory) rows answers = tt

unread_busy : (why' : BodyFault) → IsBusyStop (stop_after why')
unread_busy fault.Truncated = tt
unread_busy fault.BadChunk = tt
unread_busy fault.TooLong = tt
unread_busy fault.Fault = tt
unread_busy fault.NoMemory = tt

finished_busy : (s n : BodyMoment) (turn' : SessionTurn) → Finishes s n turn' → IsBusy turn'
finished_busy s n turn.Next finished = tt
finished_busy s n (turn.EndsAfter stop') finished = subst IsBusyStop (sym finished.2) (unread_busy finished.0)
finished_busy s n (turn.EndsAt stop') finished = absurd finished

follows_busy : (a : Answered) (last : Bool) (s n : BodyMoment) (turn' : SessionTurn) → TurnsAfter a last s n turn' → IsBusyAnswer a → IsBusy turn'
follows_busy (answered.Not stop') last s n turn' turned busy = subst IsBusy (sym turned.0) busy
follows_busy answered.Whole true s n turn' turned busy = subst IsBusy (sym turned.0) tt
follows_busy answered.Whole false s n turn' turned busy = finished_busy s n turn' turned

pub turn_busy : (v : Visit) (head : Head) (l last : Bool) (s n : ClientStanding) (body body' : BodyIn) (a : Answered) (rows : List Served) (b b' : BodyMoment) (turn' : SessionTurn)
    → IsAnswer v head l s n body body' a rows → TurnsAfter a last b b' turn' → IsBusy turn'
turn_busy v head l last s n body body' a rows b b' turn' answers turned = follows_busy a last b b' turn' turned (answer_busy v head l s n body body' a rows answers)

-- nor does a head that wasn't read
own_busy : (status : ℕ) (kind : OwnKind) (s n : Moment) (stop' : SessionStop) → WritesOwn status kind s n stop' → IsBusyStop stop'
own_busy status kind s n (stop.Closed why.ByClient) writes = tt
own_busy status kind s n (stop.Closed why.Idle) writes = writes
own_busy status kind s n (stop.Closed why.Last) writes = tt
own_busy status kind s n (stop.Closed (why.Own code)) writes = tt
own_busy status kind s n (stop.Closed (why.Refused refusal)) writes = tt
own_busy status kind s n (stop.Closed why.Cut) writes = tt
own_busy status kind s n (stop.Closed why.Unread) writes = tt
own_busy status kind s n stop.ClientFault writes = tt
own_busy status kind s n stop.Truncated writes = tt
own_busy status kind s n (stop.Stray ticket returned_at) writes = tt
own_busy status kind s n stop.NoMemory writes = tt

pub busy_without_head : (date : Option HttpDate) (e : HeadError) (s n : Moment) (puts : List Served → Type 0) (stop' : SessionStop) → StopsWithoutHead date e s n puts stop' → IsBusyStop stop'
busy_without_head date (error.Refused status form) s n puts stop' (inl wanted) = subst IsBusyStop (sym wanted.0) tt
busy_without_head date (error.Refused status form) s n puts stop' (inr written) = own_busy (status_of form) (refused_kind date) s n stop' written.0
busy_without_head date error.Truncated s n puts stop' stops = subst IsBusyStop (sym stops.0) tt
busy_without_head date error.Fault s n puts stop' stops = subst IsBusyStop (sym stops.0) tt
busy_without_head date error.NoMemory s n puts stop' stops = subst IsBusyStop (sym stops.0) tt

-- a session that ended so didn't end for a client that waits
pub ended_busy : (stop' : SessionStop) (count : ℕ) (end : SessionEnd) (P : Type 0) → end ≡ end_of stop' count → IsBusyStop stop' → end.stop ≡ stop.Closed why.Idle → P
ended_busy stop' count end P is busy idle =
    absurd (subst IsBusyStop (sym (ap (λ (x : SessionEnd). x.stop) is) ∙ idle) busy)
