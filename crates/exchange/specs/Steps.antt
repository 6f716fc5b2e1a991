-- The steps that an exchange is made of: what follows a round, by how its last talk ended.
use Rattle.std.specs.Prelude.{◌≡◌, ℕ, ◌≤◌, ◌⊎◌, Bool, true, false, List, Option, Some, None, if◌then◌else◌}
use Rattle.jk_io.specs.Told.{appended, PutsFront, Rose}
use Rattle.lb_model.specs.declared.ask.Ask.{Ask}
use Rattle.lb_model.specs.declared.refusal.FullMark.{FullMark}
use Rattle.lb_model.specs.declared.refusal.RoomError.TheVariants as room
use Rattle.lb_model.specs.declared.refusal.Stray.{Stray}
use Rattle.lb_book.specs.Desks.{Chooses, DeskState, LeaseNote, RefusesChoice, pair_of, without_last}
use Rattle.lb_book.specs.declared.desk.Choice.TheVariants as choice
use Rattle.jk_io.specs.Moments.{Moment}
use Rattle.ajp_talk.specs.declared.ending.Cause.{Cause}
use Rattle.ajp_talk.specs.declared.ending.TalkEnd.{TalkEnd}
use Rattle.ajp_talk.specs.declared.ending.TalkEnd.TheVariants as ends
use Rattle.ajp_talk.specs.declared.ending.Told.{Told}
use Rattle.http_front.specs.declared.head.Head.{Head}
use Rattle.http_out.specs.Own.{own_bytes, own_with, status_of}
use Rattle.http_out.specs.declared.own_answers.Own.{Own}
use Rattle.http_out.specs.declared.own_answers.OwnKind.{OwnKind}
use Rattle.site_config.specs.declared.endpoint.Endpoint.{Endpoint}
use Rattle.exchange.specs.Deliveries.{PutsShort}
use Rattle.exchange.specs.Ends.{outcome_for, status_for}
use Rattle.exchange.specs.Requests.{Errand, allows}
use Rattle.exchange.specs.Rounds.{FindsNone, IsBack, IsForced, IsFull, IsRound, IsUnchosen, Round, Scene, WantsMemory}
use Rattle.exchange.specs.declared.ending.ExchangeEnd.{ExchangeEnd}
use Rattle.exchange.specs.declared.ending.ExchangeEnd.TheVariants as exchange_end
use Rattle.exchange.specs.declared.ending.Ran.{Ran}
use Rattle.exchange.specs.declared.ending.Ran.TheVariants as ran_is
use Rattle.exchange.specs.declared.ending.RoundVerdict.{RoundVerdict}
use Rattle.exchange.specs.declared.ending.RoundVerdict.TheVariants as verdict

-- after a talk that failed where no other try is allowed: the client is closed where a byte was passed, else it gets 503
-- for a status that counts as a failure, and 502 for any other cause
abbrev pub after_failure : ℕ → Cause → Option Told → RoundVerdict
after_failure member cause (Some told) = verdict.End (exchange_end.Cut member told)
after_failure member cause None = verdict.Answer (own_with (status_for cause))

abbrev pub after_bad_body : ℕ → ℕ → Option Told → RoundVerdict
after_bad_body member status (Some told) = verdict.End (exchange_end.Cut member told)
after_bad_body member status None = verdict.Answer (own_with status)

abbrev pub after_client : Bool → RoundVerdict
after_client true = verdict.End exchange_end.Truncated
after_client false = verdict.End exchange_end.ClientFault

-- what follows the last talk of a round
abbrev pub after : Endpoint → Head → ℕ → TalkEnd → RoundVerdict
after endpoint head member (ends.Done told reuse bytes) = verdict.End (exchange_end.Done member told)
after endpoint head member (ends.Failed stage cause told bytes) =
    if allows endpoint head stage then verdict.Again member else after_failure member cause told
after endpoint head member (ends.ClientGone truncated keep bytes) = after_client truncated
after endpoint head member (ends.BadBody status told passed bytes) = after_bad_body member status told

-- what follows a round: 413 where the Forward Request is too large for the member
abbrev pub verdict_for : Endpoint → Head → ℕ → Ran → RoundVerdict
verdict_for endpoint head member ran_is.TooLarge = verdict.Answer Own.ContentTooLarge
verdict_for endpoint head member (ran_is.Wanted bytes) = verdict.End exchange_end.NoMemory
verdict_for endpoint head member (ran_is.Ended end bytes) = after endpoint head member end

-- The verdict where the lease's ticket came back, or was a stray.
abbrev pub verdict_back : Option Stray → Endpoint → Head → ℕ → Ran → RoundVerdict
verdict_back None endpoint head member ran = verdict_for endpoint head member ran
verdict_back (Some stray) endpoint head member ran = verdict.End (exchange_end.Stray stray.ticket stray.returned_at)

-- The lease was handed back.
pub record HandsLeaseBack (old new : DeskState) (session at : ℕ) (lease : LeaseNote) (endpoint : Endpoint) (head : Head) (member : ℕ) (ran : Ran) (v : RoundVerdict) : Type 0 where
  pub stray : Option Stray
  pub back : IsBack old new session at lease (outcome_for endpoint ran) stray
  pub fulls : new.fulls ≡ old.fulls
  pub wides : new.wides ≡ old.wides
  pub held : new.held ≡ without_last old.held (pair_of lease)
  pub follows : v ≡ verdict_back stray endpoint head member ran

-- Why the desk gave no lease: 503 where no member may be chosen, 500 where it is forced or full.
pub data IsNoLease {T M : Type 0} (note : T → LeaseNote) (numbers : M → FullMark) (old new : DeskState) (lb session at : ℕ) (ask : Ask) (v : RoundVerdict) : Type 0 where
  none : v ≡ verdict.Answer Own.ServiceUnavailable → Chooses note old new lb session at ask choice.NoMember → IsNoLease note numbers old new lb session at ask v
  forced : v ≡ verdict.Answer Own.InternalServerError → Chooses note old new lb session at ask choice.Forced → IsNoLease note numbers old new lb session at ask v
  full : v ≡ verdict.Answer Own.InternalServerError → (mark : M) → RefusesChoice numbers old new lb session at (room.Full mark) → IsNoLease note numbers old new lb session at ask v
  wanted : v ≡ verdict.End exchange_end.NoMemory → RefusesChoice numbers old new lb session at room.NoMemory → IsNoLease note numbers old new lb session at ask v

-- The desk chose no member: 503 where none may be chosen, 500 where it is forced or full.
abbrev pub IsNoChoice : Errand → (tried : ℕ) → Scene → Scene → RoundVerdict → Type 0
IsNoChoice q tried s n v =
    ((v ≡ verdict.Answer Own.ServiceUnavailable) × IsUnchosen q s n (FindsNone q tried))
    ⊎ (((v ≡ verdict.Answer Own.InternalServerError) × IsUnchosen q s n (IsForced q tried))
    ⊎ (((v ≡ verdict.Answer Own.InternalServerError) × IsUnchosen q s n (IsFull q))
    ⊎ ((v ≡ verdict.End exchange_end.NoMemory) × IsUnchosen q s n (WantsMemory q))))

-- A round, as a step to its verdict.
abbrev pub IsStep : Errand → (first : List ℕ) → (tried : ℕ) → (fresh : Bool) → Scene → Scene → RoundVerdict → Type 0
IsStep q first tried fresh s n v =
    IsNoChoice q tried s n v
    ⊎ (((r : Round) × IsRound q first tried fresh s n r None × (v ≡ verdict_for r.endpoint q.head r.member r.ran))
    ⊎ ((r : Round) × (stray : Stray) × IsRound q first tried fresh s n r (Some stray)
    × (v ≡ verdict.End (exchange_end.Stray stray.ticket stray.returned_at))))

-- An own answer was written whole and went out, and no call failed; or a front of it was, where the client failed; or not all
-- of it, where memory was wanted.
abbrev pub IsWritten : Own → OwnKind → Moment → Moment → ExchangeEnd → Type 0
IsWritten own kind s n (exchange_end.Done member told) = ⊥
IsWritten own kind s n (exchange_end.Own written) =
    (written ≡ status_of own) × (n.sent ≡ appended s.sent (own_bytes own kind)) × (n.faults ≡ s.faults)
IsWritten own kind s n (exchange_end.Cut member told) = ⊥
IsWritten own kind s n exchange_end.ClientFault =
    Rose s.faults n.faults × PutsFront s.sent n.sent (own_bytes own kind)
IsWritten own kind s n exchange_end.Truncated = ⊥
IsWritten own kind s n (exchange_end.Stray ticket returned_at) = ⊥
IsWritten own kind s n exchange_end.NoMemory =
    PutsShort s.sent n.sent (own_bytes own kind) × (n.faults ≡ s.faults)

-- The last round's verdict: the answer is written, and nothing else done; or the exchange ended with the round.
abbrev pub Concludes : OwnKind → RoundVerdict → Scene → Scene → ExchangeEnd → Type 0
Concludes kind (verdict.Again member) s n end = ⊥
Concludes kind (verdict.Answer own) s n end =
    (n ≡ record s { around = record s.around { client = n.around.client } }) × (s.around.client.faults ≤ n.around.client.faults)
    × IsWritten own kind s.around.client n.around.client end
Concludes kind (verdict.End ended) s n end = (end ≡ ended) × (n ≡ s)
