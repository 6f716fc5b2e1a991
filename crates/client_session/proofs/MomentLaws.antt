-- A moment that was read leaves all but the clock as it was.
use Rattle.std.proofs.Common.{◌≡◌, Bool, true, false, List, ℕ, Option, None, refl, ap, subst, inl, inr}
use Rattle.httpdate.specs.declared.date.HttpDate.{HttpDate}
use Rattle.http_front.specs.declared.head.Head.{Head}
use Rattle.lb_model.specs.declared.served.Served.{Served}
use Rattle.client_session.specs.Moments.{IsNextDate, IsTold, ReadsInTurn, ReadsLast, ReadsMoment}
use Rattle.client_session.specs.Requests.{Visit, visit_at}
use Rattle.client_session.specs.Sessions.{ReadsHead}
use Rattle.client_session.specs.Standings.{ClientStanding}
use Rattle.client_session.specs.Surroundings.{TurnsNow}
use Rattle.client_session.specs.Turns.{TurnsSession}
use Rattle.client_session.specs.declared.ending.SessionStop.{SessionStop}
use Rattle.client_session.specs.declared.ending.SessionStop.TheVariants as stop
use Rattle.client_session.specs.declared.ending.Why.TheVariants as why
use Rattle.client_session.specs.declared.turn.SessionTurn.{SessionTurn}
use Rattle.client_session.specs.declared.turn.SessionTurn.TheVariants as turn

-- the standing with another clock
abbrev pub clocked : ClientStanding → Option (List ℕ) → ClientStanding
clocked s clock = record s { desk = record s.desk { clock = clock } }

pub clock_read : (v : Visit) (s : ClientStanding) (clock : Option (List ℕ)) (date : Option HttpDate) → IsNextDate v.dated s.desk.clock clock date
    → ReadsMoment v s (clocked s clock) date
clock_read v s clock date next = record { is = next; alone = refl }

-- the moment may be read before the head as well as after it
pub head_clocked : (s read : ClientStanding) (head : Head) (clock : Option (List ℕ)) → ReadsHead s read head → ReadsHead (clocked s clock) (clocked read clock) head
head_clocked s read head clock reads = record {
  used = reads.used;
  on = record { alone = ap (λ (x : ClientStanding). clocked x clock) reads.on.alone; sent = reads.on.sent; steady = reads.on.steady };
}

told_next : (dated : Bool) (old new : Option (List ℕ)) (date : Option HttpDate) → IsNextDate dated old new date → dated ≡ false → date ≡ None
told_next false old new date is undated = is.0
told_next true old new date is undated = absurd cc

pub told_moment : (v : Visit) (s n : ClientStanding) (date : Option HttpDate) → ReadsMoment v s n date → IsTold v date
told_moment v s n date reads undated = told_next v.dated s.desk.clock n.desk.clock date reads.is undated

pub told_last : (stop' : SessionStop) (v : Visit) (s n : ClientStanding) (date : Option HttpDate) → ReadsLast stop' v s n date → IsTold v date
told_last (stop.Closed why.ByClient) v s n date (inl reads) undated = reads.1
told_last (stop.Closed why.ByClient) v s n date (inr reads) undated = told_moment v s n date reads undated
told_last (stop.Closed why.Idle) v s n date (inl reads) undated = reads.1
told_last (stop.Closed why.Idle) v s n date (inr reads) undated = told_moment v s n date reads undated
told_last (stop.Closed why.Last) v s n date reads undated = told_moment v s n date reads undated
told_last (stop.Closed (why.Own code)) v s n date reads undated = told_moment v s n date reads undated
told_last (stop.Closed (why.Refused refusal)) v s n date reads undated = told_moment v s n date reads undated
told_last (stop.Closed why.Cut) v s n date reads undated = told_moment v s n date reads undated
told_last (stop.Closed why.Unread) v s n date reads undated = told_moment v s n date reads undated
told_last stop.ClientFault v s n date reads undated = told_moment v s n date reads undated
told_last stop.Truncated v s n date reads undated = told_moment v s n date reads undated
told_last (stop.Stray ticket returned_at) v s n date reads undated = told_moment v s n date reads undated
told_last stop.NoMemory v s n date (inl reads) undated = reads.1
told_last stop.NoMemory v s n date (inr reads) undated = told_moment v s n date reads undated

-- what stays of a standing
pub record StaysButClock (s n : ClientStanding) : Type 0 where
  pub state : n.desk.state ≡ s.desk.state
  pub reach : n.reach ≡ s.reach
  pub client : n.client ≡ s.client
  pub inbox : n.inbox ≡ s.inbox

pub moment_stays : (v : Visit) (s n : ClientStanding) (date : Option HttpDate) → ReadsMoment v s n date → StaysButClock s n
moment_stays v s n date reads = record {
  state = ap (λ (x : ClientStanding). x.desk.state) reads.alone;
  reach = ap (λ (x : ClientStanding). x.reach) reads.alone;
  client = ap (λ (x : ClientStanding). x.client) reads.alone;
  inbox = ap (λ (x : ClientStanding). x.inbox) reads.alone;
}

same_stays : (s n : ClientStanding) → n ≡ s → StaysButClock s n
same_stays s n same = record {
  state = ap (λ (x : ClientStanding). x.desk.state) same;
  reach = ap (λ (x : ClientStanding). x.reach) same;
  client = ap (λ (x : ClientStanding). x.client) same;
  inbox = ap (λ (x : ClientStanding). x.inbox) same;
}

pub last_stays : (stop' : SessionStop) (v : Visit) (s n : ClientStanding) (date : Option HttpDate) → ReadsLast stop' v s n date → StaysButClock s n
last_stays (stop.Closed why.ByClient) v s n date (inl reads) = same_stays s n reads.0
last_stays (stop.Closed why.ByClient) v s n date (inr reads) = moment_stays v s n date reads
last_stays (stop.Closed why.Idle) v s n date (inl reads) = same_stays s n reads.0
last_stays (stop.Closed why.Idle) v s n date (inr reads) = moment_stays v s n date reads
last_stays (stop.Closed why.Last) v s n date reads = moment_stays v s n date reads
last_stays (stop.Closed (why.Own code)) v s n date reads = moment_stays v s n date reads
last_stays (stop.Closed (why.Refused refusal)) v s n date reads = moment_stays v s n date reads
last_stays (stop.Closed why.Cut) v s n date reads = moment_stays v s n date reads
last_stays (stop.Closed why.Unread) v s n date reads = moment_stays v s n date reads
last_stays stop.ClientFault v s n date reads = moment_stays v s n date reads
last_stays stop.Truncated v s n date reads = moment_stays v s n date reads
last_stays (stop.Stray ticket returned_at) v s n date reads = moment_stays v s n date reads
last_stays stop.NoMemory v s n date (inl reads) = same_stays s n reads.0
last_stays stop.NoMemory v s n date (inr reads) = moment_stays v s n date reads

-- ---- a turn once its moment was read

reads_last : (stop' : SessionStop) (v : Visit) (s n : ClientStanding) (date : Option HttpDate) → ReadsMoment v s n date → ReadsLast stop' v s n date
reads_last (stop.Closed why.ByClient) v s n date reads = inr reads
reads_last (stop.Closed why.Idle) v s n date reads = inr reads
reads_last (stop.Closed why.Last) v s n date reads = reads
reads_last (stop.Closed (why.Own code)) v s n date reads = reads
reads_last (stop.Closed (why.Refused refusal)) v s n date reads = reads
reads_last (stop.Closed why.Cut) v s n date reads = reads
reads_last (stop.Closed why.Unread) v s n date reads = reads
reads_last stop.ClientFault v s n date reads = reads
reads_last stop.Truncated v s n date reads = reads
reads_last (stop.Stray ticket returned_at) v s n date reads = reads
reads_last stop.NoMemory v s n date reads = inr reads

reads_turn : (turn' : SessionTurn) (v : Visit) (s n : ClientStanding) (date : Option HttpDate) → ReadsMoment v s n date → ReadsInTurn turn' v s n date
reads_turn turn.Next v s n date reads = reads
reads_turn (turn.EndsAfter stop') v s n date reads = reads_last stop' v s n date reads
reads_turn (turn.EndsAt stop') v s n date reads = reads_last stop' v s n date reads

-- the clock stood at the head as it stood before it
pub next_since : (s read : ClientStanding) (head : Head) (dated : Bool) (date : Option HttpDate) (clock : Option (List ℕ)) → ReadsHead s read head
    → IsNextDate dated read.desk.clock clock date → IsNextDate dated s.desk.clock clock date
next_since s read head dated date clock reads next =
    subst (λ (k : Option (List ℕ)). IsNextDate dated k clock date) (ap (λ (x : ClientStanding). x.desk.clock) reads.on.alone) next

pub turned_now : (v : Visit) (number : ℕ) (s n : ClientStanding) (clock : Option (List ℕ)) (date : Option HttpDate) (puts : List Served → Type 0) (turn' : SessionTurn)
    → IsNextDate v.dated s.desk.clock clock date → TurnsSession (visit_at v date) number (clocked s clock) n puts turn' → TurnsNow v number s n puts turn'
turned_now v number s n clock date puts turn' next turned =
    (date, clocked s clock, reads_turn turn' v s (clocked s clock) date (clock_read v s clock date next), turned)

-- nothing was answered, and no moment read
pub turned_unread : (v : Visit) (number : ℕ) (s n : ClientStanding) (puts : List Served → Type 0) → TurnsSession (visit_at v None) number s n puts (turn.EndsAt (stop.Closed why.ByClient))
    → TurnsNow v number s n puts (turn.EndsAt (stop.Closed why.ByClient))
turned_unread v number s n puts turned = (None, s, inl (refl, refl), turned)
