-- Each request is waited for, from the first to the last of a session.
use Rattle.std.proofs.Common.{◌≡◌, ◌<◌, ℕ, suc, ◌+◌, List, [], ◌++◌, Option, None, refl, sym, subst, inl, inr, arith}
use Rattle.std.proofs.lemmas.List.{append-nil}
use Rattle.httpdate.specs.declared.date.HttpDate.{HttpDate}
use Rattle.jk_io.specs.Moments.{Moment}
use Rattle.jk_io.specs.declared.traits.streams.Awaited.{Awaited}
use Rattle.jk_io.specs.declared.traits.streams.Meanings.{Ghosts}
use Rattle.lb_model.specs.declared.served.Served.{Served}
use Rattle.client_session.specs.Awaits.{AwaitsRequests, IsAwaitedAt, WereAwaited}
use Rattle.client_session.specs.Ends.{end_of}
use Rattle.client_session.specs.Moments.{ReadsLast}
use Rattle.client_session.specs.Requests.{Visit, visit_at}
use Rattle.client_session.specs.Sessions.{EndsIn, HaveServed}
use Rattle.client_session.specs.Standings.{ClientStanding}
use Rattle.client_session.specs.Surroundings.{TurnsNow}
use Rattle.client_session.specs.declared.ending.SessionEnd.{SessionEnd}
use Rattle.client_session.specs.declared.ending.SessionStop.{SessionStop}
use Rattle.client_session.specs.declared.ending.SessionStop.TheVariants as stop
use Rattle.client_session.specs.declared.ending.Why.TheVariants as why
use Rattle.client_session.specs.declared.turn.SessionTurn.TheVariants as turn
use Rattle.client_session.proofs.SessionLaws.{same_client}

-- That number of requests was served since the beginning, and each was waited for.
pub record HaveBeenAwaited {C X : Type 0} (told : Ghosts C X) (heard : C → Awaited → C → Type 0) (v : Visit) (number : ℕ) (s now : ClientStanding) : Type 0 where
  pub rows : List Served
  pub served : HaveServed v number s now rows
  pub each : WereAwaited told heard v number s now rows served

pub none_awaited : {C X : Type 0} (told : Ghosts C X) (heard : C → Awaited → C → Type 0) (v : Visit) (s : ClientStanding) → HaveBeenAwaited told heard v 0 s s
none_awaited told heard v s = record { rows = []; served = (refl, refl); each = tt }

pub next_awaited : {C X : Type 0} (told : Ghosts C X) (heard : C → Awaited → C → Type 0) (v : Visit) (number : ℕ) (s mid n : ClientStanding) (more : List Served → Type 0)
    → HaveBeenAwaited told heard v number s mid → IsAwaitedAt told heard mid.client → TurnsNow v number mid n more turn.Next
    → HaveBeenAwaited told heard v (number + 1) s n
next_awaited told heard v number s mid n more way here (date, timed, reads, (added, put, whole)) =
    let next : suc number ≡ number + 1 = omega arith in
    subst (λ (k : ℕ). HaveBeenAwaited told heard v k s n) next
    (record { rows = way.rows ++ added; served = (mid, way.rows, added, date, timed, way.served, reads, whole, refl); each = (way.each, here) })

pub still_awaited : {C X : Type 0} (told : Ghosts C X) (heard : C → Awaited → C → Type 0) (v : Visit) (number : ℕ) (s mid : ClientStanding) (client : Moment)
    → client ≡ mid.client → HaveBeenAwaited told heard v number s mid → HaveBeenAwaited told heard v number s (record mid { client = client })
still_awaited told heard v number s mid client same way =
    subst (λ (x : ClientStanding). HaveBeenAwaited told heard v number s x) (sym (same_client mid client same)) way

-- the last request, or the end before one
pub all_awaited : {C X : Type 0} (told : Ghosts C X) (heard : C → Awaited → C → Type 0) (v : Visit) (number : ℕ) (at_first at_last : List ℕ → ClientStanding)
    (inbox : List ℕ) (mid : ClientStanding) (more : List Served → Type 0) (stop' : SessionStop) (count : ℕ) (end : SessionEnd)
    → HaveBeenAwaited told heard v number (at_first []) mid → IsAwaitedAt told heard mid.client → end ≡ end_of stop' count
    → (date : Option HttpDate) × (timed : ClientStanding) × ReadsLast stop' v mid timed date
    × ((added : List Served) × more added × EndsIn (visit_at v date) number timed (at_last inbox) added count stop')
    → AwaitsRequests told heard v at_first at_last end
all_awaited told heard v number at_first at_last inbox mid more stop' count end way here is (date, timed, reads, (added, put, ending)) =
    subst (λ (x : SessionEnd). AwaitsRequests told heard v at_first at_last x) (sym is)
    (record {
      inbox = inbox;
      gained = way.rows ++ added;
      session = record {
        number = number;
        mid = mid;
        date = date;
        timed = timed;
        before = way.rows;
        last = added;
        served = way.served;
        reads = reads;
        ends = ending;
        joined = refl;
      };
      each = way.each;
      last = inr here;
    })

-- a client that was left while it waited
pub idle_awaited : {C X : Type 0} (told : Ghosts C X) (heard : C → Awaited → C → Type 0) (v : Visit) (number : ℕ) (at_first at_last : List ℕ → ClientStanding)
    (inbox : List ℕ) (mid : ClientStanding) (end : SessionEnd) → HaveBeenAwaited told heard v number (at_first []) mid → 0 < number
    → mid.inbox ≡ [] → at_last inbox ≡ mid → end ≡ end_of (stop.Closed why.Idle) number → AwaitsRequests told heard v at_first at_last end
idle_awaited told heard v number at_first at_last inbox mid end way some none same is =
    subst (λ (x : SessionEnd). AwaitsRequests told heard v at_first at_last x) (sym is)
    (record {
      inbox = inbox;
      gained = way.rows;
      session = record {
        number = number;
        mid = mid;
        date = None;
        timed = mid;
        before = way.rows;
        last = [];
        served = way.served;
        reads = inl (refl, refl);
        ends = (refl, some, none, same, refl);
        joined = sym (append-nil way.rows);
      };
      each = way.each;
      last = inl refl;
    })
