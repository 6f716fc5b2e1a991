-- What a session's client and its reach are told that is waited for: each request of the client, each dial for a talk.
use Rattle.std.specs.Prelude.{ℕ, zero, suc, ◌≡◌, ◌⊎◌, List, []}
use Rattle.jk_io.specs.Moments.{Moment}
use Rattle.jk_io.specs.declared.reaching.Beside.{Beside}
use Rattle.jk_io.specs.declared.traits.streams.Awaited.{Awaited}
use Rattle.jk_io.specs.declared.traits.streams.Awaited.TheVariants as awaited
use Rattle.jk_io.specs.declared.traits.streams.Meanings.{Ghosts}
use Rattle.lb_model.specs.declared.served.Served.{Served}
use Rattle.exchange.specs.Awaits.{AwaitsDials, HearsNext}
use Rattle.client_session.specs.Requests.{Visit}
use Rattle.client_session.specs.Sessions.{HaveServed, IsSession}
use Rattle.client_session.specs.Standings.{ClientStanding, client_at}
use Rattle.client_session.specs.declared.ending.SessionEnd.{SessionEnd}
use Rattle.client_session.specs.declared.ending.SessionStop.TheVariants as stop
use Rattle.client_session.specs.declared.ending.Why.TheVariants as why
use Rattle.client_session.specs.declared.session_site.SessionSite.{SessionSite}
use Rattle.client_session.specs.declared.surroundings.Surroundings.{Surroundings}

-- Before each talk that the reach noted, it was told how long a dial of that member of the site may take.
abbrev pub DialsInTime : {B K R C : Type 0} → Ghosts R Beside → (heard : R → Awaited → R → Type 0) → SessionSite → Surroundings B K R C → Surroundings B K R C → Type 0
DialsInTime told heard site s n = AwaitsDials told heard site.cfg.now.lbs s.reach.now n.reach.now

-- a client at this moment was told next that a request is waited for
abbrev pub IsAwaitedAt : {C X : Type 0} → Ghosts C X → (heard : C → Awaited → C → Type 0) → Moment → Type 0
IsAwaitedAt {C} told heard at = (client : C) × (client_at told client ≡ at) × HearsNext heard client awaited.Client

-- each of these requests began so
abbrev pub WereAwaited : {C X : Type 0} → Ghosts C X → (heard : C → Awaited → C → Type 0) → (v : Visit) (number : ℕ) (s n : ClientStanding) (rows : List Served)
    → HaveServed v number s n rows → Type 0
WereAwaited told heard v zero s n rows served = Unit {0}
WereAwaited told heard v (suc number) s n rows served =
    WereAwaited told heard v number s served.0 served.1 served.5 × IsAwaitedAt told heard served.0.client

-- A session from a client of which nothing was read. Before a byte of each of its requests was read, one after the other, the
-- client was told that its next request is waited for; so too before the end, unless it was left while it waited.
pub record AwaitsRequests {C X : Type 0} (told : Ghosts C X) (heard : C → Awaited → C → Type 0) (v : Visit) (at_first at_last : List ℕ → ClientStanding)
    (end : SessionEnd) : Type 0 where
  pub inbox : List ℕ
  pub gained : List Served
  pub session : IsSession v (at_first []) (at_last inbox) gained end
  pub each : WereAwaited told heard v session.number (at_first []) session.mid session.before session.served
  pub last : (end.stop ≡ stop.Closed why.Idle) ⊎ IsAwaitedAt told heard session.mid.client
