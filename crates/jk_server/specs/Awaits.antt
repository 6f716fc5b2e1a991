-- What a worker's client is told that is waited for.
use Rattle.std.specs.Prelude.{◌≡◌, ◌⊎◌, ℕ, List}
use Rattle.jk_io.specs.declared.traits.streams.Awaited.{Awaited}
use Rattle.jk_io.specs.declared.traits.streams.Meanings.{Ghosts}
use Rattle.client_session.specs.Awaits.{AwaitsRequests}
use Rattle.client_session.specs.Requests.{Visit}
use Rattle.client_session.specs.Standings.{ClientStanding}
use Rattle.client_session.specs.declared.ending.SessionEnd.{SessionEnd}
use Rattle.client_session.specs.declared.ending.SessionStop.TheVariants as stop

-- Before each request of its session the client was told that it is waited for; or memory was wanted before the first, and the
-- client is as it came.
pub record AwaitsClient {C X : Type 0} (told : Ghosts C X) (heard : C → Awaited → C → Type 0) (v : Visit) (at_first at_last : List ℕ → ClientStanding)
    (came left : C) (end : SessionEnd) : Type 0 where
  pub requests : ((end.stop ≡ stop.NoMemory) × (left ≡ came)) ⊎ AwaitsRequests told heard v at_first at_last end

-- The tellings of a client's link, and what it was told to await.
pub record LinkTells (C X : Type 0) : Type 1 where
  pub stream : Ghosts C X
  pub heard : C → Awaited → C → Type 0

-- by its type: `link_tells C.Meanings C.heard`
abbrev pub link_tells : {C X : Type 0} → Ghosts C X → (C → Awaited → C → Type 0) → LinkTells C X
link_tells stream heard = record { stream = stream; heard = heard }

-- where nothing is told of what it was told to await
abbrev pub unheard : {C X : Type 0} → Ghosts C X → LinkTells C X
unheard stream = link_tells stream (λ _ _ _. Unit {0})
