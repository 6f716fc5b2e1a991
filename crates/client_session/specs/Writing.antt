-- Writing to the client: whole, or broken off.
use Rattle.std.specs.Prelude.{ℕ, ◌≡◌, ◌⊎◌, List, Result, Ok, Err}
use Rattle.jk_io.specs.Moments.{Moment}
use Rattle.jk_io.specs.Told.{Rose}
use Rattle.jk_io.specs.declared.failures.IoError.{IoError}
use Rattle.jk_io.specs.declared.failures.IoError.TheVariants as io
use Rattle.http_out.specs.declared.own_answers.OwnKind.{OwnKind}
use Rattle.status_worker.specs.Refusals.{refusal_bytes}
use Rattle.status_worker.specs.declared.refusal.PageRefusal.{PageRefusal}
use Rattle.client_session.specs.Answers.{own_for}
use Rattle.client_session.specs.Standings.{Puts, PutsLess, PutsPart}
use Rattle.client_session.specs.declared.ending.SessionStop.{SessionStop}
use Rattle.client_session.specs.declared.ending.SessionStop.TheVariants as stop
use Rattle.client_session.specs.declared.ending.Why.TheVariants as why

-- what a write that failed makes of the session
abbrev pub stop_by : IoError → SessionStop
stop_by io.Failed = stop.ClientFault
stop_by io.NoMemory = stop.NoMemory

-- the own answer was written whole and went out; or a front of it, where the client failed; or not all of it
abbrev pub WritesOwn : (status : ℕ) → OwnKind → Moment → Moment → SessionStop → Type 0
WritesOwn status kind s n (stop.Closed why.ByClient) = ⊥
WritesOwn status kind s n (stop.Closed why.Idle) = ⊥
WritesOwn status kind s n (stop.Closed why.Last) = ⊥
WritesOwn status kind s n (stop.Closed (why.Own code)) = (code ≡ status) × Puts s n (own_for status kind)
WritesOwn status kind s n (stop.Closed (why.Refused refusal)) = ⊥
WritesOwn status kind s n (stop.Closed why.Cut) = ⊥
WritesOwn status kind s n (stop.Closed why.Unread) = ⊥
WritesOwn status kind s n stop.ClientFault = Rose s.faults n.faults × PutsPart s n (own_for status kind)
WritesOwn status kind s n stop.Truncated = ⊥
WritesOwn status kind s n (stop.Stray ticket returned_at) = ⊥
WritesOwn status kind s n stop.NoMemory = PutsLess s n (own_for status kind)

-- the same of the answer to a refused request of a status worker
abbrev pub WritesRefusal : PageRefusal → OwnKind → Moment → Moment → SessionStop → Type 0
WritesRefusal refusal kind s n (stop.Closed w) = (w ≡ why.Refused refusal) × Puts s n (refusal_bytes refusal kind)
WritesRefusal refusal kind s n stop.ClientFault = Rose s.faults n.faults × PutsPart s n (refusal_bytes refusal kind)
WritesRefusal refusal kind s n stop.Truncated = ⊥
WritesRefusal refusal kind s n (stop.Stray ticket returned_at) = ⊥
WritesRefusal refusal kind s n stop.NoMemory = PutsLess s n (refusal_bytes refusal kind)

-- bytes were written whole and went out; or a front of them, or not all, and the session is to end
abbrev pub WritesPart : {T : Type 0} → List ℕ → Moment → Moment → Result T SessionStop → Type 0
WritesPart bytes s n (Ok value) = Puts s n bytes
WritesPart bytes s n (Err (stop.Closed w)) = ⊥
WritesPart bytes s n (Err stop.ClientFault) = Rose s.faults n.faults × PutsPart s n bytes
WritesPart bytes s n (Err stop.Truncated) = ⊥
WritesPart bytes s n (Err (stop.Stray ticket returned_at)) = ⊥
WritesPart bytes s n (Err stop.NoMemory) = PutsLess s n bytes

-- memory was wanted before, or a front of the bytes was written, and the session is to end
abbrev pub BreaksOff : List ℕ → Moment → Moment → SessionStop → Type 0
BreaksOff bytes s n stop' = ((stop' ≡ stop.NoMemory) × (n ≡ s)) ⊎ WritesPart {T = Unit {0}} bytes s n (Err stop')
