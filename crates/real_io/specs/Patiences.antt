-- How long a link's reads wait, once it was told what is awaited.
use Rattle.std.specs.Prelude.{◌≡◌, ℕ, ◌+◌, ◌*◌, ◌<◌, ◌≤◌, ◌==◌, if◌then◌else◌, min, ⊤, Option, Some, None}
use Rattle.jk_io.specs.declared.client_limits.ClientLimits.{ClientLimits}
use Rattle.jk_io.specs.declared.traits.streams.Awaited.{Awaited}
use Rattle.jk_io.specs.declared.traits.streams.Awaited.TheVariants as awaited
use Rattle.real_io.specs.Pace.{least_of}
use Rattle.real_io.specs.declared.stream_end.StreamEnd.{StreamEnd}
use Rattle.real_io.specs.declared.tcp_link.Wire.{Wire}
use Rattle.real_io.specs.declared.tcp_link.Wire.TheVariants as wires
use Rattle.real_io.specs.declared.waited_stream.Patience.{Patience}
use Rattle.real_io.specs.declared.waited_stream.Patience.TheVariants.{Each, Paced, Until}
use Rattle.real_io.specs.declared.waited_stream.Waits.{Waits}

-- a client's body is to come at the rate that its front asks for, from this moment on
abbrev pub body_patience : Option ClientLimits → (now : ℕ) → Patience → Patience
body_patience (Some limits) now patience = Paced (record { least = least_of limits.rate; since = now; went = 0 })
body_patience None now patience = patience

-- a client's head is to be whole so many seconds from this moment on; 0 is without limit
abbrev pub head_patience : Option ClientLimits → (now : ℕ) → Patience → Patience
head_patience (Some limits) now patience =
    if limits.head == 0 then Each 0 else Until (min (now + min (limits.head * 1000) 18446744073709551615) 18446744073709551615)
head_patience None now patience = patience

-- a member's answer is waited for so many milliseconds at each read; 0 is without limit
abbrev pub patience_at : Awaited → Option ClientLimits → (now : ℕ) → Patience → Patience
patience_at (awaited.Pong millis) limits now patience = Each millis
patience_at (awaited.Reply millis) limits now patience = Each millis
patience_at awaited.Body limits now patience = body_patience limits now patience
patience_at awaited.Client limits now patience = head_patience limits now patience
patience_at (awaited.Link millis keepalive) limits now patience = patience

-- the limit of a member's answer, in milliseconds; 0 is none
abbrev pub limit_of : Awaited → ℕ
limit_of (awaited.Pong millis) = millis
limit_of (awaited.Reply millis) = millis
limit_of awaited.Body = 0
limit_of awaited.Client = 0
limit_of (awaited.Link millis keepalive) = 0

-- The end of a stream was told what is awaited. Its reads wait so, from a moment within that call on; and where there is a limit, each
-- call of the system comes back, so that it is seen.
pub record HearsOf (before : Waits) (what : Awaited) (after : Waits) : Type 0 where
  pub now : ℕ
  pub patience : after.patience ≡ patience_at what before.limits now before.patience
  pub comes_back : 0 < limit_of what → 0 < after.slice
  pub limits : after.limits ≡ before.limits

abbrev pub EndHears : StreamEnd → Awaited → StreamEnd → Type 0
EndHears before what after = HearsOf before.stream.waits.value what after.stream.waits.value

-- the same, where there is an end
abbrev pub EndHearsIf : Option StreamEnd → Awaited → Option StreamEnd → Type 0
EndHearsIf (Some before) what (Some after) = EndHears before what after
EndHearsIf None what None = ⊤
EndHearsIf (Some before) what None = ⊥
EndHearsIf None what (Some after) = ⊥

-- a link to a member hears it; a client's end is behind the lock of its worker's outbox, and tells nothing
abbrev pub WireHears : Wire → Awaited → Wire → Type 0
WireHears (wires.End before) what (wires.End after) = EndHears before what after
WireHears (wires.Outbox before) what (wires.Outbox after) = ⊤
WireHears (wires.End before) what (wires.Outbox after) = ⊥
WireHears (wires.Outbox before) what (wires.End after) = ⊥

-- a read that waited so many milliseconds waited as long as each may
abbrev pub IsSpent : Patience → (waited : ℕ) → Type 0
IsSpent (Each most) waited = (0 < most) × (most ≤ waited)
IsSpent (Paced pace) waited = ⊥
IsSpent (Until last) waited = ⊥
