-- The log of a gear while its worker puts rows into it; a gear may have none.
use Rattle.std.specs.Prelude.{ℕ, ◌≡◌, List, [], Option, Some, None}
use Rattle.jk_io.specs.declared.failures.IoError.{IoError}
use Rattle.jk_io.specs.declared.traits.streams.Meanings.{Ghosts}
use Rattle.jk_io.specs.declared.traits.surroundings.Peer.{Peer}
use Rattle.lb_model.specs.declared.served.Served.{Served}
use Rattle.request_log.specs.LogStates.{GainsRows, Greets, LogState}
use Rattle.request_log.specs.declared.format.Part.{Part as FormatPart}

-- a log of this format, of which no line was written yet, where there is something to write to
abbrev pub new_log : {O : Type 0} → List FormatPart → Option O → Option (LogState O)
new_log format None = None
new_log format (Some sink) = Some (record { format = format; addr = []; sink = sink; broken = None })

-- what its lines are written to
abbrev pub sink_of : {O : Type 0} → Option (LogState O) → Option O
sink_of None = None
sink_of (Some s) = Some s.sink

-- These rows were put, in order; where there is no log they are dropped.
abbrev pub LogGains : {O X : Type 0} → Ghosts O X → Option (LogState O) → List Served → Option (LogState O) → Type 0
LogGains told None rows None = Unit {0}
LogGains told None rows (Some t) = ⊥
LogGains told (Some s) rows None = ⊥
LogGains told (Some s) rows (Some t) = GainsRows told s rows t

-- It was told of a client.
abbrev pub GreetsIf : {O : Type 0} → Option (LogState O) → Peer → Option (LogState O) → Type 0
GreetsIf None peer None = Unit {0}
GreetsIf None peer (Some t) = ⊥
GreetsIf (Some s) peer None = ⊥
GreetsIf (Some s) peer (Some t) = Greets s peer t

-- why no more lines are written
abbrev pub broken_by : {O : Type 0} → Option (LogState O) → Option IoError
broken_by None = None
broken_by (Some s) = s.broken

-- how often what the lines are written to failed
abbrev pub log_faults : {O : Type 0} → (O → ℕ) → Option (LogState O) → ℕ
log_faults faults None = 0
log_faults faults (Some s) = faults s.sink
