-- A log that is written row by row: its format, its address, its sink, what broke it, and the lines that rows add.
use Rattle.std.specs.Prelude.{ℕ, ◌≡◌, ◌⊎◌, ◌≤◌, List, [], ◌++◌, Option, Some, None, IsSome}
use Rattle.jk_io.specs.Told.{appended, Rose}
use Rattle.jk_io.specs.declared.failures.IoError.{IoError}
use Rattle.jk_io.specs.declared.failures.IoError.TheVariants as io
use Rattle.jk_io.specs.declared.traits.streams.Meanings.{Ghosts}
use Rattle.jk_io.specs.declared.traits.surroundings.Peer.{Peer}
use Rattle.lb_model.specs.declared.served.Served.{Served}
use Rattle.request_log.specs.declared.format.Part.{Part}
use Rattle.request_log.specs.Lines.{IsLogOf}

-- the format, the address of the clients, what the lines go to, and why no more are written
pub record LogState (G : Type 0) : Type 0 where
  pub format : List Part
  pub addr : List ℕ
  pub sink : G
  pub broken : Option IoError

-- The log of the rows was written, whole where nothing broke, and else a front of it.
pub record AddsLog {G X : Type 0} (told : Ghosts G X) (s : LogState G) (rows : List Served) (t : LogState G) : Type 0 where
  pub text : List ℕ
  pub front : List ℕ
  pub rest : List ℕ
  pub is_log : IsLogOf s.format s.addr rows text
  pub parts : text ≡ front ++ rest
  pub put : told.sent t.sink ≡ appended (told.sent s.sink) front
  pub whole : t.broken ≡ None → rest ≡ []

-- Rows were put. What is broken stays so, gains nothing more and has no more faults; it broke by a fault only where the sink's
-- faults rose, and where it didn't they stand.
pub record GainsRows {G X : Type 0} (told : Ghosts G X) (s : LogState G) (rows : List Served) (t : LogState G) : Type 0 where
  pub same_format : t.format ≡ s.format
  pub same_addr : t.addr ≡ s.addr
  pub adds : s.broken ≡ None → AddsLog told s rows t
  pub over : IsSome s.broken → (t.broken ≡ s.broken) × (told.sent t.sink ≡ told.sent s.sink) × (told.faults t.sink ≡ told.faults s.sink)
  pub no_fewer : told.faults s.sink ≤ told.faults t.sink
  pub failed : s.broken ≡ None → t.broken ≡ Some io.Failed → Rose (told.faults s.sink) (told.faults t.sink)
  pub calm : s.broken ≡ None → (t.broken ≡ Some io.Failed → ⊥) → told.faults t.sink ≡ told.faults s.sink

-- what broke it first; else want of memory
abbrev pub broken_now : Option IoError → Option IoError
broken_now None = Some io.NoMemory
broken_now (Some error) = Some error

-- It was told of a client, whose address the next lines have; or there was no memory for that, and it is broken.
abbrev pub Greets : {G : Type 0} → LogState G → Peer → LogState G → Type 0
Greets s peer t = (t ≡ record s { addr = peer.addr }) ⊎ (t ≡ record s { broken = broken_now s.broken })
