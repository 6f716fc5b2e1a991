-- A log of a worker, by what is told of it: rows put, clients met, the error that broke it, and its faults.
use Rattle.std.specs.Prelude.{◌≡◌, ◌⊎◌, ℕ, List, Option, Some}
use Rattle.jk_io.specs.Told.{Rose}
use Rattle.jk_io.specs.declared.failures.IoError.{IoError}
use Rattle.jk_io.specs.declared.failures.IoError.TheVariants as io
use Rattle.jk_io.specs.declared.traits.surroundings.Peer.{Peer}
use Rattle.lb_model.specs.declared.served.Served.{Served}

-- Which rows were put between two moments, whether it was told of a client, why no row is put any more, and how often what
-- it writes to failed.
pub record LogTells (Y : Type 0) : Type 1 where
  pub gained : Y → List Served → Y → Type 0
  pub greets : Y → Peer → Y → Type 0
  pub broken_by : Y → Option IoError
  pub faults : Y → ℕ

-- by its traits: `log_tells Y.gained Y.greets Y.broken_by Y.log_faults`
abbrev pub log_tells : {Y : Type 0} → (Y → List Served → Y → Type 0) → (Y → Peer → Y → Type 0) → (Y → Option IoError) → (Y → ℕ) → LogTells Y
log_tells gained greets broken_by faults = record { gained = gained; greets = greets; broken_by = broken_by; faults = faults }

-- A log that is broken by a fault now was so before, or the faults rose.
abbrev pub BreaksLoudly : (before after : Option IoError) → (faults faults' : ℕ) → Type 0
BreaksLoudly before after faults faults' = after ≡ Some io.Failed → (before ≡ Some io.Failed) ⊎ Rose faults faults'

-- Where a log isn't broken by a fault now, its faults stand.
abbrev pub BreaksCalmly : (after : Option IoError) → (faults faults' : ℕ) → Type 0
BreaksCalmly after faults faults' = (after ≡ Some io.Failed → ⊥) → faults' ≡ faults
