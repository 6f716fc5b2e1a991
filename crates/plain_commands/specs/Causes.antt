-- The cause of a command's failure: a count of faults that rose in what it reads.
use Rattle.std.specs.Prelude.{◌≡◌, ℕ, ◌≤◌, Result, IsOk, IsErrOf}
use Rattle.jk_io.specs.Told.{Rose}
use Rattle.jk_io.specs.declared.failures.IoError.{IoError}
use Rattle.jk_io.specs.declared.failures.IoError.TheVariants as io

-- the count never falls; the command failed only where it rose, and where it didn't fail the count stands
pub record IsJustCaused {T : Type 0} (before now : ℕ) (result : Result T IoError) : Type 0 where
  pub no_fewer : before ≤ now
  pub failed : IsErrOf result io.Failed → Rose before now
  pub wanted : IsErrOf result io.NoMemory → now ≡ before
  pub steady : IsOk result → now ≡ before
