-- One chunk more of an input: its source and the text so far, afterwards.
use Rattle.std.specs.Prelude.{◌≡◌, ℕ, ◌<◌, ◌≤◌, List, Result, Ok, IsOk, OnOk, IsErrOf, Bool, true, false}
use Rattle.jk_io.specs.Told.{IsEmpty, Rose}
use Rattle.jk_io.specs.Moments.{Moment}
use Rattle.jk_io.specs.Inputs.{HasRead, AddsChunk}
use Rattle.jk_io.specs.declared.failures.FileError.{FileError}
use Rattle.jk_io.specs.declared.failures.FileError.TheVariants as file
use Rattle.jk_io.specs.declared.reading.Stop.{Stop}
use Rattle.jk_io.specs.declared.reading.Stop.TheVariants as stop

-- what a chunk's stop is answered, where the text has this many bytes then; true says that there may be more
pub record IsChunkEnd (most : ℕ) (why : Stop) (bytes : ℕ) (result : Result Bool FileError) : Type 0 where
  pub short : OnOk result (bytes ≤ most)
  pub too_long : IsErrOf result file.TooLong → most < bytes
  pub goes_on : result ≡ Ok true → why ≡ stop.Full
  pub ended : result ≡ Ok false → why ≡ stop.End
  pub failed : IsErrOf result file.Failed → why ≡ stop.Fault
  pub within : IsErrOf result file.Failed → bytes ≤ most
  pub wanted : IsErrOf result file.NoMemory → why ≡ stop.NoMemory

-- a chunk was read on, and added to the text
pub record ReadsChunk (most : ℕ) (before after : Moment) (text now : List ℕ) (result : Result Bool FileError) : Type 0 where
  pub more : List ℕ
  pub read : HasRead before.incoming before.received more after.incoming after.received
  pub adds : AddsChunk most text more now result
  pub ended : result ≡ Ok false → IsEmpty after.incoming
  pub sent : after.sent ≡ before.sent
  pub failed : IsErrOf result file.Failed → Rose before.faults after.faults
  pub no_fewer : before.faults ≤ after.faults
  pub steady : IsOk result → after.faults ≡ before.faults
  pub wanted : IsErrOf result file.NoMemory → after.faults ≡ before.faults
  pub long : IsErrOf result file.TooLong → after.faults ≡ before.faults
