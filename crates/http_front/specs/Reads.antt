-- A client after reads of it: nothing is written, and each read that fails is counted.
use Rattle.std.specs.Prelude.{◌≡◌, ◌≢◌, ℕ, ◌<◌, ◌≤◌, List, length, Result, Err, IsOk, IsErrOf}
use Rattle.jk_io.specs.Told.{HasCause, IsEmpty, Rose}
use Rattle.jk_io.specs.declared.failures.IoError.{IoError}
use Rattle.jk_io.specs.declared.traits.streams.Meanings.{Ghosts}
use Rattle.http_front.specs.Faults.{IsCalmBody}
use Rattle.http_front.specs.Unread.{unread}
use Rattle.http_front.specs.declared.fault.BodyFault.{BodyFault}
use Rattle.http_front.specs.declared.fault.BodyFault.TheVariants as fault

-- one read
pub record ReadsOnce {C B T : Type 0} (told : Ghosts C B) (before now : C) (result : Result T IoError) : Type 0 where
  pub same : (told.sent now ≡ told.sent before) × (told.beside now ≡ told.beside before)
  pub cause : HasCause (told.faults before) (told.faults now) result
  pub steady : IsOk result → told.faults now ≡ told.faults before

-- any number of reads: the answer `failed` only where the count of faults rose, and a calm answer only where it stayed
pub record ReadsClient {C B E T : Type 0} (told : Ghosts C B) (failed : E) (is_calm : Type 0) (before now : C) (result : Result T E) : Type 0 where
  pub same : (told.sent now ≡ told.sent before) × (told.beside now ≡ told.beside before)
  pub fault : IsErrOf result failed → Rose (told.faults before) (told.faults now)
  pub steady : is_calm → told.faults now ≡ told.faults before
  pub no_fewer : told.faults before ≤ told.faults now

-- a step of a walk over a body: it reads only where no byte is in the inbox, and fails only by that read
pub record StepsOn {C B T : Type 0} (told : Ghosts C B) (inbox inbox_now : List ℕ) (before now : C) (result : Result T BodyFault) : Type 0 where
  pub reads : ReadsClient told fault.Fault (IsCalmBody result) before now result
  pub unasked : 0 < length inbox → now ≡ before
  pub end : IsErrOf result fault.Truncated → IsEmpty (unread inbox_now (told.incoming now))
  pub kind : (result ≢ Err fault.BadChunk) × (result ≢ Err fault.TooLong)
