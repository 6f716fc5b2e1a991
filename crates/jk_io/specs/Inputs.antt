-- The bytes that were read of an input, whole or in part.
use Rattle.std.specs.Prelude.{◌≡◌, ℕ, ◌<◌, ◌≤◌, List, ◌++◌, length, Option, Result, Ok, OnOk, IsErrOf, Bool, true}
use Rattle.jk_io.specs.Told.{appended, prepended}
use Rattle.jk_io.specs.declared.failures.FileError.{FileError}
use Rattle.jk_io.specs.declared.failures.FileError.TheVariants.{Failed, TooLong}

-- these bytes, no more and no fewer, were read
pub record HasRead (incoming received : Option (List ℕ)) (bytes : List ℕ) (incoming_now received_now : Option (List ℕ)) : Type 0 where
  pub gave : incoming ≡ prepended bytes incoming_now
  pub got : received_now ≡ appended received bytes

-- these bytes, no more and no fewer, were read of a source, by what its type tells: `Gave S.incoming S.received before bytes after`
abbrev pub Gave : {S : Type 0} → (S → Option (List ℕ)) → (S → Option (List ℕ)) → S → List ℕ → S → Type 0
Gave incoming received before bytes after = HasRead (incoming before) (received before) bytes (incoming after) (received after)

-- a chunk was added to the text; true says that there may be more
pub record AddsChunk (most : ℕ) (text more now : List ℕ) (result : Result Bool FileError) : Type 0 where
  pub added : OnOk result (now ≡ text ++ more)
  pub short : OnOk result (length now ≤ most)
  pub goes_on : result ≡ Ok true → 0 < length more
  pub too_long : IsErrOf result TooLong → most < length (text ++ more)
  pub within : IsErrOf result Failed → length (text ++ more) ≤ most
