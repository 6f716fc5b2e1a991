-- A piece written to a client: all of it, which then went out, or a front of it.
use Rattle.std.specs.Prelude.{◌≡◌, ◌≢◌, ℕ, List, [], Option, Result, Ok, Err}
use Rattle.jk_io.specs.Moments.{Moment}
use Rattle.jk_io.specs.Told.{appended, PutsFront, Rose}
use Rattle.jk_io.specs.declared.failures.IoError.{IoError}
use Rattle.jk_io.specs.declared.failures.IoError.TheVariants as io

-- a front of the piece was written, and some of it is still to be
pub record PutsShort (before now : Option (List ℕ)) (piece : List ℕ) : Type 0 where
  pub front : PutsFront before now piece
  pub some : front.rest ≢ []

-- The piece was written whole by calls of which none failed; or a call failed; or memory was wanted before its end.
abbrev pub IsDelivered : {T : Type 0} → List ℕ → Moment → Moment → Result T IoError → Type 0
IsDelivered piece s n (Ok done) = (n.sent ≡ appended s.sent piece) × (n.faults ≡ s.faults)
IsDelivered piece s n (Err io.Failed) = PutsFront s.sent n.sent piece × Rose s.faults n.faults
IsDelivered piece s n (Err io.NoMemory) = PutsShort s.sent n.sent piece × (n.faults ≡ s.faults)

-- The same, and nothing was read.
pub record Delivers {T : Type 0} (piece : List ℕ) (s n : Moment) (result : Result T IoError) : Type 0 where
  pub written : IsDelivered piece s n result
  pub incoming : n.incoming ≡ s.incoming
  pub received : n.received ≡ s.received
