-- The faults of a body, each with its cause: a read that failed, the client's bytes, or want of memory.
use Rattle.std.specs.Prelude.{Result, Ok, Err, ⊤}
use Rattle.http_front.specs.declared.fault.BodyFault.{BodyFault}
use Rattle.http_front.specs.declared.fault.BodyFault.TheVariants as fault
use Rattle.jk_io.specs.declared.failures.IoError.{IoError}
use Rattle.jk_io.specs.declared.failures.IoError.TheVariants as io

-- the fault of a refused read
abbrev pub fault_of : IoError → BodyFault
fault_of io.Failed = fault.Fault
fault_of io.NoMemory = fault.NoMemory

-- no read failed: the client's bytes alone are the cause, or memory was wanted
abbrev pub IsNoFailure : BodyFault → Type 0
IsNoFailure fault.Truncated = ⊤
IsNoFailure fault.BadChunk = ⊤
IsNoFailure fault.TooLong = ⊤
IsNoFailure fault.Fault = ⊥
IsNoFailure fault.NoMemory = ⊤

-- the answer tells of no read that failed
abbrev pub IsCalmBody : {T : Type 0} → Result T BodyFault → Type 0
IsCalmBody (Ok value) = ⊤
IsCalmBody (Err why) = IsNoFailure why
