-- Meanings that may be told or not: lists that grow at their end or are used from the front, and counts of faults that
-- rise. An untold meaning is None, and each equation here then says nothing.
use Rattle.std.specs.Prelude.{◌≡◌, ℕ, ◌+◌, ◌≤◌, min, List, [], ◌++◌, Option, Some, None, IfSome, Result, IsErrOf}
use Rattle.jk_io.specs.declared.failures.IoError.{IoError}
use Rattle.jk_io.specs.declared.failures.IoError.TheVariants.{Failed, NoMemory}

-- what is told after `more` was added at the end
abbrev pub appended : {T : Type 0} → Option (List T) → List T → Option (List T)
appended None more = None
appended (Some before) more = Some (before ++ more)

-- what was told before `front` was taken
abbrev pub prepended : {T : Type 0} → List T → Option (List T) → Option (List T)
prepended front None = None
prepended front (Some rest) = Some (front ++ rest)

-- where it is told, there is nothing
abbrev pub IsEmpty : {T : Type 0} → Option (List T) → Type 0
IsEmpty told = IfSome told (λ items. items ≡ [])

-- the count rose; one that stands at the last value of a u64 counts as risen
abbrev pub Rose : ℕ → ℕ → Type 0
Rose before now = min (before + 1) 18446744073709551615 ≤ now

-- the count never falls, the call failed only where it rose, and want of memory doesn't raise it
pub record HasCause {T : Type 0} (before now : ℕ) (result : Result T IoError) : Type 0 where
  pub no_fewer : before ≤ now
  pub failed : IsErrOf result Failed → Rose before now
  pub wanted : IsErrOf result NoMemory → now ≡ before

-- a front of `piece` was added at the end, maybe all of it and maybe nothing
pub record PutsFront {T : Type 0} (before now : Option (List T)) (piece : List T) : Type 0 where
  pub front : List T
  pub rest : List T
  pub whole : piece ≡ front ++ rest
  pub put : now ≡ appended before front
