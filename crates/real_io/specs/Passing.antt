-- Errors of the system that pass after a while, by their numbers.
use Rattle.std.specs.Prelude.{◌≡◌, ℤ, pos, ◌⊎◌, Bool, true, false, Option, Some}
use Rattle.std.specs.declared.io.ErrorKind.{ErrorKind}
use Rattle.std.specs.declared.io.ErrorKind.TheVariants.{ConnectionAborted, ConnectionReset, Interrupted, OutOfMemory, TimedOut}

-- too few descriptors, too many files or too little memory for a moment: ENFILE, EMFILE and ENOBUFS of Linux
abbrev pub IsWanting : Option ℤ → Type 0
IsWanting number = (number ≡ Some (pos 23)) ⊎ (number ≡ Some (pos 24)) ⊎ (number ≡ Some (pos 105))

-- a client that went before it was accepted, a signal, a wait that was over, or want of memory
abbrev pub passes_as : ErrorKind → Bool
passes_as ConnectionAborted = true
passes_as ConnectionReset = true
passes_as Interrupted = true
passes_as TimedOut = true
passes_as OutOfMemory = true
passes_as _ = false

-- of an error, by its kind and its number
abbrev pub IsPassing : ErrorKind → Option ℤ → Type 0
IsPassing kind number = (passes_as kind ≡ true) ⊎ IsWanting number
