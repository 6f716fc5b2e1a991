-- The names of the files that a command read, with how each read went, and its input, as they are kept.
use Rattle.std.specs.Prelude.{◌≡◌, ℕ, ◌+◌, true, min, ◌⊎◌, List, [], ◌∷◌, ◌++◌, Result, Ok, Err}
use Rattle.jk_io.specs.declared.failures.FileError.{FileError}
use Rattle.jk_io.specs.declared.failures.FileError.TheVariants as errors
use Rattle.jk_io.specs.declared.failures.IoError.{IoError}
use Rattle.jk_io.specs.declared.failures.IoError.TheVariants as io
use Rattle.remarks.specs.declared.input_seen.InputSeen.{InputSeen}
use Rattle.remarks.specs.declared.read_file.ReadFile.{ReadFile}
use Rattle.remarks.specs.declared.read_file.ReadOutcome.{ReadOutcome}
use Rattle.remarks.specs.declared.read_file.ReadOutcome.TheVariants as outcome

-- how the read of a file went
abbrev pub outcome_of : Result (List ℕ) FileError → ReadOutcome
outcome_of (Ok text) = outcome.Whole
outcome_of (Err errors.Failed) = outcome.Unread
outcome_of (Err errors.TooLong) = outcome.TooLong
outcome_of (Err errors.NoMemory) = outcome.Unread

-- How the read of a file went was added to what is kept, under the file's name.
pub record Keeps (name : List ℕ) (went : ReadOutcome) (old new : List ReadFile) : Type 0 where
  pub read : ReadFile
  pub added : new ≡ old ++ read ∷ []
  pub named : read.name ≡ name
  pub how : read.outcome ≡ went

-- room for one more was taken at the end
abbrev pub HasPlace : (old new : List ReadFile) → Type 0
HasPlace old new = (room : ReadFile) × (new ≡ old ++ room ∷ [])

-- How a read went was kept, or memory was wanted for that.
abbrev pub KeepsAnswer : (name : List ℕ) → (answer : Result (List ℕ) FileError) → (old new : List ReadFile) → Type 0
KeepsAnswer name answer old new = Keeps name (outcome_of answer) old new ⊎ ((answer ≡ Err errors.NoMemory) × (new ≡ old))

-- what is known of an input after a read; the count of bytes stays at the greatest u64
abbrev pub seen_after : InputSeen → Result ℕ IoError → InputSeen
seen_after seen (Ok count) = record seen { bytes = min (seen.bytes + count) 18446744073709551615 }
seen_after seen (Err io.Failed) = record seen { failed = true }
seen_after seen (Err io.NoMemory) = seen
