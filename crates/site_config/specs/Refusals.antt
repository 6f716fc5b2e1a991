-- The refusals of a workers.properties, each with its line and its reason, and the number of each reason.
use Rattle.std.specs.Prelude.{◌≡◌, ℕ, Result, Ok, Err}
use Rattle.site_config.specs.declared.error.PropsReason.{PropsReason}
use Rattle.site_config.specs.declared.error.PropsReason.TheVariants as reason
use Rattle.site_config.specs.declared.error.PropsRefusal.{PropsRefusal}
use Rattle.site_config.specs.declared.error.WorkersError.{WorkersError}
use Rattle.site_config.specs.declared.error.WorkersError.TheVariants as workers
use Rattle.site_config.specs.declared.error.PropsError.{PropsError}
use Rattle.site_config.specs.declared.error.PropsError.TheVariants as errors

abbrev pub code_of : PropsReason → ℕ
code_of reason.NoEquals = 1
code_of reason.BadName = 2
code_of reason.UnknownWorker = 3
code_of (reason.BadValue d) = 4
code_of reason.BadPeriod = 4
code_of reason.TooManyBalancers = 4
code_of reason.NoAjp13 = 4
code_of reason.NoMembers = 5
code_of reason.TooManyMembers = 6
code_of reason.TooWide = 7
code_of reason.BadReference = 8

abbrev pub refusal : ℕ → PropsReason → PropsRefusal
refusal line why = record { line = line; reason = why }

-- a call's answer is what reading gives, unless memory was wanted
abbrev pub AnswersWorkers : {X Y : Type 0} → (X → Y) → Result X WorkersError → Result Y PropsRefusal → Type 0
AnswersWorkers view (Ok x) read = read ≡ Ok (view x)
AnswersWorkers view (Err (workers.Refused r)) read = read ≡ Err r
AnswersWorkers view (Err workers.NoMemory) read = Unit {0}

-- `so` holds of the refusal of a call's error; want of memory may come
abbrev pub IsRefusal : (PropsRefusal → Type 0) → WorkersError → Type 0
IsRefusal so (workers.Refused r) = so r
IsRefusal so workers.NoMemory = Unit {0}

-- a refusal as it is shown: its line and its number
pub record LineRefusal : Type 0 where
  pub line : ℕ
  pub code : ℕ

abbrev pub numbered : PropsRefusal → LineRefusal
numbered r = record { line = r.line; code = code_of r.reason }

-- what a call that answers numbers makes of an error
abbrev pub error_of : WorkersError → PropsError
error_of (workers.Refused r) = errors.Refused r.line (code_of r.reason)
error_of workers.NoMemory = errors.NoMemory

-- a call that answers numbers answers what reading gives, unless memory was wanted
abbrev pub AnswersNumbered : {X Y : Type 0} → (X → Y) → Result X PropsError → Result Y PropsRefusal → Type 0
AnswersNumbered view (Ok x) read = read ≡ Ok (view x)
AnswersNumbered view (Err (errors.Refused line code)) read = (r : PropsRefusal) × (read ≡ Err r) × (numbered r ≡ record { line = line; code = code })
AnswersNumbered view (Err errors.NoMemory) read = Unit {0}

-- the error has the line and the number of a refusal of which `so` holds; want of memory may come
abbrev pub IsNumbered : (PropsRefusal → Type 0) → PropsError → Type 0
IsNumbered so (errors.Refused line code) = (r : PropsRefusal) × so r × (numbered r ≡ record { line = line; code = code })
IsNumbered so errors.NoMemory = Unit {0}
