-- The refusals of a uriworkermap.properties, each with its line and its reason, and the number of each reason.
use Rattle.std.specs.Prelude.{◌≡◌, ℕ, Option, Some, None, Result, Ok, Err}
use Rattle.site_config.specs.Refusals.{LineRefusal}
use Rattle.site_mounts.specs.declared.error.MapReason.{MapReason}
use Rattle.site_mounts.specs.declared.error.MapReason.TheVariants as reason
use Rattle.site_mounts.specs.declared.error.MapRefusal.{MapRefusal}
use Rattle.site_mounts.specs.declared.error.RulesError.{RulesError}
use Rattle.site_mounts.specs.declared.error.RulesError.TheVariants as rules
use Rattle.site_mounts.specs.declared.error.MapError.{MapError}
use Rattle.site_mounts.specs.declared.error.MapError.TheVariants as errors

abbrev pub code_of : MapReason → ℕ
code_of reason.BadPattern = 1
code_of reason.UnknownWorker = 2
code_of reason.BadExtension = 3

abbrev pub refusal : ℕ → MapReason → MapRefusal
refusal line why = record { line = line; reason = why }

-- a call's answer is what reading gives, unless memory was wanted
abbrev pub AnswersRules : {X Y : Type 0} → (X → Y) → Result X RulesError → Result Y MapRefusal → Type 0
AnswersRules view (Ok x) read = read ≡ Ok (view x)
AnswersRules view (Err (rules.Refused r)) read = read ≡ Err r
AnswersRules view (Err rules.NoMemory) read = Unit {0}

-- a refusal as it is shown: its line and its number
abbrev pub numbered : MapRefusal → LineRefusal
numbered r = record { line = r.line; code = code_of r.reason }

-- what a call that answers numbers makes of an error
abbrev pub error_of : RulesError → MapError
error_of (rules.Refused r) = errors.Refused r.line (code_of r.reason)
error_of rules.NoMemory = errors.NoMemory

-- a call that answers numbers answers what reading gives, unless memory was wanted
abbrev pub AnswersMap : {X Y : Type 0} → (X → Y) → Result X MapError → Result Y MapRefusal → Type 0
AnswersMap view (Ok x) read = read ≡ Ok (view x)
AnswersMap view (Err (errors.Refused line code)) read = (r : MapRefusal) × (read ≡ Err r) × (numbered r ≡ record { line = line; code = code })
AnswersMap view (Err errors.NoMemory) read = Unit {0}

-- what a line is refused for, if it is
abbrev pub reason_in : {X : Type 0} → Result X MapRefusal → Option MapReason
reason_in (Ok x) = None
reason_in (Err r) = Some r.reason

-- a line that lacks something is refused for that
abbrev pub or_refused : {X : Type 0} → ℕ → MapReason → Option X → Result X MapRefusal
or_refused line why None = Err (refusal line why)
or_refused line why (Some x) = Ok x
