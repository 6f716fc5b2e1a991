-- Which journals are legal: each entry follows from those before it.
use Rattle.std.specs.Prelude.{◌≡◌, ℕ, ◌+◌, ◌^◌, ◌<◌, ◌≤◌, true, List, [], ◌∷◌, length, reverse, Option, Some, None}
use Rattle.lb_model.specs.Choice.{IsPick}
use Rattle.lb_model.specs.Journal.{members, maintained_of, moment_of, next_of}
use Rattle.lb_model.specs.Limits.{most_bytes, most_numbers}
use Rattle.lb_model.specs.Settings.{common_after}
use Rattle.lb_model.specs.Tickets.{is_out, out}
use Rattle.lb_model.specs.Validity.{IsOpening}
use Rattle.lb_model.specs.declared.ask.Ask.{Ask}
use Rattle.lb_model.specs.declared.change.Command.{Command}
use Rattle.lb_model.specs.declared.change.Command.TheVariants as command
use Rattle.lb_model.specs.declared.change.Redirect.{Redirect}
use Rattle.lb_model.specs.declared.change.Redirect.TheVariants as redirect
use Rattle.lb_model.specs.declared.journal.Answer.TheVariants as answer
use Rattle.lb_model.specs.declared.journal.Call.{Call}
use Rattle.lb_model.specs.declared.journal.Call.TheVariants as call
use Rattle.lb_model.specs.declared.journal.Entry.{Entry}
use Rattle.lb_model.specs.declared.opening.Opening.{Opening}

-- How many numbers a call takes from those that the Returns don't need: its own, and for a Select that of its Return.
abbrev pub taken_by : Call → ℕ
taken_by (call.Select ask) = 2
taken_by (call.Return t w) = 0
taken_by call.Maintain = 1
taken_by (call.Admin c) = 1

-- The member that a command speaks of.
abbrev pub subject_of : Command → ℕ
subject_of (command.Update m change) = m
subject_of (command.Reset m) = m
subject_of (command.Recover m) = m

-- A new redirect leads to a member.
abbrev pub RedirectExists : ℕ → Redirect → Type 0
RedirectExists n redirect.Keep = Unit {0}
RedirectExists n redirect.None = Unit {0}
RedirectExists n (redirect.To t) = t < n

abbrev pub TargetExists : ℕ → Command → Type 0
TargetExists n (command.Update m change) = RedirectExists n change.redirect
TargetExists n (command.Reset m) = Unit {0}
TargetExists n (command.Recover m) = Unit {0}

abbrev pub IsFactor : Option ℕ → Type 0
IsFactor None = Unit {0}
IsFactor (Some f) = (1 ≤ f) × (f ≤ 65535)

abbrev pub IsDistance : Option ℕ → Type 0
IsDistance None = Unit {0}
IsDistance (Some d) = d ≤ 65535

-- A new redirect doesn't lead to its own member.
abbrev pub LeadsElsewhere : ℕ → Redirect → Type 0
LeadsElsewhere m redirect.Keep = Unit {0}
LeadsElsewhere m redirect.None = Unit {0}
LeadsElsewhere m (redirect.To t) = (t ≡ m → ⊥)

abbrev pub HasValues : Command → Type 0
HasValues (command.Update m change) = IsFactor change.factor × IsDistance change.distance × LeadsElsewhere m change.redirect
HasValues (command.Reset m) = Unit {0}
HasValues (command.Recover m) = Unit {0}

-- A command may be done: its members exist, its values are in range, and L stays within its limit.
pub record IsDoable (o : Opening) (p : List Entry) (c : Command) : Type 0 where
  pub member : subject_of c < members o
  pub target : TargetExists (members o) c
  pub values : HasValues c
  pub narrow : common_after o p (call.Admin c) < 2 ^ 32

-- The asks of rules 1 know no mount terms.
abbrev pub KnowsTerms : ℕ → Ask → Type 0
KnowsTerms v ask = v ≡ 1 → (ask.disabled ≡ 0) × (ask.stopped ≡ 0)

-- The answer of an entry follows from the entries before it.
abbrev pub IsAnswered : ℕ → Opening → List Entry → Entry → Call → Type 0
IsAnswered v o p e (call.Select ask) = IsPick v o p ask e.answer × KnowsTerms v ask
IsAnswered v o p e (call.Return t w) = (is_out o p t ≡ true) × (w.bytes ≤ most_bytes) × (e.answer ≡ answer.Done)
IsAnswered v o p e call.Maintain = (maintained_of o p + o.config.maintain ≤ e.at) × (e.answer ≡ answer.Done)
IsAnswered v o p e (call.Admin c) = IsDoable o p c × (e.answer ≡ answer.Done)

-- An entry may follow the past p.
pub record IsNext (v : ℕ) (o : Opening) (p : List Entry) (e : Entry) : Type 0 where
  pub number : e.seq ≡ next_of o p
  pub moment : moment_of o p ≤ e.at
  pub room : e.seq + length (out o p) + taken_by e.call ≤ most_numbers
  pub answered : IsAnswered v o p e e.call

-- A legal history whose entries are p, newest first.
abbrev pub IsLegalPast : ℕ → Opening → List Entry → Type 0
IsLegalPast v o [] = IsOpening o
IsLegalPast v o (e ∷ p) = IsNext v o p e × IsLegalPast v o p

-- A legal history whose entries are h, oldest first.
abbrev pub IsLegal : ℕ → Opening → List Entry → Type 0
IsLegal v o h = IsLegalPast v o (reverse h)
