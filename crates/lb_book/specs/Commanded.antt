-- The rows after a command, and the answer to one: each refusal after those before it.
use Rattle.std.specs.Prelude.{◌≡◌, ℕ, ◌*◌, ◌/◌, ◌+◌, ◌^◌, ◌<◌, ◌≤◌, ◌==◌, List, length, slice_index_or, Result, Ok, Err, if◌then◌else◌}
use Rattle.lb_model.specs.Journal.{each, members}
use Rattle.lb_model.specs.Legal.{HasValues, IsDoable, TargetExists, subject_of}
use Rattle.lb_model.specs.Limits.{most_numbers}
use Rattle.lb_model.specs.Loads.{load_by}
use Rattle.lb_model.specs.Multiple.{multiple_of}
use Rattle.lb_model.specs.Settings.{Setting, commanded, common_after}
use Rattle.lb_model.specs.StateRows.{recovered_state}
use Rattle.lb_model.specs.declared.change.Command.{Command}
use Rattle.lb_model.specs.declared.journal.Call.TheVariants as Call
use Rattle.lb_model.specs.declared.journal.Entry.{Entry}
use Rattle.lb_model.specs.declared.member.Method.{Method}
use Rattle.lb_model.specs.declared.refusal.AdminError.{AdminError}
use Rattle.lb_model.specs.declared.refusal.AdminError.TheVariants as Admin
use Rattle.lb_model.specs.declared.refusal.FullMark.{FullMark}
use Rattle.lb_model.specs.declared.state.MemberState.TheVariants as State
use Rattle.lb_book.specs.Journal.{IsMarked, Journal, next_number, past_of, tickets_out}
use Rattle.lb_rules.specs.declared.standing.Standing.{Standing}

abbrev pub row_setting : Standing → Setting
row_setting row =
    record { factor = row.factor; distance = row.distance; activation = row.activation; redirect = row.redirect }

-- The setting of row m after a command.
abbrev pub setting_commanded : Command → (m : ℕ) → Standing → Setting
setting_commanded c m row = commanded m c (row_setting row)

-- The least common multiple of the factors after a command; d stands where there is no row.
abbrev pub common_commanded : Command → List Standing → Standing → ℕ
common_commanded c rows d = multiple_of (each (length rows) (λ m. (setting_commanded c m (slice_index_or rows m d)).factor))

-- A row with this setting, but its former unit and load.
abbrev pub settled_row : Setting → Standing → Standing
settled_row s row =
    record row { activation = s.activation; factor = s.factor; distance = s.distance; redirect = s.redirect }

-- A row with this setting, where the factors have this common multiple: loads stay, but by Busyness.
abbrev pub resettled_row : Method → (common : ℕ) → Setting → Standing → Standing
resettled_row method common s row = record row {
  load = load_by method (row.busy * (common / s.factor)) row.load;
  unit = common / s.factor;
  activation = s.activation;
  factor = s.factor;
  distance = s.distance;
  redirect = s.redirect;
}

abbrev pub reset_row : Method → Standing → Standing
reset_row method row = record row { state = State.Ok; load = load_by method row.load 0 }

abbrev pub recovered_row : Standing → Standing
recovered_row row = record row { state = recovered_state row.state }

-- Row m after a command.
abbrev pub commanded_row : Method → (common : ℕ) → Command → (m : ℕ) → Standing → Standing
commanded_row method common (Command.Update j change) m row =
    resettled_row method common (setting_commanded (Command.Update j change) m row) row
commanded_row method common (Command.Reset j) m row = (if j == m then reset_row method row else row)
commanded_row method common (Command.Recover j) m row = (if j == m then recovered_row row else row)

-- The members that a command names are among the first n.
abbrev pub IsKnown : (n : ℕ) → Command → Type 0
IsKnown n c = (subject_of c < n) × TargetExists n c

-- The answer to a command, by what holds of it: each refusal after those before it.
abbrev pub IsCommanded : Journal → Command → Result Entry (AdminError FullMark) → Type 0
IsCommanded b c (Ok e) =
    IsDoable b.opening (past_of b) c × (next_number b + tickets_out b + 1 ≤ most_numbers)
IsCommanded b c (Err Admin.UnknownMember) = ¬ IsKnown (members b.opening) c
IsCommanded b c (Err Admin.BadValue) = IsKnown (members b.opening) c × ¬ HasValues c
IsCommanded b c (Err (Admin.TooWide mark)) =
    IsKnown (members b.opening) c × HasValues c × (2 ^ 32 ≤ common_after b.opening (past_of b) (Call.Admin c))
    × IsMarked (next_number b) (tickets_out b) mark
IsCommanded b c (Err (Admin.Full mark)) =
    IsDoable b.opening (past_of b) c × (most_numbers < next_number b + tickets_out b + 1) × IsMarked (next_number b) (tickets_out b) mark
IsCommanded b c (Err Admin.NoMemory) =
    IsDoable b.opening (past_of b) c × (next_number b + tickets_out b + 1 ≤ most_numbers)

-- The judgement of the rows on a command, before there is a number for it.
abbrev pub IsJudgedCommand : (n : ℕ) → List Standing → Standing → Command → FullMark → Result ℕ (AdminError FullMark) → Type 0
IsJudgedCommand n rows d c mark (Ok common) =
    IsKnown n c × HasValues c × (common_commanded c rows d < 2 ^ 32) × (common ≡ common_commanded c rows d)
IsJudgedCommand n rows d c mark (Err Admin.UnknownMember) = ¬ IsKnown n c
IsJudgedCommand n rows d c mark (Err Admin.BadValue) = IsKnown n c × ¬ HasValues c
IsJudgedCommand n rows d c mark (Err (Admin.TooWide wide)) =
    IsKnown n c × HasValues c × (2 ^ 32 ≤ common_commanded c rows d) × (wide ≡ mark)
IsJudgedCommand n rows d c mark (Err (Admin.Full full)) = ⊥
IsJudgedCommand n rows d c mark (Err Admin.NoMemory) = ⊥
