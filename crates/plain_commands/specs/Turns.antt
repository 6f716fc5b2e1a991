-- The Book of a script, before and after a line.
use Rattle.std.specs.Prelude.{◌≡◌, ℕ, ◌+◌, ◌<◌, ◌≤◌, max, ◌⊎◌, false, List, [], ◌∷◌, ◌++◌, length, Some}
use Rattle.std.specs.Bool.{MatchBool}
use Rattle.lb_book.specs.Journal.{Journal, IsSound, past_of}
use Rattle.lb_model.specs.Limits.{modern_rules}
use Rattle.lb_model.specs.declared.journal.Call.{Call}
use Rattle.lb_model.specs.declared.journal.Call.TheVariants as call
use Rattle.lb_model.specs.declared.journal.Entry.{Entry}
use Rattle.lb_model.specs.Journal.{maintained_of, members, moment_of}
use Rattle.lb_model.specs.Present.{ArePresentRows}
use Rattle.lb_model.specs.declared.view.MemberRow.{MemberRow}
use Rattle.play_script.specs.Printed.{row_lines}
use Rattle.play_script.specs.declared.printed.ScriptRefusal.{ScriptRefusal}
use Rattle.play_script.specs.declared.step.Step.{Step}
use Rattle.play_script.specs.Play.{is_skipped, AddsCall, AsksFor, Says, SaysLine, IsRefusedLine, Runs}
use Rattle.play_script.specs.Steps.{step_of}
use Rattle.plain_commands.specs.declared.turn.Stop.{Stop}
use Rattle.plain_commands.specs.declared.turn.Stop.TheVariants as stop

-- The Book of a script: it has rules 2 and began with number 0 and no ticket out.
pub record IsPlayed (b : Journal) : Type 0 where
  pub rules : b.rules ≡ modern_rules
  pub sound : IsSound b
  pub first : b.opening.next ≡ 0
  pub none_out : b.opening.out ≡ []

-- The Book stays one of the same script, and at most one entry is added.
pub record KeepsScript (old new : Journal) : Type 0 where
  pub played : IsPlayed new
  pub opening : new.opening ≡ old.opening
  pub few : length new.entries ≤ length old.entries + 1

-- A call without a line of its own was answered.
pub record AddsAnswer (at : ℕ) (asked : Call) (old new : Journal) : Type 0 where
  pub entry : Entry
  pub adds : AddsCall old.opening at (past_of old) asked entry
  pub past : past_of new ≡ entry ∷ past_of old
  pub keeps : KeepsScript old new

-- A maintenance was done, or none was due and nothing changed.
abbrev pub Maintains : (at : ℕ) (old new : Journal) → Type 0
Maintains at old new =
    AddsAnswer at call.Maintain old new
    ⊎ ((max at (moment_of old.opening (past_of old)) < maintained_of old.opening (past_of old) + old.opening.config.maintain) × (new ≡ old))

-- A call was answered, and printed its part.
pub record AnsweredCall (names : List (List ℕ)) (at : ℕ) (asked : Call) (old new : Journal) (before after : List ℕ) : Type 0 where
  pub part : List ℕ
  pub asks : AsksFor names old.opening at (past_of old) asked part (past_of new)
  pub put : after ≡ before ++ part
  pub keeps : KeepsScript old new

-- A line was answered, and printed its part.
pub record Said (names : List (List ℕ)) (at : ℕ) (line : Step) (moment : ℕ) (old new : Journal) (before after : List ℕ) : Type 0 where
  pub part : List ℕ
  pub says : Says names old.opening at (past_of old) line part moment (past_of new)
  pub put : after ≡ before ++ part
  pub keeps : KeepsScript old new

-- A blank line and a comment do nothing, and any other does what it says.
abbrev pub TurnsScript : List (List ℕ) → Journal → (at : ℕ) → (line part : List ℕ) → (moment : ℕ) → Journal → Type 0
TurnsScript names old at line part moment new =
    MatchBool (is_skipped line)
    ((part ≡ []) × (moment ≡ at) × (past_of new ≡ past_of old))
    (SaysLine names old.opening at (past_of old) (step_of names line) part moment (past_of new))

-- A line was taken, and printed its part.
pub record Taken (names : List (List ℕ)) (at : ℕ) (line : List ℕ) (moment : ℕ) (old new : Journal) (before after : List ℕ) : Type 0 where
  pub part : List ℕ
  pub turns : TurnsScript names old at line part moment new
  pub put : after ≡ before ++ part
  pub keeps : KeepsScript old new

-- The reason of a stop that isn't want of memory.
abbrev pub TellsStop : Stop → (ScriptRefusal → Type 0) → Type 0
TellsStop (stop.Refused reason) Says = Says reason
TellsStop stop.NoMemory Says = Unit {0}

-- A line was refused, and printed nothing.
pub record RefusesScriptLine (names : List (List ℕ)) (line : List ℕ) (old : Journal) (before after : List ℕ) (reason : ScriptRefusal) : Type 0 where
  pub full : is_skipped line ≡ false
  pub refused : IsRefusedLine old.opening (past_of old) (step_of names line) reason
  pub put : after ≡ before

-- A line of this form was refused, and printed nothing.
pub record RefusesStep (line : Step) (old : Journal) (before after : List ℕ) (reason : ScriptRefusal) : Type 0 where
  pub refused : IsRefusedLine old.opening (past_of old) (Some line) reason
  pub put : after ≡ before

-- A line for each member was printed, as the Book is.
pub record ShownRows (b : Journal) (before after : List ℕ) : Type 0 where
  pub rows : List MemberRow
  pub present : ArePresentRows 2 b.opening (past_of b) (members b.opening) rows
  pub put : after ≡ before ++ row_lines rows

-- The output of the lines from this one on was added.
pub record AppendsRun (names : List (List ℕ)) (b : Journal) (number at : ℕ) (lines : List (List ℕ)) (status : ℕ) (before after : List ℕ) : Type 0 where
  pub text : List ℕ
  pub put : after ≡ before ++ text
  pub runs : Runs names b.opening lines number at (past_of b) text status
