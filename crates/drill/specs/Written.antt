-- The output of a drill, how its writing ends, and the program's status. Read this after Ends.
use Rattle.std.specs.Prelude.{◌≡◌, ℕ, ◌⊎◌, Bool, List, Option}
use Rattle.lb_book.specs.Journal.{Journal}
use Rattle.jk_io.specs.Told.{appended, PutsFront, Rose}
use Rattle.drill.specs.Ends.{IsDrill, IsDrillError}
use Rattle.drill.specs.declared.drill_error.DrillError.{DrillError}
use Rattle.drill.specs.declared.drill_error.DrillError.TheVariants as drill_error
use Rattle.drill.specs.declared.writing.DrillEnd.{DrillEnd}
use Rattle.drill.specs.declared.writing.DrillEnd.TheVariants as end

-- the program's status where a drill handed out nothing
abbrev pub status_of_error : DrillError → ℕ
status_of_error (drill_error.Differs discord) = 1
status_of_error (drill_error.Lost book) = 7
status_of_error (drill_error.Cut book) = 7
status_of_error (drill_error.Bodies bytes) = 7
status_of_error drill_error.NoMemory = 6

-- the program's status
abbrev pub status_of : DrillEnd → ℕ
status_of end.Written = 0
status_of end.OutputFault = 5
status_of end.NoMemory = 6
status_of (end.Lacked why) = status_of_error why

-- How the writing of what a drill handed out ends: it was written, or a front of it. For want of memory only where no write
-- failed.
abbrev pub WritesTold : (sent sent_now : Option (List ℕ)) → (faults faults_now : ℕ) → (told : List ℕ) → DrillEnd → Type 0
WritesTold sent sent_now faults faults_now told ended =
    ((sent_now ≡ appended sent told) × (ended ≡ end.Written))
    ⊎ (PutsFront sent sent_now told × (ended ≡ end.OutputFault) × Rose faults faults_now)
    ⊎ (PutsFront sent sent_now told × (ended ≡ end.NoMemory) × (faults_now ≡ faults))

-- The text that a drill handed out was written, or a front of it.
pub record TellsDrill (seed threads requests : ℕ) (text passes : Bool) (sent sent_now : Option (List ℕ)) (faults faults_now : ℕ) (ended : DrillEnd) : Type 0 where
  pub told : List ℕ
  pub book : Journal
  pub drill : IsDrill seed threads requests text passes told book
  pub written : WritesTold sent sent_now faults faults_now told ended

-- It handed out nothing, for this reason, nothing was written, and no write failed.
pub record LacksDrill (seed threads requests : ℕ) (sent sent_now : Option (List ℕ)) (faults faults_now : ℕ) (ended : DrillEnd) : Type 0 where
  pub error : DrillError
  pub why : IsDrillError seed threads requests error
  pub ends : ended ≡ end.Lacked error
  pub written : sent_now ≡ sent
  pub calm : faults_now ≡ faults

-- A drill, by what it does with the output.
pub data RunsDrill (seed threads requests : ℕ) (text passes : Bool) (sent sent_now : Option (List ℕ)) (faults faults_now : ℕ) (ended : DrillEnd) : Type 0 where
  Told : TellsDrill seed threads requests text passes sent sent_now faults faults_now ended
      → RunsDrill seed threads requests text passes sent sent_now faults faults_now ended
  Lacked : LacksDrill seed threads requests sent sent_now faults faults_now ended
      → RunsDrill seed threads requests text passes sent sent_now faults faults_now ended
