-- How a plain command ends.
use Rattle.std.specs.Prelude.{◌≡◌, ℕ, true, false, ◌⊎◌, List, [], ◌∷◌, Option, None, codes}
use Rattle.jk_cli.specs.declared.order.Order.{Order}
use Rattle.jk_io.specs.Told.{appended, PutsFront, Rose}
use Rattle.jk_io.specs.declared.traits.streams.Meanings.{Ghosts}
use Rattle.jk_io.specs.declared.traits.surroundings.Files.{Ghosts as FilesGhosts}
use Rattle.plain_commands.specs.Plain.{is_plain, readings, AnswersOrder, EndsByStatus, Plain, Prints, PrintsFront, PrintsOf}
use Rattle.site_reports.specs.Readings.{CommandOutside, File, Reading}
use Rattle.site_reports.specs.declared.found.SiteFound.{SiteFound}
use Rattle.plain_commands.specs.declared.answered.PlainAnswer.{PlainAnswer}
use Rattle.plain_commands.specs.declared.log.LogNames.{LogNames}
use Rattle.plain_commands.specs.declared.play.Ending.{Ending}
use Rattle.plain_commands.specs.declared.play.Ending.TheVariants as ending
use Rattle.plain_commands.specs.declared.plain.PlainEnd.{PlainEnd}
use Rattle.plain_commands.specs.declared.plain.PlainEnd.TheVariants as end

-- The status of an answered command.
abbrev pub status_of : Ending → ℕ
status_of ending.Done = 0
status_of ending.Bad = 1
status_of ending.Refused = 3
status_of ending.Running = 4

abbrev pub number_of : PlainEnd → ℕ
number_of end.Done = 0
number_of end.Bad = 1
number_of end.NoCommand = 2
number_of end.Refused = 3
number_of end.Running = 4
number_of end.InputFault = 4
number_of end.OutputFault = 5
number_of end.NoMemory = 6

-- How the writing of a text ends, after a command that was answered with this ending. For want of memory only where no write
-- failed.
abbrev pub Writes : (faults faults_now : ℕ) (sent sent_now : Option (List ℕ)) (text : List ℕ) → Ending → PlainEnd → Type 0
Writes faults faults_now sent sent_now text answered end.Done = (answered ≡ ending.Done) × (sent_now ≡ appended sent text)
Writes faults faults_now sent sent_now text answered end.Bad = (answered ≡ ending.Bad) × (sent_now ≡ appended sent text)
Writes faults faults_now sent sent_now text answered end.NoCommand = ⊥
Writes faults faults_now sent sent_now text answered end.Refused = (answered ≡ ending.Refused) × (sent_now ≡ appended sent text)
Writes faults faults_now sent sent_now text answered end.Running = (answered ≡ ending.Running) × (sent_now ≡ sent)
Writes faults faults_now sent sent_now text answered end.InputFault = ⊥
Writes faults faults_now sent sent_now text answered end.OutputFault = Rose faults faults_now × PutsFront sent sent_now text
Writes faults faults_now sent sent_now text answered end.NoMemory = PutsFront sent sent_now text × (faults_now ≡ faults)

-- How often the files, the input and the output of a command failed.
pub record Faults : Type 0 where
  pub files : ℕ
  pub input : ℕ
  pub output : ℕ

-- A read failed only where the faults of the files or of the input rose.
abbrev pub ReadFails : (old new : Faults) → Type 0
ReadFails old new = Rose old.files new.files ⊎ Rose old.input new.input

-- No file failed, nor the input, nor a write.
abbrev pub NoneFailed : (old new : Faults) → Type 0
NoneFailed old new = (new.files ≡ old.files) × (new.input ≡ old.input) × (new.output ≡ old.output)

-- All that a command uses, as it is told: what it may read, what its output was sent, and how often each failed.
pub record PlainSide : Type 0 where
  pub outside : CommandOutside
  pub sent : Option (List ℕ)
  pub faults : Faults

-- what a command reads, by what its files and its input tell: `told_outside F.Files S.Meanings files input`
abbrev pub told_outside : {F S X : Type 0} → FilesGhosts F → Ghosts S X → F → S → CommandOutside
told_outside of_files of_input files input = record { files = of_files.files files; incoming = of_input.incoming input }

-- all of it at a moment, by what the types tell: `plain_side F.Files S.Meanings O.Meanings files input out`
abbrev pub plain_side : {F S O X Y : Type 0} → FilesGhosts F → Ghosts S X → Ghosts O Y → F → S → O → PlainSide
plain_side of_files of_input of_output files input out = record {
  outside = told_outside of_files of_input files input;
  sent = of_output.sent out;
  faults = record { files = of_files.faults files; input = of_input.faults input; output = of_output.faults out };
}

-- A command that is built, by each end, and the site that it judged: just what it prints was written; or a front that was told to
-- end may still run, or a read failed, and nothing was written; or a write failed, after a front; or memory was wanted, before
-- anything was written or in a write, and neither a file nor the input nor a write failed.
abbrev pub AnswersSo : (command : Order) → (s n : PlainSide) → Option SiteFound → PlainEnd → Type 0
AnswersSo command s n site end.Done = Prints command s.outside s.sent n.sent 0 site
AnswersSo command s n site end.Bad = Prints command s.outside s.sent n.sent 1 site
AnswersSo command s n site end.NoCommand = ⊥
AnswersSo command s n site end.Refused = Prints command s.outside s.sent n.sent 3 site
AnswersSo command s n site end.Running = (n.sent ≡ s.sent) × EndsByStatus command s.outside 4
AnswersSo command s n site end.InputFault = (n.sent ≡ s.sent) × ReadFails s.faults n.faults
AnswersSo command s n site end.OutputFault = PrintsFront command s.outside s.sent n.sent × Rose s.faults.output n.faults.output
AnswersSo command s n site end.NoMemory = ((n.sent ≡ s.sent) ⊎ PrintsFront command s.outside s.sent n.sent) × NoneFailed s.faults n.faults

-- An order, by each end: one that is no plain command changes nothing.
abbrev pub EndsSo : (command : Order) → (s n : PlainSide) → Option SiteFound → PlainEnd → Type 0
EndsSo command s n site end.NoCommand = (is_plain command ≡ false) × (n ≡ s)
EndsSo command s n site ended = (is_plain command ≡ true) × AnswersSo command s n site ended

-- ---- what is answered, before it is written

-- `So` holds of what is printed, of the status, and of the site that was judged.
abbrev pub OfAnswer : (So : List ℕ → ℕ → Option SiteFound → Type 0) → PlainAnswer → Type 0
OfAnswer So a = So a.output.text (status_of a.output.ending) a.site

-- A text is too long: that alone is printed, and no site is judged.
abbrev pub IsTooLong : PlainAnswer → Type 0
IsTooLong a = (a.output.text ≡ codes "too long\n") × (a.output.ending ≡ ending.Refused) × (a.site ≡ None)

-- The answer for files alone, whatever the input.
abbrev pub PrintsOfFiles : Option (List (List ℕ × List ℕ)) → List Reading → (List (List ℕ) → List ℕ → ℕ → Option SiteFound → Type 0) → PlainAnswer → Type 0
PrintsOfFiles files readings Of a = (incoming : Option (List ℕ)) → OfAnswer (PrintsOf (record { files = files; incoming = incoming }) readings Of) a

-- The answer for the input alone, whatever the files.
abbrev pub PrintsOfInput : Option (List ℕ) → List Reading → (List (List ℕ) → List ℕ → ℕ → Option SiteFound → Type 0) → PlainAnswer → Type 0
PrintsOfInput incoming readings Of a =
    (files : Option (List (List ℕ × List ℕ))) → OfAnswer (PrintsOf (record { files = files; incoming = incoming }) readings Of) a

-- The answer of a command that reads files alone, and of one that reads the input alone.
abbrev pub PlainOfFiles : Option (List (List ℕ × List ℕ)) → Order → PlainAnswer → Type 0
PlainOfFiles files command a = PrintsOfFiles files (readings command) (AnswersOrder command) a

abbrev pub PlainOfInput : Option (List ℕ) → Order → PlainAnswer → Type 0
PlainOfInput incoming command a = PrintsOfInput incoming (readings command) (AnswersOrder command) a

-- the files of `log`, in the order in which they are read
abbrev pub log_readings : LogNames → List Reading
log_readings names = File names.request.now ∷ File names.reply.now ∷ File names.workers.now ∷ File names.map.now ∷ []

-- The answer of `log`, whatever the input.
abbrev pub LogOfFiles : Option (List (List ℕ × List ℕ)) → Order → PlainAnswer → Type 0
LogOfFiles files command a = (incoming : Option (List ℕ)) → OfAnswer (Plain (record { files = files; incoming = incoming }) command) a
