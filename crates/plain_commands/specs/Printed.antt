-- The answer for a report, and for a session over its site.
use Rattle.std.specs.Prelude.{◌≡◌, ℕ, List, [], ◌∷◌, Option, Some, None, Result, Ok}
use Rattle.jk_io.specs.declared.failures.NoMemory.{NoMemory}
use Rattle.site_reports.specs.Found.{is_refused}
use Rattle.site_reports.specs.Readings.{File}
use Rattle.site_reports.specs.declared.report.Report.{Report}
use Rattle.plain_commands.specs.Endings.{OfAnswer, PrintsOfFiles, status_of}
use Rattle.plain_commands.specs.Plain.{DryAlone, DryOver, status_if}
use Rattle.plain_commands.specs.declared.answered.PlainAnswer.{PlainAnswer}

-- The report was made, and is printed; its site is handed on.
abbrev pub IsPrinted : Result Report NoMemory → PlainAnswer → Type 0
IsPrinted made a =
    (report : Report) × (made ≡ Ok report) × (a.output.text ≡ report.text)
    × (status_of a.output.ending ≡ status_if (is_refused report.found)) × (a.site ≡ Some report.found)

-- The answer for a session of two texts, over the site of no files or of these.
abbrev pub PrintsSession : Option (List (List ℕ × List ℕ)) → (request reply : List ℕ) → Option (List ℕ × List ℕ) → PlainAnswer → Type 0
PrintsSession files request reply None a = OfAnswer (DryAlone request reply) a
PrintsSession files request reply (Some site) a = PrintsOfFiles files (File site.0 ∷ File site.1 ∷ []) (DryOver request reply) a
