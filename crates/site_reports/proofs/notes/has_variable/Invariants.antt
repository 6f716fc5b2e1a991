use Rattle.std.proofs.Common.{◌≡◌, length}
use Rattle.site_reports.specs.Notes.{has_variable}
use Rattle.site_reports.proofs.notes.has_variable.Given as goal

-- it is sought in what is left
abbrev pub invariant-loop-rest : goal.invariant-loop-rest
invariant-loop-rest l = has_variable l.rest ≡ has_variable l.text

abbrev pub decreases-loop-rest : goal.decreases-loop-rest
decreases-loop-rest l = length l.rest
