use Rattle.std.proofs.Common.{take}
use Rattle.site_config.specs.Entries.{as_properties}
use Rattle.site_reports.specs.Again.{IsLineTable}
use Rattle.site_reports.proofs.again.line_table.Given as goal

-- the table of the lines so far
abbrev pub invariant-loop-line : goal.invariant-loop-line
invariant-loop-line l = IsLineTable l.table (as_properties (take l.line-index l.lines))
