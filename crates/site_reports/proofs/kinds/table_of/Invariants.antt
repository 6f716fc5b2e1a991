use Rattle.std.proofs.Common.{take}
use Rattle.site_reports.specs.KindTables.{as_kinds, IsKindTable}
use Rattle.site_reports.proofs.kinds.table_of.Given as goal

-- the table of the workers so far
abbrev pub invariant-loop-entry : goal.invariant-loop-entry
invariant-loop-entry l = IsKindTable l.table (as_kinds (take l.entry-index l.kinds))
