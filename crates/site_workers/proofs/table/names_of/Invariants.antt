use Rattle.std.proofs.Common.{take}
use Rattle.site_config.specs.Entries.{as_properties}
use Rattle.site_workers.specs.Table.{IsNameOfGiven}
use Rattle.site_workers.proofs.table.names_of.Given as goal

-- the names of the workers that have a directive so far
abbrev pub invariant-loop-entry : goal.invariant-loop-entry
invariant-loop-entry l = IsNameOfGiven (as_properties (take l.entry-index l.entries)) l.names
