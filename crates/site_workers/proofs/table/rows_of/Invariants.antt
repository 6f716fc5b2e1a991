use Rattle.site_config.specs.Entries.{as_properties}
use Rattle.site_workers.specs.Rows.{AreRows, HasOwn}
use Rattle.site_workers.proofs.table.rows_of.Given as goal

-- the lines so far
abbrev pub invariant-loop-i : goal.invariant-loop-i
invariant-loop-i l = AreRows (HasOwn (as_properties l.entries) l.i) l.names l.rows.items
