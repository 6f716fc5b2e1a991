use Rattle.std.proofs.Common.{◌≡◌, ◌++◌, take}
use Rattle.std.specs.List.{flat_map}
use Rattle.site_config.specs.Entries.{as_properties}
use Rattle.site_reports.specs.KindTables.{ForTables}
use Rattle.site_reports.specs.Notes.{note_on}
use Rattle.site_reports.proofs.notes.put_notes.Given as goal

-- the notes on the lines so far
abbrev pub invariant-loop-line : goal.invariant-loop-line
invariant-loop-line l = ForTables l.tables (λ kinds ps. l.notes.items ≡ l.fn.notes.items ++ flat_map (note_on kinds ps) (as_properties (take l.line-index l.lines)))
