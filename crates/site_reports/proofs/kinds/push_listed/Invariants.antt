use Rattle.std.proofs.Common.{◌≡◌, ◌++◌, map, take}
use Rattle.site_reports.specs.KindTables.{as_kinds}
use Rattle.site_reports.specs.Notes.{listed_kind}
use Rattle.site_reports.proofs.kinds.push_listed.Given as goal

abbrev pub invariant-loop-entry : goal.invariant-loop-entry
invariant-loop-entry l = as_kinds l.out.items ≡ as_kinds l.fn.out.items ++ map (λ entry. (entry.0, listed_kind l.config.lbs entry.1)) (take l.entry-index l.entry-items)
