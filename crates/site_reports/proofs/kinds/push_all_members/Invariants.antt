use Rattle.std.proofs.Common.{◌≡◌, ◌++◌, take}
use Rattle.std.specs.List.{flat_map}
use Rattle.site_reports.specs.KindTables.{as_kinds}
use Rattle.site_reports.specs.Notes.{member_kinds}
use Rattle.site_reports.proofs.kinds.push_all_members.Given as goal

abbrev pub invariant-loop-lb : goal.invariant-loop-lb
invariant-loop-lb l = as_kinds l.out.items ≡ as_kinds l.fn.out.items ++ flat_map member_kinds (take l.lb-index l.lbs)
