use Rattle.std.proofs.Common.{◌≡◌, ◌++◌, take}
use Rattle.std.specs.List.{flat_map}
use Rattle.site_reports.specs.KindTables.{as_kinds}
use Rattle.site_reports.specs.Notes.{redirected_kind}
use Rattle.site_reports.proofs.kinds.push_all_redirected.Given as goal

abbrev pub invariant-loop-member : goal.invariant-loop-member
invariant-loop-member l = as_kinds l.out.items ≡ as_kinds l.fn.out.items ++ flat_map redirected_kind (take l.member-index l.member-items)
