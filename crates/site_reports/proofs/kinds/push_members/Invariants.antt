use Rattle.std.proofs.Common.{◌≡◌, ◌++◌, map, take}
use Rattle.site_config.specs.declared.values.WorkerKind.TheVariants as kind
use Rattle.site_reports.specs.KindTables.{as_kinds}
use Rattle.site_reports.proofs.kinds.push_members.Given as goal

abbrev pub invariant-loop-member : goal.invariant-loop-member
invariant-loop-member l = as_kinds l.out.items ≡ as_kinds l.fn.out.items ++ map (λ m. (m.name, kind.Ajp13)) (take l.member-index l.member-items)
