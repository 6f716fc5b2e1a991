use Rattle.std.proofs.Common.{◌≡◌, ◌++◌, take}
use Rattle.std.specs.List.{flat_map}
use Rattle.status_worker.specs.Table.{table_part}
use Rattle.status_worker.proofs.table.put_tables.Given as goal

abbrev pub invariant-loop-part : goal.invariant-loop-part
invariant-loop-part l = l.out ≡ l.fn.out ++ flat_map (table_part l.may_change) (take l.part-index l.parts)
