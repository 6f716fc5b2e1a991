use Rattle.std.proofs.Common.{◌≡◌, ◌++◌}
use Rattle.std.specs.Iterator.Adapters.{zip_first, zip_second}
use Rattle.std.specs.List.{flat_map, zip}
use Rattle.std.specs.Slice.Iter.{iter_rest}
use Rattle.status_worker.specs.Table.{table_row, table_rows}
use Rattle.status_worker.proofs.table.put_rows.Given as goal

-- what was added, and what the members still to come will add
abbrev pub invariant-loop-row : goal.invariant-loop-row
invariant-loop-row l =
    l.out ++ flat_map (table_row l.may_change l.part) (zip (iter_rest (zip_first l.row-iterator)) (iter_rest (zip_second l.row-iterator)))
    ≡ l.fn.out ++ table_rows l.may_change l.part
