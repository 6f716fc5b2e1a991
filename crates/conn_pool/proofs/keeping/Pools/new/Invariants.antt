use Rattle.std.proofs.Common.{◌≡◌, map, take}
use Rattle.conn_pool.proofs.keeping.Pools.new.Given as goal

-- the rows so far have the sizes of the table
abbrev pub invariant-loop-row : goal.invariant-loop-row
invariant-loop-row g l = map (λ row. row.sizes.items) l.rows.items ≡ take l.row-index l.sizes
