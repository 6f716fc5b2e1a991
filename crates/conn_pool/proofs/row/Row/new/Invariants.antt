use Rattle.std.proofs.Common.{◌≡◌, vec_len}
use Rattle.conn_pool.proofs.row.Row.new.Given as goal

-- one pool for each size so far
abbrev pub invariant-loop-size : goal.invariant-loop-size
invariant-loop-size g l = vec_len l.pools ≡ l.size-index
