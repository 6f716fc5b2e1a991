use Rattle.std.proofs.Common.{◌≡◌, take}
use Rattle.jk_server.specs.Started.{pool_table}
use Rattle.jk_server.proofs.runs.serve.pool_sizes.Given as goal

abbrev pub invariant-loop-lb : goal.invariant-loop-lb
invariant-loop-lb l = l.table.items ≡ pool_table (take l.lb-index l.lbs)
