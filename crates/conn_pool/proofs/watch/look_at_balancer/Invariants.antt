use Rattle.std.proofs.Common.{◌≡◌}
use Rattle.conn_pool.proofs.watch.look_at_balancer.Given as goal

abbrev pub invariant-loop-end : goal.invariant-loop-end
invariant-loop-end g l = l.member ≡ l.end-index
