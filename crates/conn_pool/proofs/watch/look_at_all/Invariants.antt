use Rattle.std.proofs.Common.{◌≡◌}
use Rattle.conn_pool.proofs.watch.look_at_all.Given as goal

abbrev pub invariant-loop-balancer : goal.invariant-loop-balancer
invariant-loop-balancer g l = l.lb ≡ l.balancer-index
