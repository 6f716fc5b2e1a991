use Rattle.std.proofs.Common.{◌≡◌}
use Rattle.jk_server.specs.Ends.{end_of_run}
use Rattle.jk_server.proofs.orders.ends.end_of_run.Given as goal

-- the workers so far closed
abbrev pub invariant-workers : goal.invariant-workers
invariant-workers g l = end_of_run l.worker-iterator.rest.items l.closing ≡ end_of_run l.fn.workers.items l.closing
