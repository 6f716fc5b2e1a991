use Rattle.std.proofs.Common.{◌≡◌, drop}
use Rattle.jk_server.specs.Ends.{end_of_container}
use Rattle.jk_server.proofs.orders.ends.end_of_container.Given as goal

-- the workers so far closed
abbrev pub invariant-workers : goal.invariant-workers
invariant-workers g l = end_of_container {L = g.row.L.Denot} (drop l.worker-index l.workers) ≡ end_of_container {L = g.row.L.Denot} l.workers
