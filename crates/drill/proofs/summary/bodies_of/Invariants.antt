-- The sizes so far.
use Rattle.std.proofs.Common.{◌≡◌, ◌*◌, ◌≤◌}
use Rattle.drill.specs.Requests.{bodies_of, number_at}
use Rattle.drill.proofs.summary.bodies_of.Given as goal

abbrev pub invariant-loop : goal.invariant-loop
invariant-loop l =
    (l.sum ≡ bodies_of l.fn.plan.seed l.counter) × (l.number ≡ number_at l.fn.plan.seed l.counter) × (l.sum ≤ 1024 * l.counter)
