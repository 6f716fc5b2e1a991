-- The requests that are left begin where the search has come to.
use Rattle.std.proofs.Common.{◌≡◌, ◌≤◌, ◌-◌}
use Rattle.drill.specs.Requests.{number_at, requests_from}
use Rattle.drill.proofs.requests.Requests.next_size.Given as goal

abbrev pub invariant-requests : goal.invariant-requests
invariant-requests l = record {
  within : l.self-inside.next ≤ l.self-inside.plan.requests;
  number : l.self-inside.number ≡ number_at l.self-inside.plan.seed l.self-inside.next;
  seed : l.self-inside.plan.seed ≡ l.fn.self.seed;
  left : requests_from l.self-inside.plan.threads l.self-inside.thread l.self-inside.next (l.self-inside.plan.requests - l.self-inside.next)
      ≡ l.fn.self.left;
}

abbrev pub decreases-requests : goal.decreases-requests
decreases-requests l = l.self-inside.plan.requests - l.self-inside.next
