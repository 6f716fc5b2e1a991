use Rattle.std.proofs.Common.{ℕ, ◌≤◌, reverse, take}
use Rattle.lb_model.specs.Validity.{AreTickets}
use Rattle.lb_model.proofs.validity.are_tickets.Given as goal

abbrev pub invariant-loop-ticket : goal.invariant-loop-ticket
invariant-loop-ticket l = record {
  are : AreTickets l.members l.from (reverse (take l.ticket-index l.out));
  least : (k : ℕ) → AreTickets l.members k (reverse (take l.ticket-index l.out)) → l.from ≤ k;
  below : l.from ≤ l.next;
}
