use Rattle.std.proofs.Common.{◌≡◌, ℕ, ◌≤◌, ◌∷◌, List, get_or, reverse, take, subst, refl, arith}
use Rattle.std.proofs.lemmas.List.{take_all}
use Rattle.lb_model.specs.Tickets.{Ticket}
use Rattle.lb_model.specs.Validity.{AreTickets}
use Rattle.lb_model.proofs.TicketFacts.{AreTickets-at, AreTickets-least, AreTickets-more, AreTickets-weaken}
use Rattle.lb_model.proofs.validity.are_tickets.Goals as goal
use Rattle.lb_model.proofs.validity.are_tickets.Goals.{then-ticket-from-via-then-ticket-from, then-ticket-from-via-else-ticket-from+then-ticket-next, then-ticket-from-via-else-ticket-from+else-ticket-next+then-member-members}

pub returns-then-ticket-from : goal.returns-then-ticket-from
returns-then-ticket-from c = record {
  value = (
    λ h. absurd cc,
    λ are.
        let i : ℕ = c.loop-ticket.ticket-index in
        let x : Ticket = get_or c.args.out.now i (0, 0) in
        let at : AreTickets c.args.members c.args.next (x ∷ reverse (take i c.args.out.now)) =
        AreTickets-at c.args.members c.args.next i c.args.out.now (0, 0) c.loop-ticket-test.true are in
        let from : c.loop-ticket.from ≤ x.0 = c.loop-ticket.invariant.least x.0 at.2 in
        elim c.then-ticket-from.branch [
          | then-ticket-from-via-then-ticket-from w ↦ absurd (omega (arith, w.if-ticket-from.true, from))
          | then-ticket-from-via-else-ticket-from+then-ticket-next w ↦ absurd (omega (arith, w.if-ticket-next.true, at.0))
          | then-ticket-from-via-else-ticket-from+else-ticket-next+then-member-members w ↦ absurd (omega (arith, w.if-member-members.true, at.1))
        ],
  );
}

pub loop-ticket-preserved : goal.loop-ticket-preserved
loop-ticket-preserved c = record {
  are = AreTickets-more c.args.members c.loop-ticket.from c.loop-ticket.ticket-index c.args.out.now (0, 0)
      c.loop-ticket-test.true c.if-ticket-from.false c.if-member-members.false c.loop-ticket.invariant.are;
  least = λ k. AreTickets-least c.args.members k c.loop-ticket.ticket-index c.args.out.now (0, 0) c.loop-ticket-test.true;
  below = omega arith;
}

pub returns : goal.returns
returns c =
    let all : take c.loop-ticket.ticket-index c.args.out.now ≡ c.args.out.now =
    take_all c.loop-ticket.ticket-index c.args.out.now (omega arith) in
    let are : AreTickets c.args.members c.args.next (reverse c.args.out.now) =
    subst (λ (xs : List Ticket). AreTickets c.args.members c.args.next (reverse xs)) all
    (AreTickets-weaken c.args.members c.loop-ticket.from c.args.next (reverse (take c.loop-ticket.ticket-index c.args.out.now))
    c.loop-ticket.invariant.below c.loop-ticket.invariant.are) in
    record { value = (λ h. are, λ h. refl) }
