use Rattle.std.proofs.Common.{reverse}
use Rattle.lb_model.proofs.TicketLaws.{not_out_again, stays_out}
use Rattle.lb_model.proofs.laws.ticket_ends.Goals as goal

pub returns-clause-stays : goal.returns-clause-stays
returns-clause-stays c = stays_out c.args.opening.now (reverse c.args.past.now) c.args.entry.now c.args.ticket

pub returns-clause-ends : goal.returns-clause-ends
returns-clause-ends c =
    not_out_again c.args.opening.now (reverse c.args.later.now) c.args.entry.now (reverse c.args.past.now) c.args.ticket
