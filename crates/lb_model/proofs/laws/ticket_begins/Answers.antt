use Rattle.std.proofs.Common.{reverse}
use Rattle.lb_model.proofs.TicketLaws.{begins_ticket}
use Rattle.lb_model.proofs.laws.ticket_begins.Goals as goal

pub returns : goal.returns
returns c = λ m t how probe chosen.
    begins_ticket c.args.rules c.args.opening.now (reverse c.args.past.now) c.args.entry.now m t how probe c.requires chosen
