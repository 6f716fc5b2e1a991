use Rattle.lb_model.proofs.TicketLaws.{halved-order, halved-twice}
use Rattle.lb_model.proofs.laws.halving_adds.Goals as goal

pub returns-clause-twice : goal.returns-clause-twice
returns-clause-twice c = halved-twice c.args.load c.args.first c.args.second

pub returns-clause-order : goal.returns-clause-order
returns-clause-order c = halved-order c.args.load c.args.other c.args.first
