use Rattle.std.proofs.Common.{reverse}
use Rattle.lb_model.proofs.TicketLaws.{units-epoch}
use Rattle.lb_model.proofs.laws.epoch_adds_up.Goals as goal

pub returns : goal.returns
returns c = units-epoch c.args.rules c.args.opening.now (reverse c.args.past.now) c.args.member c.requires
