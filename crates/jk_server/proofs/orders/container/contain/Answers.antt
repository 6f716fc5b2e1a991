use Rattle.gear_parts.specs.Wants.{wants_of}
use Rattle.jk_server.proofs.CommandLaws.{contains_none}
use Rattle.jk_server.proofs.orders.container.contain.Goals as goal

pub returns-in-Err : goal.returns-in-Err
returns-in-Err g c = record {
  contains = contains_none _ c.args.order.route.now c.args.order.threads (wants_of c.args.order.asked) _ c.requires.short;
}
