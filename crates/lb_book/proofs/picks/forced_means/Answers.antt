use Rattle.std.proofs.Common.{reverse}
use Rattle.lb_book.proofs.PickLaws.{forced_means}
use Rattle.lb_book.proofs.picks.forced_means.Goals as goal

pub returns : goal.returns
returns c = forced_means c.args.rules c.args.opening.now (reverse c.args.past.now) c.args.ask.now
