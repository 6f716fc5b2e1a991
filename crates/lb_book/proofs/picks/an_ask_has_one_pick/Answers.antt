use Rattle.std.proofs.Common.{reverse}
use Rattle.lb_book.proofs.PickLaws.{pick_one}
use Rattle.lb_book.proofs.picks.an_ask_has_one_pick.Goals as goal

pub returns : goal.returns
returns c = pick_one c.args.rules c.args.opening.now (reverse c.args.past.now) c.args.ask.now c.args.one c.args.other c.requires.one c.requires.other
