use Rattle.std.proofs.Common.{reverse}
use Rattle.lb_model.proofs.StateLaws.{last_touch}
use Rattle.lb_model.proofs.laws.state_is_the_last_touch.Goals as goal

pub returns : goal.returns
returns c =
    last_touch c.args.rules c.args.opening.now (reverse c.args.later.now) c.args.entry.now (reverse c.args.past.now) c.args.member
    c.requires.legal c.requires.untouched c.requires.touched
