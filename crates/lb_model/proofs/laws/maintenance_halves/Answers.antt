use Rattle.std.proofs.Common.{reverse}
use Rattle.lb_model.proofs.LoadLaws.{halves_loads}
use Rattle.lb_model.proofs.laws.maintenance_halves.Goals as goal

pub returns : goal.returns
returns c =
    halves_loads c.args.rules c.args.opening.now (reverse c.args.past.now) c.args.entry.now c.requires.kept c.requires.maintain
