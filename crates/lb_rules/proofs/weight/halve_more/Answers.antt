use Rattle.std.proofs.Common.{◌+◌, arith}
use Rattle.std.proofs.lemmas.List.{length-map}
use Rattle.lb_rules.specs.Kept.{settled}
use Rattle.lb_rules.proofs.IndexLaws.{more_halvings, settled_halvings, settled_stamps, stamps_later}
use Rattle.lb_rules.proofs.weight.halve_more.Goals as goal

pub returns-then-fits-clause-weights : goal.returns-then-fits-clause-weights
returns-then-fits-clause-weights c = more_halvings c.args.kept.now c.args.halvings c.args.times c.requires

pub returns-then-fits-clause-stamped : goal.returns-then-fits-clause-stamped
returns-then-fits-clause-stamped c =
    stamps_later c.args.kept.now c.args.halvings (c.args.halvings + c.args.times) (omega arith) c.requires

pub returns-else-fits-clause-weights : goal.returns-else-fits-clause-weights
returns-else-fits-clause-weights c =
    rw c.settle.ensures (settled_halvings c.args.kept.now c.args.halvings c.args.times)

pub returns-else-fits-clause-stamped : goal.returns-else-fits-clause-stamped
returns-else-fits-clause-stamped c =
    rw c.settle.ensures (settled_stamps c.args.kept.now c.args.halvings c.args.times)

pub returns-else-fits-clause-len : goal.returns-else-fits-clause-len
returns-else-fits-clause-len c = rw c.settle.ensures (length-map c.args.kept.now (settled c.args.halvings))
