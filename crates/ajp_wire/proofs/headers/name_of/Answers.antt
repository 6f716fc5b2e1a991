use Rattle.std.proofs.Common.{add-one, ◌∙◌, arith}
use Rattle.std.proofs.lemmas.Bool.{ne_eqb}
use Rattle.ajp_wire.proofs.HeaderLoop.{named_step}
use Rattle.ajp_wire.proofs.headers.name_of.Goals as goal

pub loop-name-preserved : goal.loop-name-preserved
loop-name-preserved c =
    (omega arith, rw (add-one c.loop-name.name-index) (named_step c.loop-name.at c.args.code c.args.table.now c.loop-name.name-index c.loop-name-test.true (ne_eqb _ _ c.if-at-code.false) ∙ c.loop-name.invariant.1))
