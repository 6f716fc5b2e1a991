use Rattle.std.proofs.Common.{sym, ◌∙◌, arith}
use Rattle.ajp_wire.proofs.NameLaws.{code_from-found, code_from-next}
use Rattle.ajp_wire.proofs.names.code_of.Goals as goal

pub returns-then-is_same_name : goal.returns-then-is_same_name
returns-then-is_same_name c =
    sym (code_from-found c.args.table.now c.loop-known.known-index c.loop-known.code c.args.name.now _ c.loop-known-test.true (sym c.if-is_same_name.ensures))
    ∙ c.loop-known.invariant.1

pub loop-known-preserved : goal.loop-known-preserved
loop-known-preserved c =
    (omega arith, sym (code_from-next c.args.table.now c.loop-known.known-index c.loop-known.code c.args.name.now _ c.loop-known-test.true (sym c.if-is_same_name.ensures)) ∙ c.loop-known.invariant.1)
