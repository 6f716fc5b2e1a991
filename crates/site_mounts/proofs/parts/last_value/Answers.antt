use Rattle.std.proofs.Common.{arith}
use Rattle.std.proofs.lemmas.List.{take_all}
use Rattle.site_mounts.proofs.PartLemmas.{last_step, or-now}
use Rattle.site_mounts.proofs.parts.last_value.Goals as goal

pub loop-part-preserved : goal.loop-part-preserved
loop-part-preserved c =
    rw (c.or-value.ensures, or-now) (last_step c.args.parts.now c.loop-part.part-index _ c.args.name.now _ _ c.loop-part-test.true c.value_of.ensures c.loop-part.invariant)

pub returns : goal.returns
returns c = rw (← take_all c.loop-part.part-index c.args.parts.now (omega arith)) c.loop-part.invariant
