use Rattle.remarks.proofs.AddedLemmas.{adds_same, sink_adds}
use Rattle.remarks.proofs.remark_out.write_held.Goals as goal

pub returns-clause-sent : goal.returns-clause-sent
returns-clause-sent g c =
    adds_same c.write_all-written.result _ _ _ _ (sink_adds c.write_all-written.result _ _ _ c.write_all-written.ensures.put c.write_all-written.ensures.front) c.as_slice.ensures
