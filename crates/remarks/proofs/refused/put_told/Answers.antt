use Rattle.remarks.proofs.AddedLemmas.{adds_as, buffered}
use Rattle.remarks.proofs.refused.put_told.Goals as goal

pub returns : goal.returns
returns g c = adds_as c.put.result _ _ _ _ c.put.ensures (buffered _ _ _ _ c.clear.ensures c.in_ok-put_said.ensures c.as_slice.ensures)
