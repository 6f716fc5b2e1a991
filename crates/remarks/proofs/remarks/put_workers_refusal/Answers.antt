use Rattle.remarks.proofs.AddedLemmas.{adds_as, buffered}
use Rattle.remarks.proofs.remarks.put_workers_refusal.Goals as goal

pub returns : goal.returns
returns g c = adds_as c.put.result _ _ _ _ c.put.ensures (buffered _ _ _ _ c.new-said.ensures c.in_ok-explain_workers.ensures c.as_slice.ensures)
