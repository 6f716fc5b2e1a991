use Rattle.remarks.proofs.AddedLemmas.{adds_same, buffered}
use Rattle.remarks.proofs.notices.put_buffered.Goals as goal

pub returns : goal.returns
returns g c = record {
  added = adds_same c.put.result _ _ _ _ c.put.ensures.added (buffered _ _ _ _ c.clear.ensures c.in_ok-put_notice.ensures c.as_slice.ensures);
  cause = c.put.ensures.cause;
  steady = c.put.ensures.steady;
}
