use Rattle.std.proofs.Common.{length, ap, arith}
use Rattle.ajp_container.proofs.SlotLaws.{run_kept, run_served, written_back}
use Rattle.ajp_container.proofs.workers.run_in.Goals as goal

pub returns : goal.returns
returns g c =
    let same = ap length c.as_mut_slice.ensures.value in
    let len = c.serve_all.ensures.len in
    let whole = c.fill_slots.new.slots.ok.0 in
    let written = written_back _ _ _ (omega (arith, same, len, whole)) in
    record {
      served =
          run_served _ _ _ _ _ _ _ _ _ _ _ _ c.fill_slots.ensures c.as_mut_slice.ensures.value written
          c.end_of.ensures.back c.end_of.ensures.workers len c.serve_all.ensures.served;
      kept =
          run_kept _ _ _ _ _ _ _ _ _ _ _ c.fill_slots.ensures c.as_mut_slice.ensures.value written
          c.end_of.ensures.back len c.serve_all.ensures.served;
    }
