-- The bytes were delivered, or their delivery broke off.
use Rattle.client_session.proofs.WritingLaws.{part_broken, part_written}
use Rattle.client_session.proofs.writing.send.Goals as goal

pub returns-in-Ok : goal.returns-in-Ok
returns-in-Ok g c = record {
  step = part_written _ _ _ (record {}) c.in-Ok.ensures.delivered;
  kept = record { beside = c.deliver.ensures.beside; no_fewer = c.deliver.ensures.no_fewer };
}

pub returns-in-Err : goal.returns-in-Err
returns-in-Err g c = record {
  step = rw c.stop_of.ensures (part_broken (Unit {0}) _ _ _ c.in-Err.error c.deliver.ensures.no_fewer c.in-Err.ensures.delivered);
  kept = record { beside = c.deliver.ensures.beside; no_fewer = c.deliver.ensures.no_fewer };
}
