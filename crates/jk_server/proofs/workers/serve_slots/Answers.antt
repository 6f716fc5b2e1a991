use Rattle.std.proofs.Common.{sym}
use Rattle.gear_parts.specs.Logs.{log_tells}
use Rattle.gear_parts.specs.declared.part.Part.{Part}
use Rattle.jk_server.specs.Parts.{WorksSlot}
use Rattle.jk_server.specs.PartTells.{part_tells}
use Rattle.jk_server.specs.Worker.{MayBegin}
use Rattle.jk_server.specs.declared.workers.Slot.{Slot}
use Rattle.gear_parts.proofs.ListLaws.{few_so}
use Rattle.jk_server.proofs.SlotLaws.{as_long_back, done_back, may_work}
use Rattle.jk_server.proofs.workers.serve_slots.Goals as goal

pub work_in_all-requires-clause-may : goal.work_in_all-requires-clause-may
work_in_all-requires-clause-may g c = λ κs within.
    may_work {Q = Slot (Part g.row.L.Denot g.row.D.Denot g.row.R.Denot g.row.K.Denot g.row.S.Denot g.row.W.Denot g.row.Y.Denot) g.row.L.Denot}
    (λ s. MayBegin c.args.cfg.now c.args.map.now s.part.desk.desk (g.R.Meanings.beside s.part.reach) (g.Y.WorkerLog.broken_by s.part.log)) _ _ _
    c.as_mut_slice.ensures.value (few_so _ _ _ (sym c.args.slots.now.ok.0) c.requires.few) c.requires.ready

pub returns : goal.returns
returns g c =
    let told = part_tells g.D.Door g.D.L.Meanings g.D.L.Link.heard g.K.Clock g.R.Meanings g.R.Link.heard g.R.Reach.looks g.S.Shelf (log_tells g.Y.RowSink.gained g.Y.WorkerLog.greets g.Y.WorkerLog.broken_by g.Y.WorkerLog.log_faults) g.D.L.Link.may_wait in
    record {
      served =
          done_back {Q = Slot (Part g.row.L.Denot g.row.D.Denot g.row.R.Denot g.row.K.Denot g.row.S.Denot g.row.W.Denot g.row.Y.Denot) g.row.L.Denot}
          (λ n a b. WorksSlot told c.args.cfg.now c.args.map.now n a b) c.args.slots.now.items _ c.work_in_all.new.slots _ c.as_mut_slice.ensures.value
          (as_long_back _ _ _ c.work_in_all.new.slots _ c.args.slots.now.ok.0 c.as_mut_slice.ensures.value c.work_in_all.ensures.len)
          c.work_in_all.ensures.len c.work_in_all.ensures.worked;
    }
