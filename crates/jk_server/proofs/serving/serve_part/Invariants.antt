-- The clients so far were served, and the worker rested after each.
use Rattle.gear_parts.specs.Logs.{log_tells}
use Rattle.jk_server.specs.PartTells.{part_tells}
use Rattle.jk_server.specs.Turns.{KeepsTurning}
use Rattle.jk_server.proofs.serving.serve_part.Given as goal

abbrev pub invariant-clients : goal.invariant-clients
invariant-clients g l =
    KeepsTurning (part_tells g.D.Door g.D.L.Meanings g.D.L.Link.heard g.K.Clock g.R.Meanings g.R.Link.heard g.R.Reach.looks g.S.Shelf (log_tells g.Y.RowSink.gained g.Y.WorkerLog.greets g.Y.WorkerLog.broken_by g.Y.WorkerLog.log_faults) g.D.L.Link.may_wait)
    l.cfg l.map l.number l.initial.part l.part l.sessions
