-- A closed status worker refuses, and an open one goes by the query.
use Rattle.std.proofs.Common.{inl, refl}
use Rattle.status_worker.proofs.AskLaws.{open_asks, open_refuses}
use Rattle.status_worker.proofs.asking.work_of.Goals as goal

pub returns-then-status-clause-err : goal.returns-then-status-clause-err
returns-then-status-clause-err c = inl (refl, c.if-status.true)

pub returns-clause-ok : goal.returns-clause-ok
returns-clause-ok c = open_asks c.args.cfg.now c.args.status.now c.args.query.now c.open_work.result c.if-status.false c.open_work.ensures.ok

pub returns-clause-err : goal.returns-clause-err
returns-clause-err c = open_refuses c.args.cfg.now c.args.status.now c.args.query.now c.open_work.result c.if-status.false c.open_work.ensures.err
