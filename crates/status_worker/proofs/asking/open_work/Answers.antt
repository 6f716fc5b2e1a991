-- The work of the command is that of the query.
use Rattle.status_worker.proofs.AskLaws.{asks, refused}
use Rattle.status_worker.proofs.asking.open_work.Goals as goal

pub returns-clause-ok : goal.returns-clause-ok
returns-clause-ok c = asks c.args.cfg.now c.args.status.now c.args.query.now c.in_ok-command.command _ c.in_ok-command.ensures.ok c.work_by.ensures.ok

pub returns-clause-err : goal.returns-clause-err
returns-clause-err c = refused c.args.cfg.now c.args.status.now c.args.query.now c.in_ok-command.command _ c.in_ok-command.ensures.ok c.work_by.ensures.err
