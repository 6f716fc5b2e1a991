-- The command may be done, or it is a change of a read-only worker.
use Rattle.std.proofs.Common.{sym, ◌∙◌}
use Rattle.status_worker.proofs.AskLaws.{all_within, asks_by, forbidden, none_named}
use Rattle.status_worker.proofs.asking.work_by.Goals as goal

pub returns-then-is_forbidden-clause-err : goal.returns-then-is_forbidden-clause-err
returns-then-is_forbidden-clause-err c = forbidden c.args.cfg.now c.args.status.now c.args.command.now (sym c.is_forbidden.ensures ∙ c.if-is_forbidden.true)

pub returns-clause-ok : goal.returns-clause-ok
returns-clause-ok c = asks_by c.args.cfg.now c.args.status.now c.args.command.now _ (sym c.is_forbidden.ensures ∙ c.if-is_forbidden.false) c.work_for.ensures.ok

pub returns-clause-within : goal.returns-clause-within
returns-clause-within c = all_within _ c.args.command.now _ c.work_for.ensures.ok

pub returns-clause-err : goal.returns-clause-err
returns-clause-err c = none_named c.args.cfg.now c.args.status.now c.args.command.now _ (sym c.is_forbidden.ensures ∙ c.if-is_forbidden.false) c.work_for.ensures.err
