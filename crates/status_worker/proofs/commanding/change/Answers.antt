-- A command was refused.
use Rattle.std.proofs.Common.{◌≡◌, Err}
use Rattle.std.proofs.lemmas.Result.{err_from_is_err_and}
use Rattle.status_worker.proofs.CommandLaws.{refused}
use Rattle.status_worker.proofs.DeskLaws.{untouched}
use Rattle.status_worker.proofs.commanding.change.Goals as goal

pub returns-in_err-do_work-clause-err : goal.returns-in_err-do_work-clause-err
returns-in_err-do_work-clause-err g c =
    let p = err_from_is_err_and c.from_residual-in_err-do_work.result c.from_residual-in_err-do_work.ensures.1 in
    let why = c.in_err-do_work.field-0.0 in
    let same : c.from_residual-in_err-do_work.result ≡ Err why = cc (p.1, p.2) in
    rw same (refused c.args.asked.now.cfg.now c.args.asked.now.session c.args.asked.now.status.now c.args.asked.now.query.now c.in_ok-work.work _ _ why c.in_ok-work.ensures.ok
    c.in_err-do_work.ensures.err)

pub returns-in_err-work-clause-kept : goal.returns-in_err-work-clause-kept
returns-in_err-work-clause-kept g c = untouched _ _
