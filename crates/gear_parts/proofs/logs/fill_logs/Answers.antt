use Rattle.std.proofs.Common.{◌∙◌, refl, arith}
use Rattle.std.proofs.lemmas.Result.{IfOk-from_err, err_from_is_err_and}
use Rattle.gear_parts.proofs.LogLaws.{no_log_yet, log_on}
use Rattle.gear_parts.proofs.WorldLaws.{cause_on, no_cause}
use Rattle.gear_parts.proofs.logs.fill_logs.Goals as goal

pub logs-init : goal.logs-init
logs-init g c = record {
  suited = no_log_yet _ _ (omega (arith, c.requires.none, c.args.logs.now.ok.0));
  count = c.requires.none;
  same = (refl, refl, refl);
  steady = refl;
  unshown = refl;
  room = c.requires.room;
}

pub logs-preserved : goal.logs-preserved
logs-preserved g c =
    let same = c.in_ok-take_log.ensures.same in record {
      suited = log_on _ _ _ _ c.logs.invariant.suited (omega (arith, c.logs.invariant.count, c.logs.logs.ok.0)) c.in_ok-take_log.ensures.ok;
      count = omega (arith, c.logs.invariant.count, c.in_ok-take_log.ensures.room.0);
      same = (same.0 ∙ c.logs.invariant.same.0, same.1 ∙ c.logs.invariant.same.1, same.2 ∙ c.logs.invariant.same.2);
      steady = c.in_ok-take_log.ensures.counts.steady refl ∙ c.logs.invariant.steady;
      unshown = c.in_ok-take_log.ensures.unshown ∙ c.logs.invariant.unshown;
      room = omega (arith, c.logs.invariant.room, c.in_ok-take_log.ensures.room.1);
    }

pub returns-in_err-take_log-clause-count : goal.returns-in_err-take_log-clause-count
returns-in_err-take_log-clause-count g c = IfOk-from_err c.from_residual.result _ c.from_residual.ensures.0

pub returns-in_err-take_log-clause-suited : goal.returns-in_err-take_log-clause-suited
returns-in_err-take_log-clause-suited g c = IfOk-from_err c.from_residual.result _ c.from_residual.ensures.0

pub returns-in_err-take_log-clause-same : goal.returns-in_err-take_log-clause-same
returns-in_err-take_log-clause-same g c =
    let same = c.in_err-take_log.ensures.same in
    (same.0 ∙ c.logs.invariant.same.0, same.1 ∙ c.logs.invariant.same.1, same.2 ∙ c.logs.invariant.same.2)

pub returns-in_err-take_log-clause-counts : goal.returns-in_err-take_log-clause-counts
returns-in_err-take_log-clause-counts g c =
    let p = err_from_is_err_and c.from_residual.result c.from_residual.ensures.1 in
    rw (p.1, p.2)
    (record {
      cause = cause_on _ _ _ c.in_err-take_log.field-0.0 c.logs.invariant.steady c.in_err-take_log.ensures.counts.cause;
      steady = λ no. absurd cc;
    })

pub returns-clause-suited : goal.returns-clause-suited
returns-clause-suited g c = c.logs.invariant.suited

pub returns-clause-same : goal.returns-clause-same
returns-clause-same g c = c.logs.invariant.same

pub returns-clause-counts : goal.returns-clause-counts
returns-clause-counts g c = record { cause = no_cause _ _ _ c.logs.invariant.steady; steady = λ _. c.logs.invariant.steady }
