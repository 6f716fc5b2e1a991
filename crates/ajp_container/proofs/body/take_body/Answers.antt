use Rattle.std.proofs.Common.{sym, ◌∙◌}
use Rattle.std.proofs.lemmas.Result.{err_from_is_err_and}
use Rattle.ajp_container.proofs.BodyLaws.{first-failed, first-alone, body-taken}
use Rattle.ajp_container.proofs.body.take_body.Goals as goal

pub returns-in_err-first-clause-took : goal.returns-in_err-first-clause-took
returns-in_err-first-clause-took g c =
    let p = err_from_is_err_and c.from_residual.result c.from_residual.ensures.1 in
    rw (p.1, p.2) (first-failed _ _ _ _ _ c.in_err-first.ensures.took.0 c.in_err-first.ensures.took.1)

pub returns-then-not-asks_body-clause-took : goal.returns-then-not-asks_body-clause-took
returns-then-not-asks_body-clause-took g c = first-alone _ _ _ _ _ c.in_ok-first.ensures.took (sym c.asks_body.ensures ∙ c.if-not-asks_body.true)

pub returns-clause-took : goal.returns-clause-took
returns-clause-took g c = body-taken _ _ _ _ _ _ _ c.in_ok-first.ensures.took c.take_rest.ensures.took
