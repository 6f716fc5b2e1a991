use Rattle.std.proofs.lemmas.Result.{err_from_is_err_and}
use Rattle.ajp_container.proofs.body.take_rest.Goals as goal

pub returns-in_err-add_rest-clause-took : goal.returns-in_err-add_rest-clause-took
returns-in_err-add_rest-clause-took g c =
    let p = err_from_is_err_and c.from_residual.result c.from_residual.ensures.1 in
    rw (p.1, p.2) c.in_err-add_rest.ensures.took
