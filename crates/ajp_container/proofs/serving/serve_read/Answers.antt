use Rattle.std.proofs.lemmas.Result.{err_from_is_err_and}
use Rattle.ajp_container.proofs.TurnLaws.{turn-unread, request-taken}
use Rattle.ajp_container.proofs.serving.serve_read.Goals as goal

pub returns-in_err-forward-clause-took : goal.returns-in_err-forward-clause-took
returns-in_err-forward-clause-took g c = λ before taken.
    let p = err_from_is_err_and c.from_residual.result c.from_residual.ensures.1 in
    rw (p.1, p.2) (turn-unread _ _ _ _ _ taken c.requires c.in_err-forward.ensures)

pub returns-clause-took : goal.returns-clause-took
returns-clause-took g c = λ before taken.
    rw c.turn_served.ensures (request-taken _ _ _ _ _ _ c.serve_request.result taken c.in_ok-forward.ensures c.serve_request.ensures.served)
