use Rattle.std.proofs.lemmas.Result.{err_from_is_err_and}
use Rattle.ajp_container.specs.Ends.{Between}
use Rattle.ajp_container.proofs.TurnLaws.{turn-untaken}
use Rattle.ajp_container.proofs.serving.serve_turn.Goals as goal

pub returns-in_err-payload-clause-took : goal.returns-in_err-payload-clause-took
returns-in_err-payload-clause-took g c =
    let p = err_from_is_err_and c.from_residual.result c.from_residual.ensures.1 in
    rw (p.1, p.2) (turn-untaken _ _ _ _ (c.in_err-payload.ensures.took Between))

pub returns-clause-took : goal.returns-clause-took
returns-clause-took g c = c.serve_taken.ensures.took _ (rw c.as_slice.ensures (c.in_ok-payload.ensures.took Between))
