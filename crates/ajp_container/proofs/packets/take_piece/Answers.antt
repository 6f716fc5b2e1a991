use Rattle.std.proofs.lemmas.Result.{err_from_is_err_and}
use Rattle.ajp_container.specs.Ends.{Within}
use Rattle.ajp_container.proofs.StepLaws.{piece-refused, packet-unkept, piece-took}
use Rattle.ajp_container.proofs.packets.take_piece.Goals as goal

pub returns-in_default-clause-took : goal.returns-in_default-clause-took
returns-in_default-clause-took g c =
    piece-refused _ _ _ _ (c.in_ok-payload.ensures.took Within) (rw c.as_slice.ensures at c.in_default.ensures.none)

pub returns-in_err-extend-clause-took : goal.returns-in_err-extend-clause-took
returns-in_err-extend-clause-took g c =
    let p = err_from_is_err_and c.from_residual-in_err-extend.result c.from_residual-in_err-extend.ensures.1 in
    rw (p.1, p.2) (packet-unkept _ Within _ _ _ (c.in_ok-payload.ensures.took Within))

pub returns-clause-took : goal.returns-clause-took
returns-clause-took g c =
    piece-took _ _ _ _ _ _ _ (c.in_ok-payload.ensures.took Within) (rw c.as_slice.ensures at c.in-Some.ensures.some) c.in_ok-extend.ensures.ok
