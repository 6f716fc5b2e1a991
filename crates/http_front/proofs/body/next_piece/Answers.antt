-- Where memory is wanted nothing was used.
use Rattle.std.proofs.Common.{[], arith}
use Rattle.http_front.proofs.BodyLemmas.{Uses-nil}
use Rattle.http_front.proofs.body.next_piece.Goals as goal

pub returns-in-Err-clause-err : goal.returns-in-Err-clause-err
returns-in-Err-clause-err g c = record { breaks = record { place = c.args.start.place; data' = []; uses = Uses-nil _ c.args.start.place; meets = tt; stays = tt }; below = omega arith }
