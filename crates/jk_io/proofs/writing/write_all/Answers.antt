-- The counted bytes are a front of the piece.
use Rattle.std.proofs.Common.{rules}
use Rattle.jk_io.proofs.ToldLaws.{taken_put}
use Rattle.jk_io.proofs.writing.write_all.Goals as goal

pub returns-clause-front : goal.returns-clause-front
returns-clause-front g c =
    let front = taken_put _ _ c.args.piece.now _ c.write_counted.ensures.put in search rules
