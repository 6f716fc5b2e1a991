-- The new entries are told, and then the Book is given back.
use Rattle.std.proofs.Common.{◌∙◌, arith}
use Rattle.lb_passes.proofs.CountLaws.{counts}
use Rattle.lb_passes.proofs.TurnLaws.{ended_told, leaves_told}
use Rattle.lb_passes.proofs.turns.end_turn.Goals as goal

pub fetch_add-requires : goal.fetch_add-requires
fetch_add-requires c =
    let me = c.args.seat.now.me in
    let told = c.requires.told in
    (c.requires.of, omega (arith, c.args.book.now.words), counts _ _ _ me.0 me.1 _ c.args.added told.turn told.owns told.many told.mine told.history)

pub fetch_add-served-requires : goal.fetch_add-served-requires
fetch_add-served-requires c =
    let counted = c.fetch_add.ensures in
    (counted.0 ∙ c.requires.of, omega (arith, c.args.book.now.words), leaves_told _ _ _ c.args.added _ _ c.requires.told counted.2)

pub returns-clause-ended : goal.returns-clause-ended
returns-clause-ended c = ended_told c.args.added _ _ _ c.requires.told c.fetch_add.ensures.2 c.fetch_add-served.ensures.2
