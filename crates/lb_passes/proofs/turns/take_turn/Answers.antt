-- A turn is drawn, and then looked for until it has come.
use Rattle.std.proofs.Common.{◌∙◌, arith}
use Rattle.lb_passes.proofs.DrawLaws.{draws}
use Rattle.lb_passes.proofs.TurnLaws.{came_drawn, polls_drawn}
use Rattle.lb_passes.proofs.turns.take_turn.Goals as goal

pub fetch_add-turn-requires : goal.fetch_add-turn-requires
fetch_add-turn-requires g c =
    let me = c.args.seat.now.me in
    (c.requires.of, omega (arith, c.args.book.now.words), draws _ _ _ me.0 me.1 _ c.requires.idle.turn c.requires.idle.owns)

pub load-served-requires : goal.load-served-requires
load-served-requires g c =
    let i = c.loop.invariant in
    (i.0 ∙ c.requires.of, omega (arith, c.args.book.now.words), polls_drawn _ _ _ _ _ _ _ i.1)

pub returns-then-served-turn-clause-came : goal.returns-then-served-turn-clause-came
returns-then-served-turn-clause-came g c =
    came_drawn _ _ _ _ _ _ _ c.loop.invariant.1 c.load-served.ensures.2 c.if-served-turn.true
