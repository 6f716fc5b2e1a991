-- Both are idle.
use Rattle.std.proofs.Common.{arith}
use Rattle.lb_passes.proofs.JoinLaws.{joins}
use Rattle.lb_passes.proofs.closing.join_pass.Goals as goal

pub join_seat-requires : goal.join_seat-requires
join_seat-requires c =
    (c.requires.pass, c.requires.of, c.requires.joiner.empty, omega (arith, c.args.book.now.words), joins _ _ _ _ _ c.args.pass.idle.turn c.requires.joiner.turn)

pub join_seat-requires-else-number-eq0 : goal.join_seat-requires-else-number-eq0
join_seat-requires-else-number-eq0 c =
    (c.requires.of, c.requires.pass, c.args.pass.idle.empty, omega (arith, c.args.book.now.words), joins _ _ _ _ _ c.requires.joiner.turn c.args.pass.idle.turn)
