use Rattle.std.proofs.Common.{arith}
use Rattle.plain_commands.proofs.TurnLemmas.{room_left}
use Rattle.plain_commands.proofs.turn.maintain.Goals as goal

pub unreachable-requires : goal.unreachable-requires
unreachable-requires c =
    let full = rw c.in-Err-Full.field-0-is at c.in-Err-Full.ensures.due in
    omega (arith, full.1, room_left c.args.book.now c.requires.played c.requires.few)
