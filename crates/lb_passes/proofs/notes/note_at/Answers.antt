-- A note copies what was seen.
use Rattle.std.proofs.Common.{arith}
use Rattle.lb_passes.proofs.JoinLaws.{notes}
use Rattle.lb_passes.proofs.notes.note_at.Goals as goal

pub split_seat-seat-requires : goal.split_seat-seat-requires
split_seat-seat-requires c = (c.requires.of, omega (arith, c.args.book.now.words), notes _ _ _ c.args.pass.now.idle.turn)
