-- The note is joined, and then both are put together.
use Rattle.std.proofs.Common.{◌∙◌, arith}
use Rattle.lb_passes.proofs.JoinLaws.{joins}
use Rattle.lb_passes.proofs.NoteLaws.{meets_of, together_joined}
use Rattle.lb_passes.proofs.notes.meet_at.Goals as goal

pub join_seat-requires : goal.join_seat-requires
join_seat-requires c = (
  c.requires.of,
  c.requires.note ∙ c.requires.of,
  c.args.note.noted.empty,
  omega (arith, c.args.book.now.words),
  joins _ _ _ _ _ c.args.pass.now.idle.turn c.args.note.noted.turn,
)

pub load-requires : goal.load-requires
load-requires c = (
  c.join_seat.ensures.0 ∙ c.requires.of,
  omega (arith, c.args.book.now.words),
  together_joined _ _ _ c.args.pass.now.seat.me c.args.note.seat.me c.join_seat.new.seat.me c.args.pass.now.idle c.join_seat.ensures.2,
)

pub returns-clause-meets : goal.returns-clause-meets
returns-clause-meets c =
    meets_of _ c.args.pass.now.seat.me c.args.note.seat.me c.join_seat.new.seat.me c.load.new.seat.me _ c.args.pass.now.idle c.args.note.noted c.join_seat.ensures.2 c.load.ensures.2
