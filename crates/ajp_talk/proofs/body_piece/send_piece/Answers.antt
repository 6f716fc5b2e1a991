-- The packet was sent, or memory was wanted for it, and nothing was sent.
use Rattle.ajp_wire.specs.Packet.{body_packet}
use Rattle.ajp_wire.specs.Moments.{link_at}
use Rattle.ajp_talk.proofs.SendingLaws.{unsent}
use Rattle.ajp_talk.proofs.body_piece.send_piece.Goals as goal

pub returns-in-Err-clause-sent : goal.returns-in-Err-clause-sent
returns-in-Err-clause-sent g c = unsent (link_at g.L.Meanings c.args.line.now) c.args.sent.now (body_packet c.args.piece.now)

pub returns-in-Ok-clause-sent : goal.returns-in-Ok-clause-sent
returns-in-Ok-clause-sent g c = rw (c.as_slice.ensures, c.in-Ok.ensures) at c.send.ensures.sent
