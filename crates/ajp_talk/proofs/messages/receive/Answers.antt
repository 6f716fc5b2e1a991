-- A read gives a message, or why there is none.
use Rattle.std.proofs.Common.{refl, ap, Err}
use Rattle.ajp_wire.specs.Moments.{link_at}
use Rattle.ajp_wire.specs.Packet.{read_into}
use Rattle.ajp_talk.proofs.HearingLaws.{narrow, too_long-from, undecoded-from}
use Rattle.ajp_talk.proofs.messages.receive.Goals as goal

pub bytes_read-requires : goal.bytes_read-requires
bytes_read-requires g c =
    rw c.as_slice.ensures.value
    (narrow c.args.packet
    (link_at g.L.Meanings c.args.line.now)
    (link_at g.L.Meanings c.read_packet_into-answer.new.line)
    (read_into c.read_packet_into-answer.result c.read_packet_into-answer.new.payload.items) c.read_packet_into-answer.ensures.packet)

pub returns-then-count-most-clause-unheard : goal.returns-then-count-most-clause-unheard
returns-then-count-most-clause-unheard g c =
    let e = c.read_packet_into-answer.ensures in
    too_long-from _ _ _ c.args.most (read_into c.read_packet_into-answer.result c.read_packet_into-answer.new.payload.items) c.args.count.now c.saturating_add.result _
    e.packet (rw c.as_slice.ensures.value at c.bytes_read.ensures.value) c.bytes_read.ensures.small c.saturating_add.ensures e.same.0 e.no_fewer c.if-count-most.true

pub returns-in-Err-take_reply-clause-unheard : goal.returns-in-Err-take_reply-clause-unheard
returns-in-Err-take_reply-clause-unheard g c =
    let e = c.read_packet_into-answer.ensures in
    rw c.undecoded.ensures
    (undecoded-from _ _ _ _ _ _ _ _ _ (rw c.in-Ok.is at e.packet) (rw (c.in-Ok.is, c.as_slice.ensures.value) at c.bytes_read.ensures.value) c.bytes_read.ensures.small c.saturating_add.ensures
    e.same.0 e.no_fewer c.if-count-most.false c.in-Err-take_reply.ensures.none (λ is. c.in-Err-take_reply.ensures.wanted (ap Err is)) (e.steady (rw c.in-Ok.is refl)))
