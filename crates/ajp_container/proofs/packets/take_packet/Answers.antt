use Rattle.ajp_container.proofs.PacketLaws.{not-taken}
use Rattle.ajp_container.proofs.packets.take_packet.Goals as goal

pub returns-in-Err-clause-took : goal.returns-in-Err-clause-took
returns-in-Err-clause-took g c = λ place.
    let e = c.in-Err.ensures in
    rw c.stopped_as.ensures (not-taken c.args.most place _ _ c.in-Err.error e.packet e.same.0 e.end e.fault e.calm)
