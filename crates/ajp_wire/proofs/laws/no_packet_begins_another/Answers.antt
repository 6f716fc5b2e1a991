use Rattle.ajp_wire.proofs.PacketLaws.{packet-only}
use Rattle.ajp_wire.proofs.laws.no_packet_begins_another.Goals as goal

pub returns : goal.returns
returns c = packet-only
