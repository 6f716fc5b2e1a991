-- Why no packet was taken, by the answer of its read.
use Rattle.std.proofs.Common.{◌≡◌, ℕ, false, Err, refl, inl}
use Rattle.std.specs.Prelude.{IsTrue}
use Rattle.jk_io.specs.Told.{IsEmpty, Rose}
use Rattle.jk_io.specs.Moments.{Moment}
use Rattle.ajp_wire.specs.Packet.{ReadsPacket, says_end, says_fault, says_calm}
use Rattle.ajp_wire.specs.declared.errors.PacketError.{PacketError}
use Rattle.ajp_wire.specs.declared.errors.PacketError.TheVariants as packets
use Rattle.ajp_container.specs.Ends.{TurnPlace}
use Rattle.ajp_container.specs.Steps.{NotTaken, stop_missed}

pub not-taken : (most : ℕ) (place : TurnPlace) (before after : Moment) (error : PacketError) → ReadsPacket false most (Err error) before after → after.sent ≡ before.sent
    → (IsTrue (says_end error) → IsEmpty after.incoming) → (IsTrue (says_fault error) → Rose before.faults after.faults)
    → (IsTrue (says_calm error) → after.faults ≡ before.faults) → NotTaken most place before after (stop_missed error)
not-taken most place before after (packets.End count) read sent end fault calm = record { bytes = read.bytes; comes = read.came; sent = sent; why = (read.are, end refl) }
not-taken most place before after (packets.Short count) read sent end fault calm = record { bytes = read.bytes; comes = read.came; sent = sent; why = (read.are.0, read.are.1, end refl) }
not-taken most place before after (packets.BadMagic count) read sent end fault calm = record { bytes = read.bytes; comes = read.came; sent = sent; why = read.are }
not-taken most place before after (packets.TooLong count) read sent end fault calm = record { bytes = read.bytes; comes = read.came; sent = sent; why = read.are }
not-taken most place before after (packets.Fault count) read sent end fault calm = record { bytes = read.bytes; comes = read.came; sent = sent; why = (fault refl, read.are) }
not-taken most place before after (packets.NoMemory count) read sent end fault calm = record { bytes = read.bytes; comes = read.came; sent = sent; why = (inl read.are, calm refl) }
