-- Why no message came, by the error of the read or of the decoder.
use Rattle.ajp_wire.specs.declared.errors.PacketError.{PacketError}
use Rattle.ajp_wire.specs.declared.errors.PacketError.TheVariants as Read
use Rattle.ajp_wire.specs.declared.errors.DecodeError.{DecodeError}
use Rattle.ajp_wire.specs.declared.errors.DecodeError.TheVariants as Decode
use Rattle.ajp_talk.specs.declared.turn.Unheard.{Unheard}
use Rattle.ajp_talk.specs.declared.turn.Unheard.TheVariants as unheard_is

abbrev pub unheard : PacketError → Unheard
unheard (Read.End count) = unheard_is.Ended
unheard (Read.Short count) = unheard_is.Ended
unheard (Read.BadMagic count) = unheard_is.Wrong
unheard (Read.TooLong count) = unheard_is.Wrong
unheard (Read.Fault count) = unheard_is.Line
unheard (Read.NoMemory count) = unheard_is.NoMemory

abbrev pub undecoded : DecodeError → Unheard
undecoded Decode.NoMemory = unheard_is.NoMemory
undecoded (Decode.Short at) = unheard_is.Wrong
undecoded (Decode.BadCode at) = unheard_is.Wrong
undecoded (Decode.BadMark at) = unheard_is.Wrong
undecoded (Decode.BadBoolean at) = unheard_is.Wrong
undecoded (Decode.Extra at) = unheard_is.Wrong
undecoded (Decode.TooMany at) = unheard_is.Wrong
undecoded (Decode.Absent at) = unheard_is.Wrong
