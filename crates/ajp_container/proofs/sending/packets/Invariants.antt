use Rattle.std.proofs.Common.{◌≡◌, ◌++◌, drop}
use Rattle.ajp_container.specs.Answer.{bytes_of}
use Rattle.ajp_container.proofs.sending.packets.Given as goal

-- the bytes so far, and those of the messages that are left
abbrev pub invariant-loop-message : goal.invariant-loop-message
invariant-loop-message l = l.bytes ++ bytes_of (drop l.message-index l.messages) ≡ bytes_of l.messages
