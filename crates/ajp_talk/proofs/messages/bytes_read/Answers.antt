use Rattle.std.proofs.Common.{arith}
use Rattle.ajp_talk.proofs.messages.bytes_read.Goals as goal

pub overflow_add-result : goal.overflow_add-result
overflow_add-result c = let small = rw c.in-Ok.is at c.requires in omega (arith, small)
