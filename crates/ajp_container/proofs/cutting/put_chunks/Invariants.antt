use Rattle.std.proofs.Common.{◌≡◌, ◌++◌, map, length}
use Rattle.ajp_reply.specs.declared.message.Message.TheVariants.{Chunk}
use Rattle.ajp_container.specs.Answer.{cut}
use Rattle.ajp_container.proofs.cutting.put_chunks.Given as goal

-- the chunks so far, and those of what is left
abbrev pub invariant-loop-rest : goal.invariant-loop-rest
invariant-loop-rest l = l.messages ++ map Chunk (cut l.size l.rest) ≡ l.initial.messages ++ map Chunk (cut l.size l.body)

abbrev pub decreases-loop-rest : goal.decreases-loop-rest
decreases-loop-rest l = length l.rest
