-- A chunk that was cut out of its payload is the one that the payload spells.
use Rattle.std.proofs.Common.{take, drop, arith, inl, inr}
use Rattle.ajp_reply.specs.declared.message.Message.TheVariants.{Chunk}
use Rattle.ajp_reply.proofs.ReplyLaws.{are-bytes, message_takes}
use Rattle.ajp_reply.proofs.decoding.take_reply.Goals as goal

pub returns-in-Some-clause-found : goal.returns-in-Some-clause-found
returns-in-Some-clause-found c =
    let payload = c.args.payload.now.items in
    rw c.cut_out.ensures.value
    (message_takes payload (Chunk (take c.in-Some.len (drop 3 payload))) (are-bytes payload (λ i within. omega (arith, within, c.type_inv.payload i)))
    (rw c.as_slice.ensures.value at c.in-Some.ensures.chunk))

pub returns-in-None-clause-wanted : goal.returns-in-None-clause-wanted
returns-in-None-clause-wanted c = λ e.
    elim ((rw c.as_slice-in-None.ensures.value at c.decode_reply.ensures.wanted) e) [
      | inl head ↦ head
      | inr chunk ↦ absurd ((rw c.as_slice.ensures.value at c.in-None.ensures.none) chunk.0 chunk.1)
    ]
