use Rattle.std.proofs.Common.{arith}
use Rattle.ajp_reply.proofs.ReplyLaws.{message_takes, spelled-writable, told-wanted, memory_taken, halted-none}
use Rattle.ajp_reply.proofs.RefusalLaws.{reply-refused}
use Rattle.ajp_reply.proofs.decoding.decode_reply.Goals as goal

pub returns-in-Ok-clause-found : goal.returns-in-Ok-clause-found
returns-in-Ok-clause-found c = message_takes c.args.payload.now c.in-Ok.message (λ i. omega (arith, c.type_inv.payload i)) c.in-Ok.ensures.read

pub returns-in-Ok-clause-written : goal.returns-in-Ok-clause-written
returns-in-Ok-clause-written c =
    spelled-writable c.in-Ok.message c.args.payload.now (message_takes c.args.payload.now c.in-Ok.message (λ i. omega (arith, c.type_inv.payload i)) c.in-Ok.ensures.read)

pub returns-in-Err-clause-none : goal.returns-in-Err-clause-none
returns-in-Err-clause-none c = halted-none c.in-Err.stop _ c.told.result c.args.payload.now c.in-Err.ensures.read c.told.ensures

pub returns-in-Err-clause-refused : goal.returns-in-Err-clause-refused
returns-in-Err-clause-refused c =
    rw c.told.ensures (reply-refused c.args.payload.now c.in-Err.stop (λ i. omega (arith, c.type_inv.payload i)) c.in-Err.ensures.read)

pub returns-in-Err-clause-wanted : goal.returns-in-Err-clause-wanted
returns-in-Err-clause-wanted c = λ e.
    memory_taken c.args.payload.now (λ i. omega (arith, c.type_inv.payload i)) (c.in-Err.ensures.wanted (told-wanted c.in-Err.stop _ c.told.result c.told.ensures e))
