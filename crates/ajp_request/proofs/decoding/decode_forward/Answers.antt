use Rattle.std.proofs.Common.{length, arith}
use Rattle.ajp_request.proofs.ForwardLaws.{forward_takes, refused_spells_none}
use Rattle.ajp_request.proofs.ReadableLaws.{is_readable}
use Rattle.ajp_request.proofs.RefusalLaws.{request_refused}
use Rattle.ajp_request.proofs.decoding.decode_forward.Goals as goal

pub returns-in-Ok-clause-found : goal.returns-in-Ok-clause-found
returns-in-Ok-clause-found c = forward_takes c.args.payload.now c.in-Ok.forward (λ i. omega (arith, c.type_inv.payload i)) c.in-Ok.ensures

pub returns-in-Err-clause-none : goal.returns-in-Err-clause-none
returns-in-Err-clause-none c = refused_spells_none c.in-Err.stop (length c.args.payload.now) c.told.result c.args.payload.now c.in-Err.ensures c.told.ensures

pub returns-in-Ok-clause-written : goal.returns-in-Ok-clause-written
returns-in-Ok-clause-written c = is_readable c.in-Ok.forward c.args.payload.now (forward_takes c.args.payload.now c.in-Ok.forward (λ i. omega (arith, c.type_inv.payload i)) c.in-Ok.ensures)

pub returns-in-Err-clause-refused : goal.returns-in-Err-clause-refused
returns-in-Err-clause-refused c = rw c.told.ensures (request_refused c.args.payload.now c.in-Err.stop (λ i. omega (arith, c.type_inv.payload i)) c.in-Err.ensures)
