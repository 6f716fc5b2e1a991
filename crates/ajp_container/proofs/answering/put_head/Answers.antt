use Rattle.std.proofs.Common.{refl}
use Rattle.ajp_container.proofs.answering.put_head.Goals as goal

pub returns : goal.returns
returns c = rw (c.in_ok-push.ensures.ok, c.in_ok-head.ensures) refl
