use Rattle.std.proofs.Common.{refl}
use Rattle.ajp_container.proofs.answering.put_length.Goals as goal

pub returns : goal.returns
returns c = rw (c.in_ok-push.ensures.ok, c.in_ok-from_slice.ensures, c.in_ok-put_decimal.ensures.ok, c.new-digits.ensures) refl
