use Rattle.std.proofs.Common.{refl}
use Rattle.ajp_container.proofs.answering.broken_off.Goals as goal

pub returns : goal.returns
returns c =
    rw (c.in_ok-push.ensures.ok, c.in_ok-put_length.ensures, c.new-headers.ensures, c.new-messages.ensures, c.in_ok-from_slice.ensures) refl
