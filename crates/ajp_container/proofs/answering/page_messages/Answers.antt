use Rattle.std.proofs.Common.{refl}
use Rattle.ajp_container.proofs.answering.page_messages.Goals as goal

pub returns : goal.returns
returns c = rw (c.in_ok-put_page.ensures, c.new-messages.ensures) refl
