-- As of each request of the program.
use Rattle.forwarding.specs.Forwards.{forward_in}
use Rattle.forwarding.proofs.ForwardLaws.{forward_is_one}
use Rattle.forwarding.proofs.laws.a_forward_is_read_again.Goals as goal

pub returns-clause-spelled : goal.returns-clause-spelled
returns-clause-spelled c = λ d can.
    c.written_requests_are_read_again.ensures.spelled (forward_in d) (forward_is_one d.head d.peer d.direct d.member d.endpoint can.port can.few) can.fits

pub returns-clause-alone : goal.returns-clause-alone
returns-clause-alone c = λ d other can spells.
    c.written_requests_are_read_again.ensures.alone (forward_in d) other (forward_is_one d.head d.peer d.direct d.member d.endpoint can.port can.few) can.fits spells
