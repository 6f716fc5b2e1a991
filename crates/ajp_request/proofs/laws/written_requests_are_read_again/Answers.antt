use Rattle.ajp_request.specs.Writing.{payload_of, as_read}
use Rattle.ajp_request.proofs.ForwardLaws.{spells_one}
use Rattle.ajp_request.proofs.SpelledLaws.{written_spells}
use Rattle.ajp_request.proofs.laws.written_requests_are_read_again.Goals as goal

pub returns-clause-spelled : goal.returns-clause-spelled
returns-clause-spelled c = written_spells

pub returns-clause-alone : goal.returns-clause-alone
returns-clause-alone c = λ forward other is fits spells. spells_one other (as_read forward) (payload_of forward) spells (written_spells forward is fits)
