use Rattle.ajp_container.proofs.SentLaws.{body-has_all, none-asked}
use Rattle.ajp_container.proofs.laws.a_body_is_asked_for_to_its_end.Goals as goal

pub returns-clause-all : goal.returns-clause-all
returns-clause-all c = λ app forward first past was. body-has_all app forward first past was.0 was.1

pub returns-clause-none : goal.returns-clause-none
returns-clause-none c = none-asked
