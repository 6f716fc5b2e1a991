use Rattle.ajp_container.specs.Request.{application_of}
use Rattle.ajp_container.proofs.AnswerLaws.{answer-whole, answer-dropped}
use Rattle.ajp_container.proofs.laws.an_answer_is_whole_or_dropped.Goals as goal

pub returns-clause-whole : goal.returns-clause-whole
returns-clause-whole c = λ app forward body. answer-whole app forward body (application_of app forward)

pub returns-clause-dropped : goal.returns-clause-dropped
returns-clause-dropped c = λ app forward body. answer-dropped app forward body (application_of app forward)
