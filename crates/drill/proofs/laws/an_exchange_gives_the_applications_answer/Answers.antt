use Rattle.drill.proofs.EndLaws.{end_to_end_of_exchange}
use Rattle.drill.proofs.laws.an_exchange_gives_the_applications_answer.Goals as goal

pub returns : goal.returns
returns c = end_to_end_of_exchange
