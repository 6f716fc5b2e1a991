use Rattle.drill.proofs.FirstGetLaws.{first_exchange}
use Rattle.drill.proofs.laws.an_exchange_is_answered.Goals as goal

pub returns : goal.returns
returns c = first_exchange
