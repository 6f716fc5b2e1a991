use Rattle.drill.proofs.FirstGetLaws.{first_get}
use Rattle.drill.proofs.laws.a_first_get_is_answered.Goals as goal

pub returns : goal.returns
returns c = first_get
