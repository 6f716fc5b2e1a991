use Rattle.drill.proofs.GoingOnLaws.{goes_on_after}
use Rattle.drill.proofs.laws.a_container_goes_on_after_each_turn.Goals as goal

pub returns : goal.returns
returns c = goes_on_after
