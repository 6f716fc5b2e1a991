use Rattle.drill.proofs.FirstPostLaws.{first_post}
use Rattle.drill.proofs.laws.a_post_gets_its_own_bytes.Goals as goal

pub returns : goal.returns
returns c = first_post
