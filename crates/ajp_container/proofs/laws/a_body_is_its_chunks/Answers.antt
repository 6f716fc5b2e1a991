use Rattle.ajp_container.proofs.CutLaws.{cut-is}
use Rattle.ajp_container.proofs.laws.a_body_is_its_chunks.Goals as goal

pub returns : goal.returns
returns c = cut-is
