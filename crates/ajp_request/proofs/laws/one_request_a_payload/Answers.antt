use Rattle.ajp_request.proofs.ForwardLaws.{spells_one}
use Rattle.ajp_request.proofs.laws.one_request_a_payload.Goals as goal

pub returns : goal.returns
returns c = spells_one
