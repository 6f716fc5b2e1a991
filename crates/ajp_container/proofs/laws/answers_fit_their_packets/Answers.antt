use Rattle.ajp_container.proofs.FitLaws.{answer-sendable}
use Rattle.ajp_container.proofs.laws.answers_fit_their_packets.Goals as goal

pub returns : goal.returns
returns c = answer-sendable
