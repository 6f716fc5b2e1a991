use Rattle.ajp_reply.proofs.StreamLaws.{one_stream}
use Rattle.ajp_reply.proofs.laws.one_reading.Goals as goal

pub returns : goal.returns
returns c = one_stream
