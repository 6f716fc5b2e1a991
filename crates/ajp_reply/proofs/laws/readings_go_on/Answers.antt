use Rattle.ajp_reply.proofs.StreamLaws.{spelled-behind, goes_on}
use Rattle.ajp_reply.proofs.laws.readings_go_on.Goals as goal

pub returns-clause-behind : goal.returns-clause-behind
returns-clause-behind c = spelled-behind

pub returns-clause-only : goal.returns-clause-only
returns-clause-only c = goes_on
