-- Where memory is wanted nothing was sent.
use Rattle.ajp_talk.proofs.SendingLaws.{unsent}
use Rattle.ajp_talk.proofs.request.send_request.Goals as goal

pub returns-in-Err-clause-sent : goal.returns-in-Err-clause-sent
returns-in-Err-clause-sent g c = unsent _ c.args.sent.now _
