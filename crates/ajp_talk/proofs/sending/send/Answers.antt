-- The bytes that were counted are those that were sent.
use Rattle.ajp_talk.proofs.SendingLaws.{sent-from}
use Rattle.ajp_talk.proofs.sending.send.Goals as goal

pub returns-clause-sent : goal.returns-clause-sent
returns-clause-sent g c =
    let e = c.write_counted-answer.ensures in
    sent-from _ _ _ _ _ _ _ e.whole e.most e.put e.same.0 e.same.1 e.cause e.steady c.saturating_add.ensures
