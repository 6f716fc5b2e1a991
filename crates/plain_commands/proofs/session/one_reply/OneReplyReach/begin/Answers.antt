use Rattle.plain_commands.proofs.ReachLemmas.{begins}
use Rattle.plain_commands.proofs.session.one_reply.OneReplyReach.begin.Goals as goal

pub invariant_of-self : goal.invariant_of-self
invariant_of-self g c =
    let e = c.begin.ensures in
    begins _ _ _ c.args.asked.now _ c.self.invariant (rw c.self.view_is c.requires.idle) e.runs e.begun e.nothing_yet.1 e.given e.not_given e.ok e.wanted e.same.1 e.planned
