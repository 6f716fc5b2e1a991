use Rattle.std.proofs.Common.{refl}
use Rattle.plain_commands.proofs.ReachLemmas.{finishes}
use Rattle.plain_commands.proofs.session.one_reply.OneReplyReach.finish.Goals as goal

pub invariant_of-self : goal.invariant_of-self
invariant_of-self g c =
    let e = c.finish.ensures in
    finishes _ _ _ _ _ refl (rw c.self.view_is c.requires) c.self.invariant e.ended e.noted e.kept e.closed e.same.0 e.same.2
