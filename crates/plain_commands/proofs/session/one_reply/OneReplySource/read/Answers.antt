use Rattle.plain_commands.proofs.ReachLemmas.{reads}
use Rattle.plain_commands.proofs.session.one_reply.OneReplySource.read.Goals as goal

pub invariant_of-self : goal.invariant_of-self
invariant_of-self g c =
    let e = c.read.ensures in
    reads _ _ _ _ _ c.self.invariant e.same_others e.same.1 e.same.2 e.gave e.got e.kept_on_error
