-- Books that keep nothing are short.
use Rattle.lb_shared.proofs.LockLaws.{short_new}
use Rattle.lb_shared.proofs.locked.Locked.new.Goals as goal

pub invariant_of-result : goal.invariant_of-result
invariant_of-result g c = (c.requires.named, short_new c.args.cut_at c.args.site c.count.ensures.named.sound c.requires.uncut)
