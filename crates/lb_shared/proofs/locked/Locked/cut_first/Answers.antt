-- A journal that was cut is short.
use Rattle.lb_shared.proofs.LockLaws.{empty_cut, short_cut}
use Rattle.lb_shared.proofs.locked.Locked.cut_first.Goals as goal

pub invariant_of-self-2 : goal.invariant_of-self-2
invariant_of-self-2 g c =
    (c.self.invariant.0, short_cut c.self.inside.cut_at c.self.inside.site c.cut.new.self c.args.lb c.in_ok-segment.segment c.self.invariant.1 c.in_ok-segment.ensures.cut c.in_ok-segment.ensures.sound)

pub returns-clause-short : goal.returns-clause-short
returns-clause-short g c = empty_cut c.self.inside.cut_at c.self.inside.site c.cut.new.self c.args.lb c.in_ok-segment.segment c.in_ok-segment.ensures.cut
