use Rattle.std.proofs.Common.{rules}
use Rattle.lb_shared.proofs.Keeps.{leaves}
use Rattle.lb_shared.proofs.lock.HistoryLock.leave.Goals as goal

pub swap-requires : goal.swap-requires
swap-requires g c = (search rules, search rules, leaves _ _ _ _ _ c.args.self.now.one_slot c.requires.told)
