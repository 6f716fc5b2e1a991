use Rattle.std.proofs.Common.{rules}
use Rattle.lb_shared.proofs.Keeps.{joins}
use Rattle.lb_shared.proofs.lock.HistoryLock.join.Goals as goal

pub join_seat-requires : goal.join_seat-requires
join_seat-requires g c = (search rules, search rules, search rules, search rules, joins _ _ _ _ _ c.requires.out.0 c.requires.out.1)
