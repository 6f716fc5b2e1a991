use Rattle.std.proofs.Common.{rules}
use Rattle.lb_shared.proofs.Keeps.{comes}
use Rattle.lb_shared.proofs.lock.HistoryLock.seat.Goals as goal

pub load_new_seat-requires : goal.load_new_seat-requires
load_new_seat-requires g c = (search rules, comes _ _)
