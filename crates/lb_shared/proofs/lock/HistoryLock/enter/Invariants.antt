use Rattle.std.proofs.Common.{◌≡◌}
use Rattle.lb_shared.proofs.lock.HistoryLock.enter.Given as goal

abbrev pub invariant-loop : goal.invariant-loop
invariant-loop g l = (l.seat.table_id ≡ l.fn.seat.table_id) × (l.seat.me ≡ l.fn.seat.me)

abbrev pub invariant-loop-2 : goal.invariant-loop-2
invariant-loop-2 g l = (l.seat.table_id ≡ l.fn.seat.table_id) × (l.seat.me ≡ l.fn.seat.me)
