use Rattle.std.proofs.Common.{rules, ◌≢◌, ℕ}
use Rattle.atomic_table.proofs.Lists.{exchanged}
use Rattle.lb_shared.proofs.Keeps.{enters}
use Rattle.lb_shared.proofs.lock.HistoryLock.take.Goals as goal

pub compare_exchange-requires : goal.compare_exchange-requires
compare_exchange-requires g c =
    (search rules, search rules, enters _ _ _ _ _ c.requires.out (λ n. exchanged n 0 c.args.word (λ (m : ℕ). m ≢ 0) (λ _. c.requires.held) (λ ne. ne)))
