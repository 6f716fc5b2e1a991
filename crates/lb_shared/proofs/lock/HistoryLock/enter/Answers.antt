use Rattle.std.proofs.Common.{rules, ◌≡◌, false, ap, ◌∙◌, arith, ℕ}
use Rattle.lb_shared.proofs.Keeps.{enters}
use Rattle.lb_shared.proofs.lock.HistoryLock.enter.Goals as goal

pub swap-requires : goal.swap-requires
swap-requires g c =
    let out : c.loop-2.seat.me.0.holds ≡ false = ap (λ m. m.0.holds) c.loop-2.invariant.1 ∙ c.requires.out in
    (search rules, search rules, enters _ _ _ _ _ out (λ (n : ℕ) (is : 2 ≡ 0). omega arith))
