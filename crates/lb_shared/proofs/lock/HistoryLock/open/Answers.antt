use Rattle.std.proofs.Common.{rules, ◌≡◌, List, [], ◌∷◌, Option, Some, subst, sym}
use Rattle.atomic_table.specs.Table.{opening}
use Rattle.lb_shared.specs.Seats.{IsKept, nobody}
use Rattle.lb_shared.proofs.Keeps.{opens}
use Rattle.lb_shared.proofs.lock.HistoryLock.open.Goals as goal

pub new-requires : goal.new-requires
new-requires g c =
    let items : c.push.new.self.items ≡ Some c.args.value ∷ [] = search rules in
    subst (λ (xs : List (Option g.row.S.Denot)). IsKept g.T.Telling.tells (opening (0 ∷ []) xs nobody)) (sym items) (opens _ _ c.requires)
