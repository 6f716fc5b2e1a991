-- A look adds nothing.
use Rattle.std.proofs.Common.{ap}
use Rattle.lb_shared.proofs.GoneLaws.{gone_looked}
use Rattle.lb_shared.proofs.ShelfLaws.{shelved_same}
use Rattle.lb_shared.proofs.seated_desk.SharedDeskSeatedDesk.look_here.Goals as goal

pub returns-clause-went : goal.returns-clause-went
returns-clause-went g c = record {
  gone = λ since first.
      gone_looked g.L.SiteName.starts since first _ _ _ _ (ap (λ d. d.desk.receipts) c.look.ensures.same) c.look.ensures.looks.sees;
  shelved = shelved_same g.S.Shelf.shelved g.S.Shelf.faults c.args.self.now c.look.new.self (ap (λ d. d.shelf) c.look.ensures.same) (ap (λ d. d.wants) c.look.ensures.same) (ap (λ d. d.forgotten) c.look.ensures.same)
      c.look.ensures.looks.begun c.look.ensures.looks.marks;
}
