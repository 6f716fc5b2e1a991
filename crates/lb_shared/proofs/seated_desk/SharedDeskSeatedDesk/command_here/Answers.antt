-- The desk since some moment, after this command too.
use Rattle.lb_shared.proofs.GoneLaws.{adds_commanded, gone_may}
use Rattle.lb_shared.proofs.ShelfLaws.{shelved_put}
use Rattle.lb_shared.proofs.seated_desk.SharedDeskSeatedDesk.command_here.Goals as goal

pub returns-clause-went : goal.returns-clause-went
returns-clause-went g c = record {
  gone = λ since first.
      gone_may g.L.SiteName.starts since first _ _ _ _ _
      (adds_commanded _ _ _ _ _ _ c.command.result c.command.ensures.ok c.command.ensures.err) c.command.ensures.sees;
  shelved = shelved_put g.S.Shelf.shelved g.S.Shelf.faults _ _ _ _ _ _ c.command.ensures.shelf;
}
