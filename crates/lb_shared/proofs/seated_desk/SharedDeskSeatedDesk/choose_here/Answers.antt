-- The desk since some moment, after this ask too.
use Rattle.lb_shared.proofs.GoneLaws.{adds_chosen, gone_may}
use Rattle.lb_shared.proofs.ShelfLaws.{shelved_put}
use Rattle.lb_shared.proofs.seated_desk.SharedDeskSeatedDesk.choose_here.Goals as goal

pub returns-clause-went : goal.returns-clause-went
returns-clause-went g c = record {
  gone = λ since first.
      gone_may g.L.SiteName.starts since first _ _ _ _ _
      (adds_chosen _ _ _ _ _ _ c.choose.result c.choose.ensures.ok c.choose.ensures.err) c.choose.ensures.sees;
  shelved = shelved_put g.S.Shelf.shelved g.S.Shelf.faults _ _ _ _ _ _ c.choose.ensures.shelf;
}
