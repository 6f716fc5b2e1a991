-- The desk since some moment, after this Return too.
use Rattle.lb_shared.proofs.GoneLaws.{adds_back, gone_sees}
use Rattle.lb_shared.proofs.ShelfLaws.{shelved_put}
use Rattle.lb_shared.proofs.seated_desk.SharedDeskSeatedDesk.hand_back_here.Goals as goal

pub returns-clause-went : goal.returns-clause-went
returns-clause-went g c = record {
  gone = λ since first.
      gone_sees g.L.SiteName.starts since first _ _ _ _
      (adds_back _ _ _ _ _ _ c.hand_back.result c.hand_back.ensures.back.ok c.hand_back.ensures.back.err) c.hand_back.ensures.back.sees;
  shelved = shelved_put g.S.Shelf.shelved g.S.Shelf.faults _ _ _ _ _ _ c.hand_back.ensures.shelf;
}
