-- The shelf after a ticket was handed back, whether or not memory was wanted for a cut.
use Rattle.lb_shared.proofs.ShelfLaws.{put_untold}
use Rattle.lb_shared.proofs.shared_desk.SharedDeskDesk.hand_back.Goals as goal

pub returns-clause-shelf : goal.returns-clause-shelf
returns-clause-shelf g c = put_untold g.S.Shelf.shelved g.S.Shelf.faults _ _ _ _ _ _ c.take_back.ensures.shelf
