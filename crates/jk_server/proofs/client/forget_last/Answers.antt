use Rattle.jk_server.proofs.RunLaws.{desk_forgot}
use Rattle.jk_server.proofs.client.forget_last.Goals as goal

pub returns-clause-desk : goal.returns-clause-desk
returns-clause-desk g c = desk_forgot _ _ c.forget.ensures.receipts c.forget.ensures.forgotten c.forget.ensures.same c.forget.ensures.seat
