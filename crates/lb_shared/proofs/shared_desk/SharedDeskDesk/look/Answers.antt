-- The balancer that is looked at is the journal that the hold found.
use Rattle.std.proofs.Common.{sym}
use Rattle.lb_shared.specs.SharedDesks.{stray_in}
use Rattle.lb_shared.proofs.SharedLaws.{shows_shared}
use Rattle.lb_shared.proofs.shared_desk.SharedDeskDesk.look.Goals as goal

pub returns-clause-shown : goal.returns-clause-shown
returns-clause-shown g c =
    rw (sym c.self.view_is) (shows_shared g.L.SiteName.sizes c.self.inside.stake.parts c.self.inside.stake.receipts c.self.inside.stake.held c.self.inside.stake.amount
    c.self.inside.strays c.self.inside.fulls c.self.inside.wides (stray_in c.self.inside.met) c.args.lb c.look.result c.look.ensures.ok)
