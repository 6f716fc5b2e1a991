-- The Book that is looked at is the journal that was found.
use Rattle.std.proofs.Common.{◌<◌, length, sym, subst}
use Rattle.std.specs.Prelude.{IfOk}
use Rattle.lb_book.specs.Desks.{DeskState, Shows}
use Rattle.lb_book.proofs.HoldLaws.{plain_here, shows_plain}
use Rattle.lb_book.proofs.plain_desk.PlainDeskDesk.look.Goals as goal

pub returns-clause-shown : goal.returns-clause-shown
returns-clause-shown c =
    let within = subst (λ (d : DeskState). c.args.lb < length d.sizes) (sym c.self.view_is) c.requires.known in
    let here = plain_here c.self.inside.books.items c.args.lb c.index.result.now within c.index.ensures in
    subst (λ (d : DeskState). IfOk c.view.result (λ shown. Shows d c.args.lb shown)) c.self.view_is
    (shows_plain c.self.inside.books.items c.self.inside.receipts.items c.self.inside.held.items c.self.inside.fulls c.self.inside.wides c.args.lb c.index.result.now
    c.view.result c.self.invariant.modern c.self.invariant.legal here c.view.ensures.present)
