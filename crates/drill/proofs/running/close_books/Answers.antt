-- No desk forgot, so there are as many receipts as the shares say.
use Rattle.std.proofs.Common.{length, ◌∙◌}
use Rattle.lb_shared.specs.declared.mem_shelf.MemShelf.{MemShelf}
use Rattle.lb_shared.specs.declared.shared_desk.Leaving.{Leaving}
use Rattle.drill.proofs.ClosingLaws.{all_receipts}
use Rattle.drill.proofs.running.close_books.Goals as goal

pub returns-clause-sited : goal.returns-clause-sited
returns-clause-sited g c = c.in_ok-books.ensures.sited

pub returns-clause-history : goal.returns-clause-history
returns-clause-history g c = c.in_ok-books.ensures.history

pub returns-clause-once : goal.returns-clause-once
returns-clause-once g c = c.in_ok-books.ensures.once c.args.left.none_forgot

pub returns-clause-counted : goal.returns-clause-counted
returns-clause-counted g c =
    c.in_ok-books.ensures.counted
    ∙ all_receipts {A = Leaving g.row.L.Denot MemShelf} (λ l. l.share.amount) (λ l. length l.receipts) (λ l. l.forgotten) _
    (λ l. l.counted) c.args.left.none_forgot
