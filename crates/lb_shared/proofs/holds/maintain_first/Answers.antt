-- A Maintain where one is due.
use Rattle.std.proofs.Common.{◌≡◌, Some}
use Rattle.std.specs.Prelude.{slice_get}
use Rattle.lb_book.specs.Journal.{Journal}
use Rattle.lb_book.proofs.HoldLaws.{of_error}
use Rattle.lb_book.proofs.ToldLaws.{at_place}
use Rattle.lb_shared.proofs.HoldLaws.{due_mark, maintains, refused_maintain}
use Rattle.lb_shared.proofs.holds.maintain_first.Goals as goal

pub returns-in_err-found-clause-refused : goal.returns-in_err-found-clause-refused
returns-in_err-found-clause-refused g c =
    of_error c.from_residual.result c.in_err-found.field-0.0 _ c.from_residual.ensures.1
    (λ b here. refused_maintain c.args.on.lb b c.args.on.at c.in_err-found.field-0.0 (c.in_err-found.ensures.due b here))

pub returns-in_err-found-clause-mark : goal.returns-in_err-found-clause-mark
returns-in_err-found-clause-mark g c =
    let here : (b : Journal) × (slice_get c.args.site.now c.args.on.lb ≡ Some b) = at_place c.args.site.now c.args.on.lb c.requires.lb in
    of_error c.from_residual.result c.in_err-found.field-0.0 _ c.from_residual.ensures.1
    (due_mark c.args.on.lb here.0 c.args.on.at c.in_err-found.field-0.0 (c.in_err-found.ensures.due here.0 here.1))

pub returns-clause-due : goal.returns-clause-due
returns-clause-due g c =
    maintains c.in_ok-found.found c.args.site.now c.maintain_if_due.new.self c.args.account.now.receipts.items c.note_some.new.receipts.items
    c.args.account.now.share.amount c.maintain_if_due.new.share.amount c.args.on.lb c.args.on.session c.args.on.at c.requires.lb
    c.in_ok-found.ensures.ok c.in_ok-found.ensures.due c.in_ok-found.ensures.amount c.note_some.ensures.items
