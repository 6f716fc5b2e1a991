-- The Maintain that was due, and then the Select.
use Rattle.std.proofs.Common.{◌≡◌, ◌<◌, false, inr, refl, subst}
use Rattle.std.specs.Prelude.{IfSome, Option, slice_index}
use Rattle.lb_model.specs.Free.{is_in}
use Rattle.lb_book.specs.Desks.{LeaseNote}
use Rattle.lb_book.specs.declared.receipt.Receipt.{Receipt}
use Rattle.lb_book.proofs.HoldLaws.{of_error}
use Rattle.lb_shared.specs.Holds.{IsSiteChoice, held}
use Rattle.lb_shared.proofs.HoldLaws.{ask_account, chooses, denied_after, denied_first}
use Rattle.lb_shared.proofs.holds.choose_in.Goals as goal

pub returns-clause-ok : goal.returns-clause-ok
returns-clause-ok g c =
    chooses g.L.SiteName.sizes (held c.args.site.now c.args.account.now.receipts.items c.args.account.now.share.amount)
    (held c.maintain_first.new.site c.maintain_first.new.account.receipts.items c.maintain_first.new.account.share.amount)
    (held c.select.new.self c.note.new.receipts.items c.select.new.share.amount) c.args.on.lb c.args.on.session c.args.on.at c.args.ask.now
    c.in_ok-receipt.field-0.receipt c.choice_of.result c.in_ok-maintain_first.ensures.due c.in_ok-receipt.ensures.ok c.note.ensures.items
    c.in_ok-receipt.ensures.leaves.amount c.in_ok-receipt.ensures.pick
    (subst (λ (l : Option LeaseNote). IfSome l (λ lease. (lease.member < slice_index g.L.SiteName.sizes c.args.on.lb) × (is_in c.args.ask.now.tried lease.member ≡ false)))
    c.in_ok-receipt.ensures.lease c.in_ok-receipt.ensures.member)
    (subst (λ (r : Receipt). IsSiteChoice c.args.on.lb r.entry.answer c.choice_of.result) c.receipt.ensures c.choice_of.ensures)

pub returns-in_err-maintain_first-clause-err : goal.returns-in_err-maintain_first-clause-err
returns-in_err-maintain_first-clause-err g c =
    of_error c.from_residual.result c.in_err-maintain_first.field-0.0 _ c.from_residual.ensures.1
    (denied_first (held c.args.site.now c.args.account.now.receipts.items c.args.account.now.share.amount)
    (held c.maintain_first.new.site c.maintain_first.new.account.receipts.items c.maintain_first.new.account.share.amount) c.args.on.lb c.args.on.session c.args.on.at _ _
    c.in_err-maintain_first.ensures.err c.requires.lb (λ b here. inr (refl, c.in_err-maintain_first.ensures.refused b here)))

pub returns-in_err-receipt-clause-err : goal.returns-in_err-receipt-clause-err
returns-in_err-receipt-clause-err g c =
    let old = held c.args.site.now c.args.account.now.receipts.items c.args.account.now.share.amount in
    let mid = held c.maintain_first.new.site c.maintain_first.new.account.receipts.items c.maintain_first.new.account.share.amount in
    of_error c.from_residual-in_err-receipt.result c.in_err-receipt.field-0.0 _ c.from_residual-in_err-receipt.ensures.1
    (denied_after old mid c.select.new.self c.select.new.share.amount c.args.on.lb c.args.on.session c.args.on.at _ _ c.in_ok-maintain_first.ensures.due
    c.in_err-receipt.ensures.leaves.err c.in_err-receipt.ensures.leaves.amount
    (ask_account old mid c.args.on.lb c.args.on.session c.args.on.at c.in_ok-maintain_first.ensures.due c.in_err-receipt.field-0.0 c.in_err-receipt.ensures.full))
