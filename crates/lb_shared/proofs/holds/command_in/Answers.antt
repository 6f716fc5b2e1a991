-- The Maintain that was due, and then the command.
use Rattle.std.proofs.Common.{◌≡◌, ℕ, ◌<◌, Some, length, refl, subst, arith}
use Rattle.std.specs.Prelude.{slice_get}
use Rattle.lb_model.specs.declared.change.Command.{Command}
use Rattle.lb_model.specs.declared.refusal.AdminError.{AdminError}
use Rattle.lb_model.specs.declared.refusal.AdminError.TheVariants as admin
use Rattle.lb_model.specs.declared.refusal.RoomError.{RoomError}
use Rattle.lb_model.specs.declared.refusal.RoomError.TheVariants as room
use Rattle.lb_book.specs.Desks.{IsCommandRefusal, refused_first}
use Rattle.lb_book.specs.Journal.{Journal}
use Rattle.lb_book.specs.Refused.{RefusesMaintain}
use Rattle.lb_book.proofs.HoldLaws.{of_error}
use Rattle.lb_book.proofs.ToldLaws.{at_place}
use Rattle.lb_shared.specs.Holds.{HeldState, HoldRefuses, held}
use Rattle.lb_shared.specs.Notes.{MarkNote}
use Rattle.lb_shared.specs.Sites.{At}
use Rattle.lb_shared.proofs.HoldLaws.{admin_mark, command_account, command_first, commands, denied_after, denied_first}
use Rattle.lb_shared.proofs.holds.command_in.Goals as goal

pub returns-clause-ok : goal.returns-clause-ok
returns-clause-ok g c =
    commands g.L.SiteName.sizes g.L.SiteName.firsts (held c.args.site.now c.args.account.now.receipts.items c.args.account.now.share.amount)
    (held c.maintain_first.new.site c.maintain_first.new.account.receipts.items c.maintain_first.new.account.share.amount)
    (held c.admin.new.self c.note.new.receipts.items c.admin.new.share.amount) c.args.on.lb c.args.on.session c.args.on.at c.args.command.now
    c.in_ok-receipt.receipt (c.in-Ok.ensures.due) c.count.ensures.named c.in_ok-receipt.ensures.ok c.note.ensures.items c.in_ok-receipt.ensures.leaves.amount c.in_ok-receipt.ensures.commanded

pub returns-in_err-receipt-clause-err : goal.returns-in_err-receipt-clause-err
returns-in_err-receipt-clause-err g c =
    let old = held c.args.site.now c.args.account.now.receipts.items c.args.account.now.share.amount in
    let mid = held c.maintain_first.new.site c.maintain_first.new.account.receipts.items c.maintain_first.new.account.share.amount in
    of_error c.from_residual.result c.in_err-receipt.field-0.0 _ c.from_residual.ensures.1
    (denied_after old mid c.admin.new.self c.admin.new.share.amount c.args.on.lb c.args.on.session c.args.on.at _ _ c.in-Ok.ensures.due
    c.in_err-receipt.ensures.leaves.err c.in_err-receipt.ensures.leaves.amount
    (command_account old mid c.args.on.lb c.args.on.session c.args.on.at c.in-Ok.ensures.due c.args.command.now c.in_err-receipt.field-0.0 c.in_err-receipt.ensures.commanded))

pub returns-in_err-receipt-clause-mark : goal.returns-in_err-receipt-clause-mark
returns-in_err-receipt-clause-mark g c =
    let within : c.args.on.lb < length c.maintain_first.new.site = omega (arith, c.in-Ok.ensures.len, c.requires.lb) in
    let here : (b : Journal) × (slice_get c.maintain_first.new.site c.args.on.lb ≡ Some b) = at_place c.maintain_first.new.site c.args.on.lb within in
    of_error c.from_residual.result c.in_err-receipt.field-0.0 _ c.from_residual.ensures.1
    (admin_mark c.args.on.lb here.0 c.args.command.now c.in_err-receipt.field-0.0 (c.in_err-receipt.ensures.commanded here.0 here.1))

-- The Maintain was refused, and so the command.
refused_before : (a b : HeldState) (lb session at : ℕ) (c : Command) (e : AdminError MarkNote) (found first : RoomError MarkNote) → b ≡ a → lb < length a.books
    → e ≡ refused_first first → found ≡ first → At a.books lb (λ b. RefusesMaintain (λ mark. mark.numbers) b at found) → HoldRefuses a b lb session at c e
refused_before a b lb session at c e found first same within is found_is why =
    denied_first a b lb session at (e ≡ admin.NoMemory) (IsCommandRefusal (λ mark. mark.numbers) at c e) same within
    (command_first a.books lb at c e first is
    (subst (λ (x : RoomError MarkNote). At a.books lb (λ (b : Journal). RefusesMaintain (λ mark. mark.numbers) b at x)) found_is why))

pub returns-in-Err-Full-clause-err : goal.returns-in-Err-Full-clause-err
returns-in-Err-Full-clause-err g c =
    rw c.in-Err-Full.field-0-is
    (refused_before (held c.args.site.now c.args.account.now.receipts.items c.args.account.now.share.amount)
    (held c.maintain_first.new.site c.maintain_first.new.account.receipts.items c.maintain_first.new.account.share.amount) c.args.on.lb c.args.on.session c.args.on.at
    c.args.command.now (admin.Full c.in-Err-Full.mark) _ (room.Full c.in-Err-Full.mark) c.in-Err-Full.ensures.err c.requires.lb refl
    c.in-Err-Full.field-0-is c.in-Err-Full.ensures.refused)

pub returns-in-Err-NoMemory-clause-err : goal.returns-in-Err-NoMemory-clause-err
returns-in-Err-NoMemory-clause-err g c =
    refused_before (held c.args.site.now c.args.account.now.receipts.items c.args.account.now.share.amount)
    (held c.maintain_first.new.site c.maintain_first.new.account.receipts.items c.maintain_first.new.account.share.amount) c.args.on.lb c.args.on.session c.args.on.at
    c.args.command.now admin.NoMemory _ room.NoMemory c.in-Err-NoMemory.ensures.err c.requires.lb refl
    c.in-Err-NoMemory.field-0-is c.in-Err-NoMemory.ensures.refused
