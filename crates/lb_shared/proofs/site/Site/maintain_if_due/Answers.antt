-- The Book's maintenance, told of its balancer.
use Rattle.std.proofs.Common.{◌≡◌, ℕ, ◌≤◌, ◌<◌, List, Some, sym, subst}
use Rattle.std.specs.Prelude.{Err, slice_get, slice_set}
use Rattle.lb_model.specs.declared.journal.Call.TheVariants as call
use Rattle.lb_model.specs.declared.refusal.RoomError.{RoomError}
use Rattle.lb_book.specs.Due.{due_moment, entry_moment}
use Rattle.lb_book.specs.Journal.{IsSound, Journal}
use Rattle.lb_book.specs.ToldBooks.{IsNoneDue}
use Rattle.lb_book.specs.declared.receipt.Receipt.{Receipt}
use Rattle.lb_shared.specs.Notes.{MarkNote}
use Rattle.lb_shared.specs.SiteAnswers.{HasRoom, IsMaintenanceAt}
use Rattle.lb_shared.specs.Sites.{AddsAt}
use Rattle.lb_shared.proofs.SetLaws.{put_back}
use Rattle.lb_shared.proofs.SiteLaws.{adds_at, after_maintain, at_here, at_put, due_told, here_at, kept_added}
use Rattle.lb_shared.proofs.site.Site.maintain_if_due.Goals as goal

pub invariant_of-self : goal.invariant_of-self
invariant_of-self g c =
    let here : slice_get c.self.inside.books.items c.args.lb ≡ Some c.index_mut.result.now =
    here_at c.self.inside.books.items c.args.self.now c.args.lb c.index_mut.result.now c.self.view_is c.requires.lb c.index_mut.ensures.value in
    kept_added g.L.SiteName.sizes g.L.SiteName.firsts c.self.inside.books.items c.args.lb c.index_mut.result.now c.maintain_if_due.new.self c.args.session c.args.at
    call.Maintain c.in-Ok-Some.entry c.self.inside.total.total c.count_entry.new.total.total c.self.invariant here (rw c.in-Ok-Some.field-0-is at c.in-Ok-Some.ensures.ok) c.in-Ok-Some.ensures.sound c.count_entry.ensures.total

pub returns-in-Ok-Some-clause-ok : goal.returns-in-Ok-Some-clause-ok
returns-in-Ok-Some-clause-ok g c =
    let here : slice_get c.self.inside.books.items c.args.lb ≡ Some c.index_mut.result.now =
    here_at c.self.inside.books.items c.args.self.now c.args.lb c.index_mut.result.now c.self.view_is c.requires.lb c.index_mut.ensures.value in
    subst (λ (r : Receipt). AddsAt c.args.self.now (slice_set c.self.inside.books.items c.args.lb c.maintain_if_due.new.self) c.args.lb c.args.session c.args.at call.Maintain r)
    (sym c.receipt_of.ensures)
    (subst (λ (xs : List Journal). AddsAt xs (slice_set c.self.inside.books.items c.args.lb c.maintain_if_due.new.self) c.args.lb c.args.session c.args.at call.Maintain
    (record { lb = c.args.lb; given = c.args.at; entry = c.in-Ok-Some.entry })) c.self.view_is
    (adds_at c.self.inside.books.items c.args.lb c.index_mut.result.now c.maintain_if_due.new.self c.args.session c.args.at call.Maintain c.in-Ok-Some.entry here (rw c.in-Ok-Some.field-0-is at c.in-Ok-Some.ensures.ok)
    (rw c.in-Ok-Some.field-0-is at c.in-Ok-Some.ensures.next)))

pub returns-in-Ok-Some-clause-sound : goal.returns-in-Ok-Some-clause-sound
returns-in-Ok-Some-clause-sound g c =
    let here : slice_get c.self.inside.books.items c.args.lb ≡ Some c.index_mut.result.now =
    here_at c.self.inside.books.items c.args.self.now c.args.lb c.index_mut.result.now c.self.view_is c.requires.lb c.index_mut.ensures.value in
    at_put (λ (b : Journal). IsSound b) c.self.inside.books.items c.args.lb c.index_mut.result.now c.maintain_if_due.new.self here c.in-Ok-Some.ensures.sound

pub returns-in-Ok-Some-clause-up_to_date : goal.returns-in-Ok-Some-clause-up_to_date
returns-in-Ok-Some-clause-up_to_date g c =
    let here : slice_get c.self.inside.books.items c.args.lb ≡ Some c.index_mut.result.now =
    here_at c.self.inside.books.items c.args.self.now c.args.lb c.index_mut.result.now c.self.view_is c.requires.lb c.index_mut.ensures.value in
    at_put (λ (b : Journal). IsNoneDue b c.args.at) c.self.inside.books.items c.args.lb c.index_mut.result.now c.maintain_if_due.new.self here
    (after_maintain c.index_mut.result.now c.maintain_if_due.new.self c.args.session c.args.at c.in-Ok-Some.entry (rw c.in-Ok-Some.field-0-is at c.in-Ok-Some.ensures.ok))

pub returns-in-Ok-Some-clause-due : goal.returns-in-Ok-Some-clause-due
returns-in-Ok-Some-clause-due g c =
    let here : slice_get c.self.inside.books.items c.args.lb ≡ Some c.index_mut.result.now =
    here_at c.self.inside.books.items c.args.self.now c.args.lb c.index_mut.result.now c.self.view_is c.requires.lb c.index_mut.ensures.value in
    at_here (λ (b : Journal). (due_moment b ≤ entry_moment b c.args.at) × HasRoom 1 b) c.self.inside.books.items c.args.self.now c.args.lb c.index_mut.result.now c.self.view_is here
    (rw c.in-Ok-Some.field-0-is at c.in-Ok-Some.ensures.due)

pub returns-in-Ok-None-clause-up_to_date : goal.returns-in-Ok-None-clause-up_to_date
returns-in-Ok-None-clause-up_to_date g c =
    let here : slice_get c.self.inside.books.items c.args.lb ≡ Some c.index_mut.result.now =
    here_at c.self.inside.books.items c.args.self.now c.args.lb c.index_mut.result.now c.self.view_is c.requires.lb c.index_mut.ensures.value in
    at_put (λ (b : Journal). IsNoneDue b c.args.at) c.self.inside.books.items c.args.lb c.index_mut.result.now c.maintain_if_due.new.self here
    (subst (λ (b : Journal). IsNoneDue b c.args.at) (sym (rw c.in-Ok-None.field-0-is at c.in-Ok-None.ensures.ok)) (rw c.in-Ok-None.field-0-is at c.in-Ok-None.ensures.due))

pub returns-in-Ok-None-clause-due : goal.returns-in-Ok-None-clause-due
returns-in-Ok-None-clause-due g c =
    let here : slice_get c.self.inside.books.items c.args.lb ≡ Some c.index_mut.result.now =
    here_at c.self.inside.books.items c.args.self.now c.args.lb c.index_mut.result.now c.self.view_is c.requires.lb c.index_mut.ensures.value in
    at_here (λ (b : Journal). entry_moment b c.args.at < due_moment b) c.self.inside.books.items c.args.self.now c.args.lb c.index_mut.result.now c.self.view_is here
    (rw c.in-Ok-None.field-0-is at c.in-Ok-None.ensures.due)

pub returns-in-Err-clause-due : goal.returns-in-Err-clause-due
returns-in-Err-clause-due g c =
    let here : slice_get c.self.inside.books.items c.args.lb ≡ Some c.index_mut.result.now =
    here_at c.self.inside.books.items c.args.self.now c.args.lb c.index_mut.result.now c.self.view_is c.requires.lb c.index_mut.ensures.value in
    at_here _ c.self.inside.books.items c.args.self.now c.args.lb c.index_mut.result.now c.self.view_is here
    (subst (λ (e : RoomError MarkNote). IsMaintenanceAt {T = ℕ} c.args.lb c.index_mut.result.now c.args.at (Err e)) (sym c.room_refused.ensures)
    (due_told c.args.lb c.index_mut.result.now c.args.at c.in-Err.error c.in-Err.ensures.due))

pub returns-in-Err-clause-sound : goal.returns-in-Err-clause-sound
returns-in-Err-clause-sound g c =
    let here : slice_get c.self.inside.books.items c.args.lb ≡ Some c.index_mut.result.now =
    here_at c.self.inside.books.items c.args.self.now c.args.lb c.index_mut.result.now c.self.view_is c.requires.lb c.index_mut.ensures.value in
    at_put (λ (b : Journal). IsSound b) c.self.inside.books.items c.args.lb c.index_mut.result.now c.maintain_if_due.new.self here c.in-Err.ensures.sound

pub returns-in-Err-clause-err : goal.returns-in-Err-clause-err
returns-in-Err-clause-err g c =
    let here : slice_get c.self.inside.books.items c.args.lb ≡ Some c.index_mut.result.now =
    here_at c.self.inside.books.items c.args.self.now c.args.lb c.index_mut.result.now c.self.view_is c.requires.lb c.index_mut.ensures.value in
    put_back c.self.inside.books.items c.args.self.now c.args.lb c.index_mut.result.now c.maintain_if_due.new.self here c.in-Err.ensures.err c.self.view_is

pub returns-in-Ok-None-clause-sound : goal.returns-in-Ok-None-clause-sound
returns-in-Ok-None-clause-sound g c =
    let here : slice_get c.self.inside.books.items c.args.lb ≡ Some c.index_mut.result.now =
    here_at c.self.inside.books.items c.args.self.now c.args.lb c.index_mut.result.now c.self.view_is c.requires.lb c.index_mut.ensures.value in
    at_put (λ (b : Journal). IsSound b) c.self.inside.books.items c.args.lb c.index_mut.result.now c.maintain_if_due.new.self here c.in-Ok-None.ensures.sound

pub returns-in-Ok-None-clause-ok : goal.returns-in-Ok-None-clause-ok
returns-in-Ok-None-clause-ok g c =
    let here : slice_get c.self.inside.books.items c.args.lb ≡ Some c.index_mut.result.now =
    here_at c.self.inside.books.items c.args.self.now c.args.lb c.index_mut.result.now c.self.view_is c.requires.lb c.index_mut.ensures.value in
    put_back c.self.inside.books.items c.args.self.now c.args.lb c.index_mut.result.now c.maintain_if_due.new.self here (rw c.in-Ok-None.field-0-is at c.in-Ok-None.ensures.ok) c.self.view_is
