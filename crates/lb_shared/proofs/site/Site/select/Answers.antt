-- The Book's Select, told of its balancer.
use Rattle.std.proofs.Common.{◌≡◌, ℕ, ◌<◌, ◌∙◌, false, List, Option, Some, refl, sym, subst}
use Rattle.std.specs.Prelude.{Err, IfSome, slice_get, slice_index, slice_set}
use Rattle.lb_model.specs.Choice.{IsPick}
use Rattle.lb_model.specs.Free.{is_in}
use Rattle.lb_model.specs.declared.journal.Call.TheVariants as call
use Rattle.lb_model.specs.declared.refusal.RoomError.{RoomError}
use Rattle.lb_book.specs.Desks.{LeaseNote}
use Rattle.lb_book.specs.Journal.{IsSound, Journal, past_of}
use Rattle.lb_book.specs.declared.receipt.Receipt.{Receipt}
use Rattle.lb_shared.specs.Notes.{MarkNote}
use Rattle.lb_shared.specs.SiteAnswers.{HasRoom, IsRoomAt}
use Rattle.lb_shared.specs.Sites.{AddsAt}
use Rattle.lb_shared.proofs.SetLaws.{put_back}
use Rattle.lb_shared.proofs.SiteLaws.{adds_at, at_here, at_put, chosen_known, here_at, kept_added, lease_told, room_told}
use Rattle.lb_shared.proofs.site.Site.select.Goals as goal

pub invariant_of-self : goal.invariant_of-self
invariant_of-self g c =
    let here : slice_get c.self.inside.books.items c.args.lb ≡ Some c.index_mut.result.now =
    here_at c.self.inside.books.items c.args.self.now c.args.lb c.index_mut.result.now c.self.view_is c.requires.lb c.index_mut.ensures.value in
    kept_added g.L.SiteName.sizes g.L.SiteName.firsts c.self.inside.books.items c.args.lb c.index_mut.result.now c.select.new.self c.args.session c.args.at
    (call.Select c.args.ask.now) c.in-Ok.field-0.entry c.self.inside.total.total c.count_entry.new.total.total c.self.invariant here c.in-Ok.ensures.ok c.in-Ok.ensures.sound c.count_entry.ensures.total

pub returns-in-Ok-clause-ok : goal.returns-in-Ok-clause-ok
returns-in-Ok-clause-ok g c =
    let here : slice_get c.self.inside.books.items c.args.lb ≡ Some c.index_mut.result.now =
    here_at c.self.inside.books.items c.args.self.now c.args.lb c.index_mut.result.now c.self.view_is c.requires.lb c.index_mut.ensures.value in
    subst (λ (r : Receipt). AddsAt c.args.self.now (slice_set c.self.inside.books.items c.args.lb c.select.new.self) c.args.lb c.args.session c.args.at (call.Select c.args.ask.now) r)
    (sym c.receipt_of.ensures)
    (subst (λ (xs : List Journal). AddsAt xs (slice_set c.self.inside.books.items c.args.lb c.select.new.self) c.args.lb c.args.session c.args.at (call.Select c.args.ask.now)
    (record { lb = c.args.lb; given = c.args.at; entry = c.in-Ok.field-0.entry })) c.self.view_is
    (adds_at c.self.inside.books.items c.args.lb c.index_mut.result.now c.select.new.self c.args.session c.args.at (call.Select c.args.ask.now) c.in-Ok.field-0.entry here c.in-Ok.ensures.ok c.in-Ok.ensures.next))

pub returns-in-Ok-clause-pick : goal.returns-in-Ok-clause-pick
returns-in-Ok-clause-pick g c =
    let here : slice_get c.self.inside.books.items c.args.lb ≡ Some c.index_mut.result.now =
    here_at c.self.inside.books.items c.args.self.now c.args.lb c.index_mut.result.now c.self.view_is c.requires.lb c.index_mut.ensures.value in
    subst (λ (r : Receipt). (b : Journal) → slice_get c.args.self.now c.args.lb ≡ Some b → IsPick b.rules b.opening (past_of b) c.args.ask.now r.entry.answer) (sym c.receipt_of.ensures)
    (at_here (λ (b : Journal). IsPick b.rules b.opening (past_of b) c.args.ask.now c.in-Ok.field-0.entry.answer) c.self.inside.books.items c.args.self.now c.args.lb c.index_mut.result.now
    c.self.view_is here c.in-Ok.ensures.pick)

pub returns-in-Ok-clause-member : goal.returns-in-Ok-clause-member
returns-in-Ok-clause-member g c =
    let here : slice_get c.self.inside.books.items c.args.lb ≡ Some c.index_mut.result.now =
    here_at c.self.inside.books.items c.args.self.now c.args.lb c.index_mut.result.now c.self.view_is c.requires.lb c.index_mut.ensures.value in
    subst (λ (l : Option LeaseNote). IfSome l (λ lease. (lease.member < slice_index g.L.SiteName.sizes c.args.lb) × (is_in c.args.ask.now.tried lease.member ≡ false)))
    (sym (c.lease_at.ensures ∙ lease_told c.args.lb c.in-Ok.field-0.entry.answer c.in-Ok.field-0.lease c.in-Ok.ensures.lease))
    (chosen_known g.L.SiteName.sizes g.L.SiteName.firsts c.self.inside.books.items c.args.lb c.index_mut.result.now c.select.new.self c.args.session c.args.at c.args.ask.now
    c.in-Ok.field-0.entry c.in-Ok.field-0.entry.answer refl c.self.invariant.1 here c.in-Ok.ensures.ok c.in-Ok.ensures.next c.in-Ok.ensures.pick)

pub returns-in-Ok-clause-full : goal.returns-in-Ok-clause-full
returns-in-Ok-clause-full g c =
    let here : slice_get c.self.inside.books.items c.args.lb ≡ Some c.index_mut.result.now =
    here_at c.self.inside.books.items c.args.self.now c.args.lb c.index_mut.result.now c.self.view_is c.requires.lb c.index_mut.ensures.value in
    at_here (λ (b : Journal). HasRoom 2 b) c.self.inside.books.items c.args.self.now c.args.lb c.index_mut.result.now c.self.view_is here c.in-Ok.ensures.full

pub returns-in-Err-clause-full : goal.returns-in-Err-clause-full
returns-in-Err-clause-full g c =
    let here : slice_get c.self.inside.books.items c.args.lb ≡ Some c.index_mut.result.now =
    here_at c.self.inside.books.items c.args.self.now c.args.lb c.index_mut.result.now c.self.view_is c.requires.lb c.index_mut.ensures.value in
    at_here _ c.self.inside.books.items c.args.self.now c.args.lb c.index_mut.result.now c.self.view_is here
    (subst (λ (e : RoomError MarkNote). IsRoomAt {T = ℕ} c.args.lb 2 c.index_mut.result.now (Err e)) (sym c.room_refused.ensures)
    (room_told c.args.lb 2 c.index_mut.result.now c.in-Err.error c.in-Err.ensures.full))

pub returns-in-Ok-clause-leaves : goal.returns-in-Ok-clause-leaves
returns-in-Ok-clause-leaves g c =
    let here : slice_get c.self.inside.books.items c.args.lb ≡ Some c.index_mut.result.now =
    here_at c.self.inside.books.items c.args.self.now c.args.lb c.index_mut.result.now c.self.view_is c.requires.lb c.index_mut.ensures.value in record {
      sound = at_put (λ (b : Journal). IsSound b) c.self.inside.books.items c.args.lb c.index_mut.result.now c.select.new.self here c.in-Ok.ensures.sound;
      err = tt;
      amount = c.count_entry.ensures.amount;
      parts = c.count_entry.ensures.parts;
    }

pub returns-in-Err-clause-leaves : goal.returns-in-Err-clause-leaves
returns-in-Err-clause-leaves g c =
    let here : slice_get c.self.inside.books.items c.args.lb ≡ Some c.index_mut.result.now =
    here_at c.self.inside.books.items c.args.self.now c.args.lb c.index_mut.result.now c.self.view_is c.requires.lb c.index_mut.ensures.value in record {
      sound = at_put (λ (b : Journal). IsSound b) c.self.inside.books.items c.args.lb c.index_mut.result.now c.select.new.self here c.in-Err.ensures.sound;
      err = put_back c.self.inside.books.items c.args.self.now c.args.lb c.index_mut.result.now c.select.new.self here c.in-Err.ensures.err c.self.view_is;
      amount = refl;
      parts = refl;
    }
