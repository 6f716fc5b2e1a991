-- The Book's command, told of its balancer.
use Rattle.std.proofs.Common.{◌≡◌, ℕ, List, Some, sym, subst, refl}
use Rattle.std.specs.Prelude.{Err, slice_get, slice_set}
use Rattle.lb_model.specs.Legal.{IsDoable}
use Rattle.lb_model.specs.declared.journal.Call.TheVariants as call
use Rattle.lb_model.specs.declared.refusal.AdminError.{AdminError}
use Rattle.lb_book.specs.Journal.{IsSound, Journal, past_of}
use Rattle.lb_book.specs.declared.receipt.Receipt.{Receipt}
use Rattle.lb_shared.specs.Notes.{MarkNote}
use Rattle.lb_shared.specs.SiteAnswers.{HasRoom, IsCommandedAt}
use Rattle.lb_shared.specs.Sites.{AddsAt}
use Rattle.lb_shared.proofs.SetLaws.{put_back}
use Rattle.lb_shared.proofs.SiteLaws.{adds_at, at_here, at_put, command_told, here_at, kept_added}
use Rattle.lb_shared.proofs.site.Site.admin.Goals as goal

pub invariant_of-self : goal.invariant_of-self
invariant_of-self g c =
    let here : slice_get c.self.inside.books.items c.args.lb ≡ Some c.index_mut.result.now =
    here_at c.self.inside.books.items c.args.self.now c.args.lb c.index_mut.result.now c.self.view_is c.requires.lb c.index_mut.ensures.value in
    kept_added g.L.SiteName.sizes g.L.SiteName.firsts c.self.inside.books.items c.args.lb c.index_mut.result.now c.admin.new.self c.args.session c.args.at
    (call.Admin c.args.command.now) c.in-Ok.entry c.self.inside.total.total c.count_entry.new.total.total c.self.invariant here c.in-Ok.ensures.ok c.in-Ok.ensures.sound c.count_entry.ensures.total

pub returns-in-Ok-clause-ok : goal.returns-in-Ok-clause-ok
returns-in-Ok-clause-ok g c =
    let here : slice_get c.self.inside.books.items c.args.lb ≡ Some c.index_mut.result.now =
    here_at c.self.inside.books.items c.args.self.now c.args.lb c.index_mut.result.now c.self.view_is c.requires.lb c.index_mut.ensures.value in
    subst (λ (r : Receipt). AddsAt c.args.self.now (slice_set c.self.inside.books.items c.args.lb c.admin.new.self) c.args.lb c.args.session c.args.at (call.Admin c.args.command.now) r)
    (sym c.receipt_of.ensures)
    (subst (λ (xs : List Journal). AddsAt xs (slice_set c.self.inside.books.items c.args.lb c.admin.new.self) c.args.lb c.args.session c.args.at (call.Admin c.args.command.now)
    (record { lb = c.args.lb; given = c.args.at; entry = c.in-Ok.entry })) c.self.view_is
    (adds_at c.self.inside.books.items c.args.lb c.index_mut.result.now c.admin.new.self c.args.session c.args.at (call.Admin c.args.command.now) c.in-Ok.entry here c.in-Ok.ensures.ok c.in-Ok.ensures.next))

pub returns-in-Ok-clause-commanded : goal.returns-in-Ok-clause-commanded
returns-in-Ok-clause-commanded g c =
    let here : slice_get c.self.inside.books.items c.args.lb ≡ Some c.index_mut.result.now =
    here_at c.self.inside.books.items c.args.self.now c.args.lb c.index_mut.result.now c.self.view_is c.requires.lb c.index_mut.ensures.value in
    at_here (λ (b : Journal). IsDoable b.opening (past_of b) c.args.command.now × HasRoom 1 b) c.self.inside.books.items c.args.self.now c.args.lb c.index_mut.result.now c.self.view_is here
    c.in-Ok.ensures.commanded

pub returns-in-Err-clause-commanded : goal.returns-in-Err-clause-commanded
returns-in-Err-clause-commanded g c =
    let here : slice_get c.self.inside.books.items c.args.lb ≡ Some c.index_mut.result.now =
    here_at c.self.inside.books.items c.args.self.now c.args.lb c.index_mut.result.now c.self.view_is c.requires.lb c.index_mut.ensures.value in
    at_here _ c.self.inside.books.items c.args.self.now c.args.lb c.index_mut.result.now c.self.view_is here
    (subst (λ (e : AdminError MarkNote). IsCommandedAt {T = ℕ} c.args.lb c.index_mut.result.now c.args.command.now (Err e)) (sym c.admin_refused.ensures)
    (command_told c.args.lb c.index_mut.result.now c.args.command.now c.in-Err.error c.in-Err.ensures.commanded))

pub returns-in-Ok-clause-leaves : goal.returns-in-Ok-clause-leaves
returns-in-Ok-clause-leaves g c =
    let here : slice_get c.self.inside.books.items c.args.lb ≡ Some c.index_mut.result.now =
    here_at c.self.inside.books.items c.args.self.now c.args.lb c.index_mut.result.now c.self.view_is c.requires.lb c.index_mut.ensures.value in record {
      sound = at_put (λ (b : Journal). IsSound b) c.self.inside.books.items c.args.lb c.index_mut.result.now c.admin.new.self here c.in-Ok.ensures.sound;
      err = tt;
      amount = c.count_entry.ensures.amount;
      parts = c.count_entry.ensures.parts;
    }

pub returns-in-Err-clause-leaves : goal.returns-in-Err-clause-leaves
returns-in-Err-clause-leaves g c =
    let here : slice_get c.self.inside.books.items c.args.lb ≡ Some c.index_mut.result.now =
    here_at c.self.inside.books.items c.args.self.now c.args.lb c.index_mut.result.now c.self.view_is c.requires.lb c.index_mut.ensures.value in record {
      sound = at_put (λ (b : Journal). IsSound b) c.self.inside.books.items c.args.lb c.index_mut.result.now c.admin.new.self here c.in-Err.ensures.sound;
      err = put_back c.self.inside.books.items c.args.self.now c.args.lb c.index_mut.result.now c.admin.new.self here c.in-Err.ensures.err c.self.view_is;
      amount = refl;
      parts = refl;
    }
