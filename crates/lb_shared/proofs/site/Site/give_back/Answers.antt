-- The Book's Return, told of its balancer.
use Rattle.std.proofs.Common.{◌≡◌, ℕ, ◌<◌, Bool, true, false, List, Some, length, sym, ap, subst, refl}
use Rattle.std.specs.Prelude.{◌↔◌, slice_get, slice_set}
use Rattle.lb_model.specs.Tickets.{is_out}
use Rattle.lb_model.specs.declared.journal.Call.TheVariants as call
use Rattle.lb_book.specs.Desks.{LeaseNote}
use Rattle.lb_rules.specs.Returns.{IsReturnedAt}
use Rattle.lb_book.specs.Journal.{IsSound, Journal, past_of}
use Rattle.lb_book.specs.declared.receipt.Receipt.{Receipt}
use Rattle.lb_shared.specs.Sites.{AddsAt, At}
use Rattle.lb_shared.proofs.SetLaws.{put_back}
use Rattle.lb_shared.proofs.SiteLaws.{adds_at, at_here, at_put, here_at, kept_added}
use Rattle.lb_shared.proofs.site.Site.give_back.Goals as goal

pub invariant_of-self : goal.invariant_of-self
invariant_of-self g c =
    let lb_is = ap (λ (l : LeaseNote). l.lb) c.lease.view_is in
    let here : slice_get c.self.inside.books.items c.lease.inside.lb ≡ Some c.index_mut.result.now =
    here_at c.self.inside.books.items c.args.self.now c.lease.inside.lb c.index_mut.result.now c.self.view_is (subst (λ (n : ℕ). n < length c.args.self.now) (sym lb_is) c.requires.lb) c.index_mut.ensures.value in
    kept_added g.L.SiteName.sizes g.L.SiteName.firsts c.self.inside.books.items c.lease.inside.lb c.index_mut.result.now c.return_ticket.new.self c.args.session c.args.at
    (call.Return c.lease.inside.ticket c.args.outcome) c.in-Ok.entry c.self.inside.total.total c.count_entry.new.total.total c.self.invariant here c.in-Ok.ensures.ok c.in-Ok.ensures.sound c.count_entry.ensures.total

pub returns-in-Ok-clause-ok : goal.returns-in-Ok-clause-ok
returns-in-Ok-clause-ok g c =
    let lb_is = ap (λ (l : LeaseNote). l.lb) c.lease.view_is in
    let here : slice_get c.self.inside.books.items c.lease.inside.lb ≡ Some c.index_mut.result.now =
    here_at c.self.inside.books.items c.args.self.now c.lease.inside.lb c.index_mut.result.now c.self.view_is (subst (λ (n : ℕ). n < length c.args.self.now) (sym lb_is) c.requires.lb) c.index_mut.ensures.value in
    subst (λ (l : LeaseNote). AddsAt c.args.self.now (slice_set c.self.inside.books.items c.lease.inside.lb c.return_ticket.new.self) l.lb c.args.session c.args.at (call.Return l.ticket c.args.outcome) c.receipt_of.result)
    c.lease.view_is
    (subst (λ (r : Receipt). AddsAt c.args.self.now (slice_set c.self.inside.books.items c.lease.inside.lb c.return_ticket.new.self) c.lease.inside.lb c.args.session c.args.at (call.Return c.lease.inside.ticket c.args.outcome) r)
    (sym c.receipt_of.ensures)
    (subst (λ (xs : List Journal). AddsAt xs (slice_set c.self.inside.books.items c.lease.inside.lb c.return_ticket.new.self) c.lease.inside.lb c.args.session c.args.at (call.Return c.lease.inside.ticket c.args.outcome)
    (record { lb = c.lease.inside.lb; given = c.args.at; entry = c.in-Ok.entry })) c.self.view_is
    (adds_at c.self.inside.books.items c.lease.inside.lb c.index_mut.result.now c.return_ticket.new.self c.args.session c.args.at (call.Return c.lease.inside.ticket c.args.outcome) c.in-Ok.entry here c.in-Ok.ensures.ok c.in-Ok.ensures.next)))

pub returns-in-Ok-clause-found : goal.returns-in-Ok-clause-found
returns-in-Ok-clause-found g c =
    let lb_is = ap (λ (l : LeaseNote). l.lb) c.lease.view_is in
    let here : slice_get c.self.inside.books.items c.lease.inside.lb ≡ Some c.index_mut.result.now =
    here_at c.self.inside.books.items c.args.self.now c.lease.inside.lb c.index_mut.result.now c.self.view_is (subst (λ (n : ℕ). n < length c.args.self.now) (sym lb_is) c.requires.lb) c.index_mut.ensures.value in
    subst (λ (l : LeaseNote). At c.args.self.now l.lb (λ (b : Journal). (◌≡◌ {A = Bool} true true) ↔ (is_out b.opening (past_of b) l.ticket ≡ true))) c.lease.view_is
    (at_here (λ (b : Journal). (◌≡◌ {A = Bool} true true) ↔ (is_out b.opening (past_of b) c.lease.inside.ticket ≡ true)) c.self.inside.books.items c.args.self.now c.lease.inside.lb c.index_mut.result.now c.self.view_is here c.in-Ok.ensures.found)

pub returns-in-Err-clause-found : goal.returns-in-Err-clause-found
returns-in-Err-clause-found g c =
    let lb_is = ap (λ (l : LeaseNote). l.lb) c.lease.view_is in
    let here : slice_get c.self.inside.books.items c.lease.inside.lb ≡ Some c.index_mut.result.now =
    here_at c.self.inside.books.items c.args.self.now c.lease.inside.lb c.index_mut.result.now c.self.view_is (subst (λ (n : ℕ). n < length c.args.self.now) (sym lb_is) c.requires.lb) c.index_mut.ensures.value in
    subst (λ (l : LeaseNote). At c.args.self.now l.lb (λ (b : Journal). (◌≡◌ {A = Bool} false true) ↔ (is_out b.opening (past_of b) l.ticket ≡ true))) c.lease.view_is
    (at_here (λ (b : Journal). (◌≡◌ {A = Bool} false true) ↔ (is_out b.opening (past_of b) c.lease.inside.ticket ≡ true)) c.self.inside.books.items c.args.self.now c.lease.inside.lb c.index_mut.result.now c.self.view_is here c.in-Err.ensures.found)

pub returns-in-Err-clause-returned : goal.returns-in-Err-clause-returned
returns-in-Err-clause-returned g c =
    let lb_is = ap (λ (l : LeaseNote). l.lb) c.lease.view_is in
    let here : slice_get c.self.inside.books.items c.lease.inside.lb ≡ Some c.index_mut.result.now =
    here_at c.self.inside.books.items c.args.self.now c.lease.inside.lb c.index_mut.result.now c.self.view_is (subst (λ (n : ℕ). n < length c.args.self.now) (sym lb_is) c.requires.lb) c.index_mut.ensures.value in
    subst (λ (l : LeaseNote). At c.args.self.now l.lb (λ (b : Journal). IsReturnedAt (past_of b) l.ticket c.in-Err.stray.returned_at)) c.lease.view_is
    (at_here (λ (b : Journal). IsReturnedAt (past_of b) c.lease.inside.ticket c.in-Err.stray.returned_at) c.self.inside.books.items c.args.self.now c.lease.inside.lb c.index_mut.result.now c.self.view_is here c.in-Err.ensures.returned)

pub returns-in-Ok-clause-leaves : goal.returns-in-Ok-clause-leaves
returns-in-Ok-clause-leaves g c =
    let lb_is = ap (λ (l : LeaseNote). l.lb) c.lease.view_is in
    let here : slice_get c.self.inside.books.items c.lease.inside.lb ≡ Some c.index_mut.result.now =
    here_at c.self.inside.books.items c.args.self.now c.lease.inside.lb c.index_mut.result.now c.self.view_is (subst (λ (n : ℕ). n < length c.args.self.now) (sym lb_is) c.requires.lb) c.index_mut.ensures.value in record {
      sound = subst (λ (n : ℕ). At (slice_set c.self.inside.books.items c.lease.inside.lb c.return_ticket.new.self) n (λ (b : Journal). IsSound b)) lb_is
          (at_put (λ (b : Journal). IsSound b) c.self.inside.books.items c.lease.inside.lb c.index_mut.result.now c.return_ticket.new.self here c.in-Ok.ensures.sound);
      err = tt;
      amount = c.count_entry.ensures.amount;
      parts = c.count_entry.ensures.parts;
    }

pub returns-in-Err-clause-leaves : goal.returns-in-Err-clause-leaves
returns-in-Err-clause-leaves g c =
    let lb_is = ap (λ (l : LeaseNote). l.lb) c.lease.view_is in
    let here : slice_get c.self.inside.books.items c.lease.inside.lb ≡ Some c.index_mut.result.now =
    here_at c.self.inside.books.items c.args.self.now c.lease.inside.lb c.index_mut.result.now c.self.view_is (subst (λ (n : ℕ). n < length c.args.self.now) (sym lb_is) c.requires.lb) c.index_mut.ensures.value in record {
      sound = subst (λ (n : ℕ). At (slice_set c.self.inside.books.items c.lease.inside.lb c.return_ticket.new.self) n (λ (b : Journal). IsSound b)) lb_is
          (at_put (λ (b : Journal). IsSound b) c.self.inside.books.items c.lease.inside.lb c.index_mut.result.now c.return_ticket.new.self here c.in-Err.ensures.sound);
      err = put_back c.self.inside.books.items c.args.self.now c.lease.inside.lb c.index_mut.result.now c.return_ticket.new.self here c.in-Err.ensures.err c.self.view_is;
      amount = refl;
      parts = refl;
    }
