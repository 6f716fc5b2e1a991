-- A command in a hold, of a journal that was cut before where it had come to that length.
use Rattle.std.proofs.Common.{◌≡◌, ◌-◌, ◌<◌, ◌∙◌, List, length, inl, refl, sym, ap, subst, arith}
use Rattle.lb_book.specs.Journal.{Journal}
use Rattle.lb_book.specs.PlainDesks.{AreLegal}
use Rattle.lb_shared.specs.Holds.{AreShort, CutsFirst, HoldCommands, HoldRefuses, LockedState, held}
use Rattle.lb_shared.specs.Sites.{AreSited, At}
use Rattle.lb_shared.proofs.HeldLaws.{if_err, on_ok}
use Rattle.lb_shared.proofs.HoldLaws.{due_none}
use Rattle.lb_shared.proofs.LockLaws.{cuts_when, held_moved, short_command, sited_within}
use Rattle.lb_shared.proofs.locked.Locked.command.Goals as goal

pub invariant_of-self-2 : goal.invariant_of-self-2
invariant_of-self-2 g c =
    let shorter = subst (λ (s : LockedState). 0 < s.cut_at → At s.books c.args.on.lb (λ (b : Journal). length b.entries < s.cut_at)) (sym c.self-2.view_is) c.in-Ok.ensures.short in
    let legal = subst (λ (xs : List Journal). AreLegal xs) c.audit-2.ensures.same c.audit-2.ensures.named.sound in (
      c.self-2.invariant.0,
      subst (λ (xs : List Journal). AreShort c.self-2.inside.cut_at xs) (sym c.audit-2.ensures.same)
          (short_command g.L.SiteName.sizes c.self-2.inside.cut_at (held c.self-2.inside.site c.args.account.now.receipts.items c.audit.new.share.amount)
          (held c.command_in-done.new.site c.command_in-done.new.account.receipts.items c.command_in-done.new.account.share.amount) c.args.on.lb c.args.on.session c.args.on.at c.args.command.now c.command_in-done.result
          c.self-2.invariant.1 shorter c.command_in-done.ensures.ok c.command_in-done.ensures.err legal),
    )

pub returns-in-Err-clause-err : goal.returns-in-Err-clause-err
returns-in-Err-clause-err g c =
    let site_is = c.audit.ensures.same ∙ ap (λ (s : LockedState). s.books) c.self.view_is in
    let within = subst (λ (xs : List Journal). c.args.on.lb < length xs) site_is (sited_within g.L.SiteName.sizes g.L.SiteName.firsts c.audit.new.self c.args.on.lb c.audit.ensures.named c.requires.lb) in (
      c.args.self.now.books,
      refl,
      subst (λ (xs : List Journal). AreSited g.L.SiteName.sizes g.L.SiteName.firsts xs) site_is c.audit.ensures.named,
      due_none c.args.self.now.books c.cut_first.new.self.books c.args.account.now.receipts.items c.args.account.now.share.amount c.audit.new.share.amount c.args.on.lb c.args.on.session c.args.on.at _ _
          (ap (λ (s : LockedState). s.books) c.in-Err.ensures.err ∙ site_is) c.audit.ensures.amount within refl,
    )

pub returns-clause-when : goal.returns-clause-when
returns-clause-when g c =
    inl (cuts_when g.L.SiteName.sizes g.L.SiteName.firsts g.L.SiteName.cut_at c.args.on.lb c.audit.new.self c.cut_first.new.self.books c.in-Ok.segment
    c.audit.ensures.named (sited_within g.L.SiteName.sizes g.L.SiteName.firsts c.audit.new.self c.args.on.lb c.audit.ensures.named c.requires.lb)
    c.in-Ok.ensures.ok c.in-Ok.ensures.when)

pub returns-clause-ok : goal.returns-clause-ok
returns-clause-ok g c =
    let site_is = c.audit.ensures.same ∙ ap (λ (s : LockedState). s.books) c.self.view_is in
    let mid_is = ap (λ (s : LockedState). s.books) c.self-2.view_is in
    let cuts = subst (λ (xs : List Journal). CutsFirst xs c.cut_first.new.self.books c.args.on.lb c.in-Ok.segment) site_is c.in-Ok.ensures.ok in
    on_ok c.command_in-done.result _ _
    (λ is. (
      c.cut_first.new.self.books,
      cuts,
      c.in-Ok.ensures.sited.1,
      held_moved (λ old new. HoldCommands g.L.SiteName.sizes old new c.args.on.lb c.args.on.session c.args.on.at c.args.command.now)
          c.self-2.inside.site c.cut_first.new.self.books c.command_in-done.new.site c.audit-2.new.self c.args.account.now.receipts.items c.command_in-done.new.account.receipts.items
          c.audit.new.share.amount c.args.account.now.share.amount c.command_in-done.new.account.share.amount c.audit-2.new.share.amount mid_is c.audit.ensures.amount
          (sym c.audit-2.ensures.same) (sym c.audit-2.ensures.amount) is,
    )) c.command_in-done.ensures.ok

pub returns-clause-err : goal.returns-clause-err
returns-clause-err g c =
    let site_is = c.audit.ensures.same ∙ ap (λ (s : LockedState). s.books) c.self.view_is in
    let mid_is = ap (λ (s : LockedState). s.books) c.self-2.view_is in
    let cuts = subst (λ (xs : List Journal). CutsFirst xs c.cut_first.new.self.books c.args.on.lb c.in-Ok.segment) site_is c.in-Ok.ensures.ok in
    if_err c.command_in-done.result _ _
    (λ e is. (
      c.cut_first.new.self.books,
      cuts,
      c.in-Ok.ensures.sited.1,
      held_moved (λ old new. HoldRefuses old new c.args.on.lb c.args.on.session c.args.on.at c.args.command.now e)
          c.self-2.inside.site c.cut_first.new.self.books c.command_in-done.new.site c.audit-2.new.self c.args.account.now.receipts.items c.command_in-done.new.account.receipts.items
          c.audit.new.share.amount c.args.account.now.share.amount c.command_in-done.new.account.share.amount c.audit-2.new.share.amount mid_is c.audit.ensures.amount
          (sym c.audit-2.ensures.same) (sym c.audit-2.ensures.amount) is,
    )) c.command_in-done.ensures.err

pub returns-in-Err-clause-ends : goal.returns-in-Err-clause-ends
returns-in-Err-clause-ends g c =
    let none : 0 ≡ length c.args.account.now.receipts.items - length c.args.account.now.receipts.items = omega arith in
    record {
      news = (ap (λ (s : LockedState). s.lb) c.in-Err.ensures.err, ap (λ (s : LockedState). s.count) c.in-Err.ensures.err ∙ none, ap (λ (s : LockedState). s.cut) c.in-Err.ensures.err, ap (λ (s : LockedState). s.cuts) c.in-Err.ensures.err ∙ ap (λ (s : LockedState). s.cuts) c.self.view_is);
      parts = c.audit.ensures.parts;
      room = omega arith;
      counted = c.in-Err.ensures.amount;
      few = omega (arith, c.audit.ensures.within, c.audit.ensures.few, c.audit.ensures.amount);
    }
