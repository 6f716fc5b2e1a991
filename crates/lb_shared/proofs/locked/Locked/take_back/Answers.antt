-- The Return of one hold.
use Rattle.std.proofs.Common.{◌≡◌, ◌-◌, ◌∙◌, List, [], ◌∷◌, length, Err, sym, ap, subst, arith}
use Rattle.std.proofs.lemmas.List.{length-append}
use Rattle.lb_model.specs.declared.journal.Call.TheVariants as call
use Rattle.lb_book.specs.Journal.{Journal}
use Rattle.lb_book.specs.declared.receipt.Receipt.{Receipt}
use Rattle.lb_book.proofs.HoldLaws.{of_error}
use Rattle.lb_shared.specs.Holds.{AreShort, LockedState, held}
use Rattle.lb_shared.specs.Sites.{AddsAt}
use Rattle.lb_shared.proofs.HoldLaws.{gains_one}
use Rattle.lb_shared.proofs.LockLaws.{not_out_at, short_back, sited_within}
use Rattle.lb_shared.proofs.locked.Locked.take_back.Goals as goal

pub invariant_of-self-2 : goal.invariant_of-self-2
invariant_of-self-2 g c = (
  c.self.invariant.0,
  subst (λ (xs : List Journal). AreShort c.self.inside.cut_at xs) (sym c.audit.ensures.same)
      (short_back c.self.inside.cut_at c.self.inside.site c.give_back-done.new.self c.args.back.lease.lb c.args.back.session c.args.back.at c.args.back.lease.ticket c.args.back.outcome c.give_back-done.result
      c.self.invariant.1 c.give_back-done.ensures.ok c.give_back-done.ensures.leaves.err c.count.ensures.named.sound),
)

pub returns-clause-ok : goal.returns-clause-ok
returns-clause-ok g c =
    let books_is = ap (λ (s : LockedState). s.books) c.self.view_is in
    let after = subst (λ (xs : List Journal). AddsAt c.self.inside.site xs c.args.back.lease.lb c.args.back.session c.args.back.at (call.Return c.args.back.lease.ticket c.args.back.outcome) c.in_ok-done.field-0)
    (sym c.audit.ensures.same) c.in_ok-done.ensures.ok in
    let adds = subst (λ (xs : List Journal). AddsAt xs c.audit.new.self c.args.back.lease.lb c.args.back.session c.args.back.at (call.Return c.args.back.lease.ticket c.args.back.outcome) c.in_ok-done.field-0)
    books_is after in (
      c.in_ok-done.field-0,
      adds.called,
      gains_one (held c.args.self.now.books c.args.account.now.receipts.items c.args.account.now.share.amount) (held c.audit.new.self c.note.new.receipts.items c.audit.new.share.amount)
          c.args.back.lease.lb c.args.back.session c.args.back.at (call.Return c.args.back.lease.ticket c.args.back.outcome) c.in_ok-done.field-0 adds c.note.ensures.items
          (c.audit.ensures.amount ∙ c.in_ok-done.ensures.leaves.amount),
    )

pub returns-in_err-done-clause-stray : goal.returns-in_err-done-clause-stray
returns-in_err-done-clause-stray g c =
    of_error c.from_residual.result c.in_err-done.field-0.0 _ c.from_residual.ensures.1
    (record {
      of = c.in_err-done.ensures.stray;
      why = not_out_at {T = Receipt} g.L.SiteName.sizes g.L.SiteName.firsts c.self.inside.site c.args.back.lease (Err c.in_err-done.field-0.0) c.count.ensures.named
          (sited_within g.L.SiteName.sizes g.L.SiteName.firsts c.self.inside.site c.args.back.lease.lb c.count.ensures.named c.requires.lb)
          c.in_err-done.ensures.found c.in_err-done.ensures.returned;
    })

pub returns-clause-news : goal.returns-clause-news
returns-clause-news g c =
    let longer = ap (λ (xs : List Receipt). length xs) c.note.ensures.items ∙ length-append c.args.account.now.receipts.items (c.in_ok-done.field-0 ∷ []) in
    let one : 1 ≡ length c.note.new.receipts.items - length c.args.account.now.receipts.items = omega (arith, longer) in
    (c.lb-self-inside.ensures, one)

pub returns-in_err-done-clause-news : goal.returns-in_err-done-clause-news
returns-in_err-done-clause-news g c =
    let none : 0 ≡ length c.args.account.now.receipts.items - length c.args.account.now.receipts.items = omega arith in
    (c.lb-self-inside.ensures, none)
