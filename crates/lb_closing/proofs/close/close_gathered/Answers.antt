-- The gathered receipts compared with the kept entries: each entry once, or the first discord.
use Rattle.std.proofs.Common.{List, refl, subst}
use Rattle.lb_shared.specs.Histories.{IsClosedAfter, SeatNote}
use Rattle.lb_book.proofs.HoldLaws.{of_error}
use Rattle.lb_closing.proofs.CloseLaws.{close_error, differs_from, once_from}
use Rattle.lb_closing.proofs.close.close_gathered.Goals as goal

pub returns-in_err-compare-clause-differs : goal.returns-in_err-compare-clause-differs
returns-in_err-compare-clause-differs g c =
    of_error c.from_residual.result c.in_err-compare.field-0.0 _ c.from_residual.ensures.1
    (close_error _ _ c.in_err-compare.field-0.0
    (λ d is. differs_from g.L.SiteName.sizes g.L.SiteName.firsts c.args.all.share.amount _ c.args.all.forgot _ c.args.all.noted.items _ c.end_site-books.result.0 c.as_slice.result.now d
    g.L.SiteName.starts _ _ (λ e. e) refl c.as_slice.ensures c.end_site-books.ensures.sited c.end_site-books.ensures.amount refl
    (subst (λ (ss : List SeatNote). IsClosedAfter g.L.SiteName.starts ss c.args.all.cuts.amount c.end_site-books.result.0) c.from_vec.ensures c.end_site-books.ensures.history) is)
    c.in_err-compare.ensures.differs)

pub returns-clause-once : goal.returns-clause-once
returns-clause-once g c =
    once_from c.args.all.forgot _ c.args.all.noted.items _ c.end_site-books.result.0 c.as_slice.result.now
    (λ e. e) refl c.as_slice.ensures c.in_ok-compare.ensures.once
