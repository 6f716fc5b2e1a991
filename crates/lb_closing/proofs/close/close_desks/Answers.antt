-- The gathered receipts are those that the desks left.
use Rattle.std.proofs.Common.{refl}
use Rattle.lb_closing.proofs.CloseLaws.{differs_left, err_left, ok_left, once_from}
use Rattle.lb_closing.proofs.close.close_desks.Goals as goal

pub returns-clause-history : goal.returns-clause-history
returns-clause-history g c = ok_left _ _ c.close_gathered.result (λ closed is. (is.closed.log, is.closed.history)) c.close_gathered.ensures.history

pub returns-clause-once : goal.returns-clause-once
returns-clause-once g c =
    ok_left _ _ c.close_gathered.result
    (λ closed is none uncut. once_from _ _ _ _ closed.books closed.books
    c.in_ok-all.ensures.forgot.1 c.in_ok-all.ensures.noted refl is none uncut) c.close_gathered.ensures.once

pub returns-clause-all : goal.returns-clause-all
returns-clause-all g c =
    err_left _ _ c.close_gathered.result
    (λ d is. (differs_left g.L.SiteName.sizes g.L.SiteName.firsts _ _ _ _ _ _ d _ _ _ c.in_ok-all.ensures.forgot.0 c.in_ok-all.ensures.noted c.in_ok-all.ensures.amount is).0)
    c.close_gathered.ensures.differs

pub returns-clause-differs : goal.returns-clause-differs
returns-clause-differs g c =
    err_left _ _ c.close_gathered.result
    (λ d is. (differs_left g.L.SiteName.sizes g.L.SiteName.firsts _ _ _ _ _ _ d _ _ _ c.in_ok-all.ensures.forgot.0 c.in_ok-all.ensures.noted c.in_ok-all.ensures.amount is).1)
    c.close_gathered.ensures.differs
