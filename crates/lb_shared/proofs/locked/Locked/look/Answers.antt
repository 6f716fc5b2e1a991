-- A look at a Book: its rows and its next number, as they are at present.
use Rattle.std.proofs.Common.{◌≤◌, List, sym, subst}
use Rattle.lb_book.specs.Journal.{Journal}
use Rattle.lb_shared.specs.Sites.{added_in}
use Rattle.lb_shared.proofs.LockLaws.{both_ok, if_ok, look_next, look_present, look_rows, sited_within}
use Rattle.lb_shared.proofs.locked.Locked.look.Goals as goal

pub returns-clause-ok : goal.returns-clause-ok
returns-clause-ok g c =
    let within = sited_within g.L.SiteName.sizes g.L.SiteName.firsts c.audit.new.self c.args.lb c.audit.ensures.named c.requires.lb in
    both_ok c.view.result _ _ _
    (λ v of present. record {
      of = of;
      rows = look_rows g.L.SiteName.sizes g.L.SiteName.firsts c.audit.new.self c.args.lb v.view c.audit.ensures.named within present;
      present = look_present g.L.SiteName.sizes g.L.SiteName.firsts c.audit.new.self c.args.lb v.view c.audit.ensures.named within present;
    }) c.view.ensures.lb c.view.ensures.present

pub returns-clause-next : goal.returns-clause-next
returns-clause-next g c =
    let most = subst (λ (xs : List Journal). c.args.share.now.amount ≤ added_in xs) (sym c.audit.ensures.same) c.audit.ensures.within in
    if_ok c.view.result _ _
    (λ v present. look_next g.L.SiteName.sizes g.L.SiteName.firsts c.audit.new.self c.args.lb c.args.share.now.amount v.view c.audit.ensures.named
    (sited_within g.L.SiteName.sizes g.L.SiteName.firsts c.audit.new.self c.args.lb c.audit.ensures.named c.requires.lb) most present)
    c.view.ensures.present
