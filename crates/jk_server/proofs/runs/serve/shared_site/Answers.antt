use Rattle.std.proofs.Common.{◌≡◌, List, [], ap, sym, subst, ◌∙◌, arith}
use Rattle.std.specs.List.{All}
use Rattle.lb_book.specs.Journal.{Journal}
use Rattle.lb_shared.specs.Histories.{starts_of}
use Rattle.lb_shared.specs.Sites.{At}
use Rattle.site_reports.proofs.StartLaws.{starts_modern, starts_sizes}
use Rattle.jk_server.proofs.BookLaws.{new_added, new_count, new_empty, new_fresh, new_nexts}
use Rattle.jk_server.proofs.runs.serve.shared_site.Goals as goal

pub open-site-requires-clause-name : goal.open-site-requires-clause-name
open-site-requires-clause-name g c = c.requires.blank.named

pub open-site-requires-clause-parts : goal.open-site-requires-clause-parts
open-site-requires-clause-parts g c = c.requires.blank.whole

pub open-site-requires-clause-sizes : goal.open-site-requires-clause-sizes
open-site-requires-clause-sizes g c =
    starts_sizes c.args.plan.cfg.now.lbs c.args.new.at 0 c.args.new.books c.requires.books ∙ sym c.requires.sized

pub open-site-requires-clause-firsts : goal.open-site-requires-clause-firsts
open-site-requires-clause-firsts g c =
    new_nexts c.args.plan.cfg.now.lbs c.args.new.at c.args.new.books c.requires.books ∙ sym c.requires.numbered

pub open-site-requires-clause-few : goal.open-site-requires-clause-few
open-site-requires-clause-few g c =
    omega (arith, new_count c.args.plan.cfg.now.lbs c.args.new.at c.args.new.books c.requires.books, c.args.plan.cfg.now.few)

pub open-site-requires-clause-modern : goal.open-site-requires-clause-modern
open-site-requires-clause-modern g c = starts_modern c.args.plan.cfg.now.lbs c.args.new.at 0 c.args.new.books c.requires.books

pub open-site-requires-clause-fresh : goal.open-site-requires-clause-fresh
open-site-requires-clause-fresh g c = new_added c.args.plan.cfg.now.lbs c.args.new.at c.args.new.books c.requires.books

pub new-requires-clause-uncut : goal.new-requires-clause-uncut
new-requires-clause-uncut g c = λ above lb.
    subst (λ (books : List Journal). At books lb (λ b. b.entries ≡ [])) (sym c.open-site.ensures.books)
    (new_empty c.args.plan.cfg.now.lbs c.args.new.at c.args.new.books c.requires.books lb)

pub new-requires-clause-named : goal.new-requires-clause-named
new-requires-clause-named g c = sym c.requires.cut_so

pub new-requires-clause-starts : goal.new-requires-clause-starts
new-requires-clause-starts g c = ap (λ (bs : List Journal). starts_of bs) c.open-site.ensures.books ∙ sym c.requires.begun

pub new-requires-clause-fresh : goal.new-requires-clause-fresh
new-requires-clause-fresh g c =
    subst (λ (bs : List Journal). All (λ b. (b.entries ≡ []) × (b.added ≡ 0)) bs) (sym c.open-site.ensures.books)
    (new_fresh c.args.plan.cfg.now.lbs c.args.new.at c.args.new.books c.requires.books)
