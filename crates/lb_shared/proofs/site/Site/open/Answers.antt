-- Books that have added nothing are those of a Site.
use Rattle.std.proofs.Common.{◌≡◌, ◌∙◌, List, sym, subst}
use Rattle.lb_book.specs.Journal.{Journal}
use Rattle.lb_book.specs.PlainDesks.{AreLegal}
use Rattle.lb_shared.specs.Sites.{AreSited, added_in}
use Rattle.lb_shared.proofs.SiteLaws.{opened}
use Rattle.lb_shared.proofs.site.Site.open.Goals as goal

pub invariant_of-result : goal.invariant_of-result
invariant_of-result g c =
    let sound = subst (λ (xs : List Journal). AreLegal xs) (c.as_slice.ensures.value ∙ c.into_vec-books.ensures) c.vouch.ensures in
    subst (λ (xs : List Journal). (c.open-total.result.0.total ≡ added_in xs) × AreSited g.L.SiteName.sizes g.L.SiteName.firsts xs) (sym c.into_vec-books.ensures)
    (opened g.L.SiteName.sizes g.L.SiteName.firsts c.args.books c.open-total.result.0.total c.open-total.ensures.total c.requires.sizes c.requires.firsts
    c.requires.few c.requires.modern c.requires.fresh sound)
