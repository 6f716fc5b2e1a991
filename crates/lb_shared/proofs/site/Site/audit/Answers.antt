-- The entries of a Site's Books are few.
use Rattle.std.proofs.Common.{◌≤◌, ◌^◌, List, subst}
use Rattle.lb_book.specs.Journal.{Journal}
use Rattle.lb_shared.specs.Sites.{added_in}
use Rattle.lb_shared.proofs.SiteLaws.{added-few}
use Rattle.lb_shared.proofs.site.Site.audit.Goals as goal

pub returns-clause-few : goal.returns-clause-few
returns-clause-few g c =
    subst (λ (xs : List Journal). added_in xs ≤ 2 ^ 58) c.self.view_is (added-few g.L.SiteName.sizes g.L.SiteName.firsts c.self.inside.books.items c.self.invariant.1)
