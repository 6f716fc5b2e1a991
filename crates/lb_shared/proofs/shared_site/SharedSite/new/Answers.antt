-- A Site whose Books have no entry is at the start of its history, with no cut.
use Rattle.std.proofs.Common.{◌≡◌, List, [], ◌∙◌, subst, sym, ap}
use Rattle.lb_book.specs.Journal.{Journal}
use Rattle.lb_shared.specs.Histories.{IsMadeBy}
use Rattle.lb_shared.specs.Holds.{LockedState}
use Rattle.lb_shared.proofs.HistoryLaws.{begun_history}
use Rattle.lb_shared.proofs.JournalLaws.{made_begun}
use Rattle.lb_shared.proofs.shared_site.SharedSite.new.Goals as goal

pub open-requires : goal.open-requires
open-requires g c =
    let books : c.new.result.books ≡ c.args.site = ap (λ (l : LockedState). l.books) c.new.ensures in (
      subst (λ (bs : List Journal). IsMadeBy g.L.SiteName.starts [] bs) (sym books)
          (made_begun g.L.SiteName.starts c.args.site
          (begun_history g.L.SiteName.sizes g.L.SiteName.firsts g.L.SiteName.starts c.args.site c.count.ensures.named c.requires.starts c.requires.fresh)),
      ap (λ (l : LockedState). l.cuts) c.new.ensures ∙ c.open-tally.ensures.total,
    )
