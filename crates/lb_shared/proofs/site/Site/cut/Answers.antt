-- The Book's cut, told of its balancer.
use Rattle.std.proofs.Common.{◌≡◌, List, Some, refl, subst}
use Rattle.std.specs.Prelude.{slice_get, slice_set}
use Rattle.lb_book.specs.Journal.{IsSound, Journal}
use Rattle.lb_shared.specs.Shelves.{CutsAt}
use Rattle.lb_shared.proofs.SiteLaws.{at_put, here_at, kept_cut}
use Rattle.lb_shared.proofs.site.Site.cut.Goals as goal

pub invariant_of-self-2 : goal.invariant_of-self-2
invariant_of-self-2 g c =
    let here : slice_get c.self.inside.books.items c.args.lb ≡ Some c.index_mut.result.now =
    here_at c.self.inside.books.items c.args.self.now c.args.lb c.index_mut.result.now c.self.view_is c.requires.lb c.index_mut.ensures.value in
    kept_cut g.L.SiteName.sizes g.L.SiteName.firsts c.self.inside.books.items c.args.lb c.index_mut.result.now c.cut.new.self c.self.inside.total.total c.self.invariant here
    c.in_ok-segment.ensures.cut c.in_ok-segment.ensures.sound

pub returns-clause-cut : goal.returns-clause-cut
returns-clause-cut g c =
    let here : slice_get c.self.inside.books.items c.args.lb ≡ Some c.index_mut.result.now =
    here_at c.self.inside.books.items c.args.self.now c.args.lb c.index_mut.result.now c.self.view_is c.requires.lb c.index_mut.ensures.value in
    subst (λ (xs : List Journal). CutsAt xs (slice_set c.self.inside.books.items c.args.lb c.cut.new.self) c.args.lb (c.args.lb, c.in_ok-segment.segment)) c.self.view_is (record {
      book = c.index_mut.result.now;
      after = c.cut.new.self;
      found = here;
      balancer = refl;
      whole = c.in_ok-segment.ensures.whole;
      legal = c.in_ok-segment.ensures.legal;
      is_cut = c.in_ok-segment.ensures.cut;
      others = refl;
    })

pub returns-clause-sound : goal.returns-clause-sound
returns-clause-sound g c =
    let here : slice_get c.self.inside.books.items c.args.lb ≡ Some c.index_mut.result.now =
    here_at c.self.inside.books.items c.args.self.now c.args.lb c.index_mut.result.now c.self.view_is c.requires.lb c.index_mut.ensures.value in
    at_put (λ (b : Journal). IsSound b) c.self.inside.books.items c.args.lb c.index_mut.result.now c.cut.new.self here c.in_ok-segment.ensures.sound
