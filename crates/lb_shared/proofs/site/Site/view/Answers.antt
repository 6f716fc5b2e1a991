-- The view of a Book, told of its balancer.
use Rattle.std.proofs.Common.{◌≡◌, Some}
use Rattle.std.specs.Prelude.{slice_get}
use Rattle.lb_model.specs.Present.{IsPresent}
use Rattle.lb_book.specs.Bounds.{ChoseWell, IsBounded}
use Rattle.lb_book.specs.Journal.{IsSound, Journal, past_of}
use Rattle.lb_book.specs.Weights.{AreLevel, IsEvenEpoch}
use Rattle.lb_shared.proofs.SiteLaws.{at_here, here_at}
use Rattle.lb_shared.proofs.site.Site.view.Goals as goal

pub returns-clause-choices : goal.returns-clause-choices
returns-clause-choices g c =
    let here : slice_get c.self.inside.books.items c.args.lb ≡ Some c.index.result.now =
    here_at c.self.inside.books.items c.args.self.now c.args.lb c.index.result.now c.self.view_is c.requires.lb c.index.ensures in
    at_here (λ (b : Journal). ChoseWell b) c.self.inside.books.items c.args.self.now c.args.lb c.index.result.now c.self.view_is here c.in_ok-view.ensures.choices

pub returns-clause-weights : goal.returns-clause-weights
returns-clause-weights g c =
    let here : slice_get c.self.inside.books.items c.args.lb ≡ Some c.index.result.now =
    here_at c.self.inside.books.items c.args.self.now c.args.lb c.index.result.now c.self.view_is c.requires.lb c.index.ensures in
    at_here (λ (b : Journal). IsEvenEpoch b.rules b.opening (past_of b) → AreLevel b c.in_ok-view.view) c.self.inside.books.items c.args.self.now c.args.lb c.index.result.now c.self.view_is here
    c.in_ok-view.ensures.weights

pub returns-clause-present : goal.returns-clause-present
returns-clause-present g c =
    let here : slice_get c.self.inside.books.items c.args.lb ≡ Some c.index.result.now =
    here_at c.self.inside.books.items c.args.self.now c.args.lb c.index.result.now c.self.view_is c.requires.lb c.index.ensures in
    at_here (λ (b : Journal). IsPresent b.rules b.opening (past_of b) c.in_ok-view.view) c.self.inside.books.items c.args.self.now c.args.lb c.index.result.now c.self.view_is here c.in_ok-view.ensures.present

pub returns-clause-sound : goal.returns-clause-sound
returns-clause-sound g c =
    let here : slice_get c.self.inside.books.items c.args.lb ≡ Some c.index.result.now =
    here_at c.self.inside.books.items c.args.self.now c.args.lb c.index.result.now c.self.view_is c.requires.lb c.index.ensures in
    at_here (λ (b : Journal). IsSound b) c.self.inside.books.items c.args.self.now c.args.lb c.index.result.now c.self.view_is here c.in_ok-view.ensures.sound

pub returns-clause-bounded : goal.returns-clause-bounded
returns-clause-bounded g c =
    let here : slice_get c.self.inside.books.items c.args.lb ≡ Some c.index.result.now =
    here_at c.self.inside.books.items c.args.self.now c.args.lb c.index.result.now c.self.view_is c.requires.lb c.index.ensures in
    at_here (λ (b : Journal). IsBounded b c.in_ok-view.view) c.self.inside.books.items c.args.self.now c.args.lb c.index.result.now c.self.view_is here c.in_ok-view.ensures.bounded

pub returns-in_err-view-clause-sound : goal.returns-in_err-view-clause-sound
returns-in_err-view-clause-sound g c =
    let here : slice_get c.self.inside.books.items c.args.lb ≡ Some c.index.result.now =
    here_at c.self.inside.books.items c.args.self.now c.args.lb c.index.result.now c.self.view_is c.requires.lb c.index.ensures in
    at_here (λ (b : Journal). IsSound b) c.self.inside.books.items c.args.self.now c.args.lb c.index.result.now c.self.view_is here c.in_err-view.ensures.sound

pub returns-in_err-view-clause-choices : goal.returns-in_err-view-clause-choices
returns-in_err-view-clause-choices g c =
    let here : slice_get c.self.inside.books.items c.args.lb ≡ Some c.index.result.now =
    here_at c.self.inside.books.items c.args.self.now c.args.lb c.index.result.now c.self.view_is c.requires.lb c.index.ensures in
    at_here (λ (b : Journal). ChoseWell b) c.self.inside.books.items c.args.self.now c.args.lb c.index.result.now c.self.view_is here c.in_err-view.ensures.choices
