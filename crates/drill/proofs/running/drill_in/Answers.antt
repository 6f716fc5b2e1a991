use Rattle.std.proofs.Common.{sym, ◌∙◌}
use Rattle.drill.proofs.ClosingLaws.{closed_once, drill_books, started-nexts, started-sizes}
use Rattle.drill.proofs.StartLaws.{all_begin}
use Rattle.drill.proofs.running.drill_in.Goals as goal

pub returns-clause-one : goal.returns-clause-one
returns-clause-one g c =
    let started = c.requires.books in
    let sized = sym c.requires.sizes ∙ started-sizes started.0 c.args.books started.1 started.2 in
    let first = sym c.requires.firsts ∙ started-nexts started.0 c.args.books started.1 started.2 in
    (drill_books (λ x. x.books) c.close_books.result _ _ sized first c.close_books.ensures.sited).0

pub returns-clause-books : goal.returns-clause-books
returns-clause-books g c =
    let started = c.requires.books in
    let sized = sym c.requires.sizes ∙ started-sizes started.0 c.args.books started.1 started.2 in
    let first = sym c.requires.firsts ∙ started-nexts started.0 c.args.books started.1 started.2 in
    (drill_books (λ x. x.books) c.close_books.result _ _ sized first c.close_books.ensures.sited).1

pub returns-clause-cause : goal.returns-clause-cause
returns-clause-cause g c = c.close_books.ensures.cause

pub returns-clause-begins : goal.returns-clause-begins
returns-clause-begins g c =
    let started = c.requires.books in
    all_begin (λ x. x.books) c.close_books.result _ c.args.books started.0 c.requires.starts started.1 started.2 c.close_books.ensures.history

pub returns-clause-once : goal.returns-clause-once
returns-clause-once g c =
    closed_once c.args.plan.seed c.args.plan.threads c.args.plan.requests _ _ _ (λ x. x.books) (λ x. x.bodies) c.close_books.result
    c.in_ok-left.ensures.counted c.close_books.ensures.bodies c.close_books.ensures.once
