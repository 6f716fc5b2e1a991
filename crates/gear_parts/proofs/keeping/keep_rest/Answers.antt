use Rattle.std.proofs.Common.{◌≡◌, ◌∙◌, length, ap, refl, arith}
use Rattle.std.proofs.lemmas.Result.{err_from_is_err_and}
use Rattle.std.proofs.lemmas.List.{nil_from_length}
use Rattle.gear_parts.proofs.KeepingLaws.{all_cut, front_cut, none_cut, one_cut}
use Rattle.gear_parts.proofs.WorldLaws.{cause_on, no_cause, on_err}
use Rattle.gear_parts.proofs.keeping.keep_rest.Goals as goal

pub books-init : goal.books-init
books-init g c =
    let all : c.into_iter-book-iterator.result.rest.items ≡ c.args.books = cc in
    record { cut = none_cut _ _ _ all; counted = omega (arith, ap length all); steady = refl }

pub books-preserved : goal.books-preserved
books-preserved g c = record {
  cut = one_cut g.S.Shelf.shelved _ _ _ _ _ _ _ _ c.books.invariant.cut c.in-Some.ensures.steps.0 c.in_ok-keep_last.ensures.kept;
  counted = omega (arith, c.books.invariant.counted, ap length c.in-Some.ensures.steps.0);
  steady = c.in_ok-keep_last.ensures.stands ∙ c.books.invariant.steady;
}

pub returns-in_err-keep_last-clause-front : goal.returns-in_err-keep_last-clause-front
returns-in_err-keep_last-clause-front g c =
    on_err c.from_residual.result _
    (front_cut g.S.Shelf.shelved c.args.books _ _ _ c.args.shelf.now c.books.shelf c.keep_last.new.shelf c.in-Some.book
    c.books.invariant.cut c.in-Some.ensures.steps.0 c.in_err-keep_last.ensures.refused)

pub returns-clause-kept : goal.returns-clause-kept
returns-clause-kept g c =
    all_cut g.S.Shelf.shelved c.args.books _ _ c.args.shelf.now c.books.shelf c.books.invariant.cut
    (nil_from_length _ (omega (arith, c.in-None.ensures.steps.0, c.books.book-iterator.rest.ok.0)))

pub returns-in_err-keep_last-clause-cause : goal.returns-in_err-keep_last-clause-cause
returns-in_err-keep_last-clause-cause g c =
    let p = err_from_is_err_and c.from_residual.result c.from_residual.ensures.1 in
    rw (p.1, p.2) (cause_on _ _ _ c.in_err-keep_last.field-0.0 c.books.invariant.steady c.in_err-keep_last.ensures.cause)

pub returns-clause-cause : goal.returns-clause-cause
returns-clause-cause g c = no_cause _ _ _ c.books.invariant.steady
