use Rattle.std.proofs.Common.{◌≡◌, ap, ◌∙◌, Err, inr, sym}
use Rattle.jk_io.specs.Told.{HasCause, Rose}
use Rattle.jk_io.specs.declared.failures.IoError.TheVariants.{Failed, NoMemory}
use Rattle.gear_parts.specs.Cuts.{AddsCuts, AddsFront}
use Rattle.gear_parts.proofs.ListLaws.{some_so, written_back}
use Rattle.jk_server.proofs.CutLaws.{both_first, first_back, first_weaker, of_err}
use Rattle.jk_server.proofs.runs.closing.close_books.Goals as goal

pub keep_on_first-kept-requires-clause-some : goal.keep_on_first-kept-requires-clause-some
keep_on_first-kept-requires-clause-some g c = some_so _ _ c.as_mut_slice.ensures.len c.requires.some

pub returns-in-Ok : goal.returns-in-Ok
returns-in-Ok g c = λ sizes firsts starts seats ended. (
  c.args.closed.books,
  ended,
  first_back (AddsCuts g.S.Shelf.shelved c.args.closed.books) _ _ _ _ c.as_mut_slice.ensures.value
      (written_back c.args.gears.now.len c.keep_on_first-kept.new.gears _ (sym c.as_mut_slice.ensures.len ∙ sym c.keep_on_first-kept.ensures.len))
      c.in-Ok.ensures.kept,
)

pub returns-in-Err-Failed : goal.returns-in-Err-Failed
returns-in-Err-Failed g c = λ sizes firsts starts seats ended.
    let here : c.in-Err-Failed.field-0 ≡ Failed = rw c.in-Err-Failed.is at c.in-Err-Failed.field-0-is in
    let failed : c.keep_on_first-kept.result ≡ Err Failed = c.in-Err-Failed.is ∙ ap Err here in (
      c.args.closed.books,
      ended,
      first_back (λ old new. AddsFront g.S.Shelf.shelved c.args.closed.books old new × Rose (g.S.Shelf.faults old) (g.S.Shelf.faults new)) _ _ _ _
          c.as_mut_slice.ensures.value
          (written_back c.args.gears.now.len c.keep_on_first-kept.new.gears _ (sym c.as_mut_slice.ensures.len ∙ sym c.keep_on_first-kept.ensures.len))
          (both_first (AddsFront g.S.Shelf.shelved c.args.closed.books) (λ old new. Rose (g.S.Shelf.faults old) (g.S.Shelf.faults new)) _ _
          (of_err c.keep_on_first-kept.result _ _ c.in-Err-Failed.is c.keep_on_first-kept.ensures.front) (c.keep_on_first-kept.ensures.failed failed)),
    )

pub returns : goal.returns
returns g c = λ sizes firsts starts seats ended.
    let here : c.in-Err-NoMemory.field-0 ≡ NoMemory = rw c.in-Err-NoMemory.is at c.in-Err-NoMemory.field-0-is in
    let wanted : c.keep_on_first-kept.result ≡ Err NoMemory = c.in-Err-NoMemory.is ∙ ap Err here in
    inr (
      c.args.closed.books,
      ended,
      first_back (λ old new. AddsFront g.S.Shelf.shelved c.args.closed.books old new × (g.S.Shelf.faults new ≡ g.S.Shelf.faults old)) _ _ _ _
          c.as_mut_slice.ensures.value
          (written_back c.args.gears.now.len c.keep_on_first-kept.new.gears _ (sym c.as_mut_slice.ensures.len ∙ sym c.keep_on_first-kept.ensures.len))
          (both_first (AddsFront g.S.Shelf.shelved c.args.closed.books) (λ old new. g.S.Shelf.faults new ≡ g.S.Shelf.faults old) _ _
          (of_err c.keep_on_first-kept.result _ _ c.in-Err-NoMemory.is c.keep_on_first-kept.ensures.front)
          (first_weaker (λ old new. HasCause (g.S.Shelf.faults old) (g.S.Shelf.faults new) c.keep_on_first-kept.result)
          (λ old new. g.S.Shelf.faults new ≡ g.S.Shelf.faults old) _ _ (λ old new cause. cause.wanted wanted) c.keep_on_first-kept.ensures.cause)),
    )
