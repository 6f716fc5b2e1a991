-- The passes belong to the one table, and all of them are back.
use Rattle.std.proofs.Common.{◌∙◌, ap, refl, sym}
use Rattle.lb_model.specs.Journal.{members}
use Rattle.lb_passes.proofs.PlacedLaws.{all_back, new_origin, new_table}
use Rattle.lb_passes.specs.declared.pass_view.Origin.{Origin}
use Rattle.drill.proofs.PassLaws.{belong, closed_drill, closed_own, closed_there}
use Rattle.drill.proofs.running.passed_book.Goals as goal

pub serve_in_turns-requires-clause-place : goal.serve_in_turns-requires-clause-place
serve_in_turns-requires-clause-place g c κs within =
    let new = c.in_ok-book.ensures in
    record {
      book = (c.in_ok-book.book, c.from_ref.ensures.value, sym (new_table _ _ _ _ c.args.plan.some_threads new));
      dealt = belong c.in_ok-start.start _ _ _ c.args.plan.some_threads new;
      few = c.args.plan.few_threads;
      two = ap (λ (o : Origin). members o.opening) (new_origin _ _ _ _ c.args.plan.some_threads new) ∙ c.in_ok-start.ensures.start.two;
    }

pub close_passes-requires : goal.close_passes-requires
close_passes-requires g c = record {
  all =
      closed_there _ _ _ (new_table _ _ _ _ c.args.plan.some_threads c.in_ok-book.ensures)
      (all_back _ _ _ _ c.args.plan.some_threads c.in_ok-left.ensures.back);
}

pub returns : goal.returns
returns g c = record {
  book =
      closed_drill _ _ _ _ _ _ c.in_ok-start.ensures.start (new_origin _ _ _ _ c.args.plan.some_threads c.in_ok-book.ensures) c.in_ok-left.ensures.back c.in-Ok.ensures.closed;
  compared = record {
    told = c.in_ok-left.ensures.counted.told;
    counted = c.in_ok-left.ensures.counted.counted;
    once = λ locked. absurd cc;
    own = λ passes.
        closed_own _ _ c.in_ok-start.start _ _ _ _ (new_origin _ _ _ _ c.args.plan.some_threads c.in_ok-book.ensures) c.in_ok-left.ensures.back c.in-Ok.ensures.closed
        c.in_ok-left.ensures.counted.own;
    closed = λ passes.
        record { passes = _; many = c.in_ok-left.ensures.back.count; numbers = c.in_ok-left.ensures.back.numbers; closed = c.in-Ok.ensures.closed };
  };
  receipts = refl;
}
