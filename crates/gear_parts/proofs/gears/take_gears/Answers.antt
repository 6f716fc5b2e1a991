use Rattle.std.proofs.Common.{refl, arith}
use Rattle.gear_parts.proofs.WorldLaws.{all_back, cause_again, no_cause, none_taken, on_err}
use Rattle.gear_parts.proofs.gears.take_gears.Goals as goal

pub give_back-requires-clause-out : goal.give_back-requires-clause-out
give_back-requires-clause-out g c κs = omega (arith, c.in-Err.ensures.taken.passed.counted, c.fill_gears.new.gears.ok.0)

pub returns-in_err-gears-clause-refused : goal.returns-in_err-gears-clause-refused
returns-in_err-gears-clause-refused g c =
    on_err c.from_residual.result _ (none_taken c.args.threads _ (λ none. let fails = c.in_err-gears.ensures.succeeds none in cc))

pub returns-in-Err-clause-refused : goal.returns-in-Err-clause-refused
returns-in-Err-clause-refused g c =
    let gears = c.fill_gears.new.gears in record {
      gears = gears.items;
      passed =
          all_back _ _ _ _ c.in-Err.ensures.taken.passed c.give_back.ensures.came_back (omega (arith, c.give_back.ensures.fewer, gears.ok.0))
          c.give_back.ensures.same.0 c.give_back.ensures.same.1;
      fewer = omega (arith, c.in-Err.ensures.fewer, gears.ok.0);
    }

pub returns-in-Err-clause-cause : goal.returns-in-Err-clause-cause
returns-in-Err-clause-cause g c = cause_again _ _ _ _ c.in-Err.ensures.counts.cause c.give_back.ensures.same.1

pub returns-in-Ok-clause-taken : goal.returns-in-Ok-clause-taken
returns-in-Ok-clause-taken g c = c.in-Ok.ensures.taken.passed

pub returns-in-Ok-clause-count : goal.returns-in-Ok-clause-count
returns-in-Ok-clause-count g c = c.in-Ok.ensures.count

pub returns-in-Ok-clause-made : goal.returns-in-Ok-clause-made
returns-in-Ok-clause-made g c = c.in-Ok.ensures.taken.made

pub returns-in-Ok-clause-idle : goal.returns-in-Ok-clause-idle
returns-in-Ok-clause-idle g c = c.in-Ok.ensures.taken.idle

pub returns-in-Ok-clause-suited : goal.returns-in-Ok-clause-suited
returns-in-Ok-clause-suited g c = c.in-Ok.ensures.taken.suited

pub returns-in-Ok-clause-cause : goal.returns-in-Ok-clause-cause
returns-in-Ok-clause-cause g c = no_cause _ _ _ (c.in-Ok.ensures.counts.steady refl)
