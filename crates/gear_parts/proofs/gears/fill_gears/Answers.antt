use Rattle.std.proofs.Common.{◌∙◌, refl, arith}
use Rattle.std.proofs.lemmas.Result.{IfOk-from_err, err_from_is_err_and}
use Rattle.gear_parts.proofs.WorldLaws.{cause_on, no_cause, none_yet, taken_on, taken_still}
use Rattle.gear_parts.proofs.gears.fill_gears.Goals as goal

pub gears-init : goal.gears-init
gears-init g c = record {
  taken = none_yet _ _ _ _ _ (omega (arith, c.requires.none, c.args.gears.now.ok.0));
  count = c.requires.none;
  steady = refl;
  unshown = refl;
  room = c.requires.room;
}

pub gears-preserved : goal.gears-preserved
gears-preserved g c = record {
  taken = taken_on _ _ _ _ _ _ _ _ _ c.gears.invariant.taken (omega (arith, c.gears.invariant.count, c.gears.gears.ok.0)) c.in_ok-take_gear.ensures.ok;
  count = omega (arith, c.gears.invariant.count, c.in_ok-take_gear.ensures.room.0);
  steady = c.in_ok-take_gear.ensures.counts.steady refl ∙ c.gears.invariant.steady;
  unshown = c.in_ok-take_gear.ensures.unshown ∙ c.gears.invariant.unshown;
  room = omega (arith, c.gears.invariant.room, c.in_ok-take_gear.ensures.room.1);
}

pub returns-in_err-take_gear-clause-taken : goal.returns-in_err-take_gear-clause-taken
returns-in_err-take_gear-clause-taken g c =
    taken_still _ _ _ _ _ _ _ _ c.gears.invariant.taken c.in_err-take_gear.ensures.err c.in_err-take_gear.ensures.same

pub returns-in_err-take_gear-clause-count : goal.returns-in_err-take_gear-clause-count
returns-in_err-take_gear-clause-count g c = IfOk-from_err c.from_residual.result _ c.from_residual.ensures.0

pub returns-in_err-take_gear-clause-counts : goal.returns-in_err-take_gear-clause-counts
returns-in_err-take_gear-clause-counts g c =
    let p = err_from_is_err_and c.from_residual.result c.from_residual.ensures.1 in
    rw (p.1, p.2)
    (record {
      cause = cause_on _ _ _ c.in_err-take_gear.field-0.0 c.gears.invariant.steady c.in_err-take_gear.ensures.counts.cause;
      steady = λ no. absurd cc;
    })

pub returns-clause-taken : goal.returns-clause-taken
returns-clause-taken g c = c.gears.invariant.taken

pub returns-clause-counts : goal.returns-clause-counts
returns-clause-counts g c = record { cause = no_cause _ _ _ c.gears.invariant.steady; steady = λ _. c.gears.invariant.steady }
