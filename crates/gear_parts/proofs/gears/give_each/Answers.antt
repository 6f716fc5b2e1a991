use Rattle.std.proofs.Common.{◌≡◌, length, ap, refl, ◌∙◌, arith}
use Rattle.gear_parts.proofs.ListLaws.{none_left}
use Rattle.gear_parts.proofs.WorldLaws.{back_all, back_on}
use Rattle.gear_parts.proofs.gears.give_each.Goals as goal

pub gears-init : goal.gears-init
gears-init g c = record { came_back = refl; out = refl; same = (refl, refl); unshown = refl }

pub gears-preserved : goal.gears-preserved
gears-preserved g c = record {
  came_back = back_on _ _ _ _ _ _ c.in-Some.gear c.gears.invariant.came_back c.in-Some.ensures.items c.back.ensures.came_back;
  out = omega (arith, c.gears.invariant.out, ap length c.in-Some.ensures.items, c.back.ensures.one_less);
  same = (c.back.ensures.same.0 ∙ c.gears.invariant.same.0, c.back.ensures.same.1 ∙ c.gears.invariant.same.1);
  unshown = c.back.ensures.unshown ∙ c.gears.invariant.unshown;
}

pub gears-smaller : goal.gears-smaller
gears-smaller g c = omega (arith, ap length c.in-Some.ensures.items)

pub returns-clause-came_back : goal.returns-clause-came_back
returns-clause-came_back g c =
    back_all _ _ _ _ c.gears.invariant.came_back (none_left _ _ c.gears.gears.rest.ok.0 c.in_default.ensures.variant.1)

pub returns-clause-fewer : goal.returns-clause-fewer
returns-clause-fewer g c =
    let none : length c.gears.gears.rest.items ≡ 0 = none_left _ _ c.gears.gears.rest.ok.0 c.in_default.ensures.variant.1 in
    omega (arith, c.gears.invariant.out, none)

pub returns-clause-same : goal.returns-clause-same
returns-clause-same g c = c.gears.invariant.same
