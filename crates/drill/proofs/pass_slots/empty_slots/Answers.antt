-- One pass after the other comes out.
use Rattle.std.proofs.Common.{◌≡◌, List, [], ap, arith, length, refl, subst, sym}
use Rattle.lb_passes.specs.Placed.{AreEachBack}
use Rattle.lb_passes.specs.declared.pass.Pass.{Pass}
use Rattle.drill.proofs.PassLaws.{back_put, no_more, none_put, one_put}
use Rattle.drill.proofs.BodyLaws.{none_together, one_together}
use Rattle.drill.proofs.pass_slots.empty_slots.Goals as goal

pub slots-init : goal.slots-init
slots-init g c =
    let all : c.into_iter-slot-iterator.result.rest.items ≡ c.args.slots.items = cc in
    record {
      numbers = none_put _ _ _ _ _ c.requires.none all;
      own = none_put _ _ _ _ _ c.requires.none all;
      bodies = rw all refl;
      back = subst (λ (ps : List Pass). AreEachBack g.P.PassPlace.table g.P.PassPlace.origin g.P.PassPlace.given ps) (sym c.requires.none) tt;
      room = omega (arith, ap length all, ap length c.requires.none, c.args.passes.now.ok.0, c.args.slots.ok.0, c.requires.room);
    }

pub slots-preserved : goal.slots-preserved
slots-preserved g c =
    let inv = c.slots.invariant in
    let first = c.in-Some.ensures.steps.0 in
    let pushed = c.push_reserved.ensures.items in
    let same : c.into_pass.result.number ≡ c.in-Some.slot.number = cc (c.into_pass.ensures.number, c.in-Some.slot.caller) in
    record {
      numbers = one_put _ _ _ _ _ _ _ _ _ inv.numbers first pushed same;
      own = one_put _ _ _ _ _ _ _ _ _ inv.own first pushed c.into_pass.ensures.own;
      bodies = one_together _ _ _ _ _ _ _ inv.bodies first c.together-bodies.ensures;
      back = back_put _ _ _ _ _ _ inv.back pushed c.into_pass.ensures.back;
      room = omega (arith, ap length first, inv.room, c.push_reserved.ensures.len, c.push_reserved.ensures.capacity);
    }

pub returns-clause-numbers : goal.returns-clause-numbers
returns-clause-numbers g c =
    let none : length c.slots.slot-iterator.rest.items ≡ 0 = omega (arith, c.in-None.ensures.steps.0, c.slots.slot-iterator.rest.ok.0) in
    no_more _ _ _ _ _ c.slots.invariant.numbers none

pub returns-clause-back : goal.returns-clause-back
returns-clause-back g c = c.slots.invariant.back

pub returns-clause-own : goal.returns-clause-own
returns-clause-own g c =
    let none : length c.slots.slot-iterator.rest.items ≡ 0 = omega (arith, c.in-None.ensures.steps.0, c.slots.slot-iterator.rest.ok.0) in
    no_more _ _ _ _ _ c.slots.invariant.own none

pub returns-clause-bodies : goal.returns-clause-bodies
returns-clause-bodies g c =
    let none : length c.slots.slot-iterator.rest.items ≡ 0 = omega (arith, c.in-None.ensures.steps.0, c.slots.slot-iterator.rest.ok.0) in
    none_together _ _ _ _ c.slots.invariant.bodies none
