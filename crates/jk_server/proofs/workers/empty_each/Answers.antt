use Rattle.std.proofs.Common.{ap, length, refl, sym, arith}
use Rattle.std.proofs.lemmas.List.Elements.{All-head, All-rest, All-same}
use Rattle.gear_parts.proofs.ListLaws.{none_left}
use Rattle.jk_server.specs.Parts.{WorkerIsOver}
use Rattle.jk_server.proofs.SlotLaws.{all_taken, empty_of, none_taken, one_taken, space_after, space_for_one}
use Rattle.jk_server.proofs.workers.empty_each.Goals as goal

pub slots-init : goal.slots-init
slots-init g c = record {
  so_far = none_taken _ _ _ _ _ _ c.requires.room.no_gear c.requires.room.no_left c.requires.room.no_end refl;
  over = c.requires.over;
  space = c.requires.room.space;
}

pub slots-preserved : goal.slots-preserved
slots-preserved g c =
    let first = c.in-Some.ensures.items in
    let put = c.put_left.ensures in
    record {
      so_far = one_taken _ _ _ _ _ _ _ _ _ _ _ _ _ _ c.slots.invariant.so_far first c.leave_slot-gear.ensures.left put.gears put.lefts put.ends;
      over = All-rest (λ s. WorkerIsOver s) _ _ _ first c.slots.invariant.over;
      space = space_after _ _ _ _ _ _ _ _ put c.slots.invariant.space first;
    }

pub slots-smaller : goal.slots-smaller
slots-smaller g c = omega (arith, ap length c.in-Some.ensures.items)

pub leave_slot-gear-requires-clause-over : goal.leave_slot-gear-requires-clause-over
leave_slot-gear-requires-clause-over g c = λ κs within.
    All-head (λ s. WorkerIsOver s) _ _ (All-same (λ s. WorkerIsOver s) _ _ (sym c.in-Some.ensures.items) c.slots.invariant.over)

pub put_left-requires : goal.put_left-requires
put_left-requires g c = space_for_one _ _ _ _ c.slots.invariant.space c.in-Some.ensures.items

pub returns : goal.returns
returns g c =
    all_taken _ _ _ _ _ _ c.slots.invariant.so_far
    (empty_of _ (none_left _ _ c.slots.slots.rest.ok.0 c.in_default.ensures.variant.1))
