use Rattle.std.proofs.Common.{ap, length, refl, sym, arith}
use Rattle.std.proofs.lemmas.List.Elements.{All-head, All-rest, All-same}
use Rattle.gear_parts.proofs.ListLaws.{no_more_of, none_left, none_put, one_put}
use Rattle.jk_server.proofs.workers.put_slots.Goals as goal

pub gears-init : goal.gears-init
gears-init g c = record {
  started = none_put _ _ _ _ _ c.requires.none refl;
  idle = c.requires.idle;
  parts_left = c.requires.parts;
  none_counted = c.requires.amount;
  slot_room = omega (arith, ap length c.requires.none, c.args.slots.now.ok.0, c.requires.room);
}

pub gears-preserved : goal.gears-preserved
gears-preserved g c =
    let first = c.in-Some.ensures.items in
    let put = c.put_slot.ensures in
    record {
      started = one_put _ _ _ _ _ _ _ _ _ c.gears.invariant.started first put.slot.added put.slot.is;
      idle = All-rest (λ x. g.T.Tape.is_idle x.tape) _ _ _ first c.gears.invariant.idle;
      parts_left = omega (arith, c.gears.invariant.parts_left, put.share.0, ap length first);
      none_counted = put.share.1;
      slot_room = omega (arith, ap length first, c.gears.invariant.slot_room, put.len, put.capacity);
    }

pub gears-smaller : goal.gears-smaller
gears-smaller g c = omega (arith, ap length c.in-Some.ensures.items)

pub put_slot-requires-clause-some : goal.put_slot-requires-clause-some
put_slot-requires-clause-some g c = omega (arith, c.gears.invariant.parts_left, ap length c.in-Some.ensures.items)

pub put_slot-requires-clause-amount : goal.put_slot-requires-clause-amount
put_slot-requires-clause-amount g c = λ κs within. c.gears.invariant.none_counted

pub put_slot-requires-clause-idle : goal.put_slot-requires-clause-idle
put_slot-requires-clause-idle g c = λ κs within.
    All-head (λ x. g.T.Tape.is_idle x.tape) _ _
    (All-same (λ x. g.T.Tape.is_idle x.tape) _ _ (sym c.in-Some.ensures.items) c.gears.invariant.idle)

pub put_slot-requires-clause-room : goal.put_slot-requires-clause-room
put_slot-requires-clause-room g c = λ κs within.
    omega (arith, ap length c.in-Some.ensures.items, c.gears.invariant.slot_room)

pub returns : goal.returns
returns g c = record {
  starts = no_more_of _ _ _ _ c.gears.invariant.started (none_left _ _ c.gears.gears.rest.ok.0 c.in_default.ensures.variant.1);
}
