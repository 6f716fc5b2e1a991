use Rattle.std.proofs.Common.{◌≡◌, [], ap, length, arith}
use Rattle.std.proofs.lemmas.List.Elements.{All-nil, All-same}
use Rattle.drill.proofs.slots.fill_slots.Goals as goal

pub slots-init : goal.slots-init
slots-init g c =
    let none = ap length c.requires.none in
    record {
      count = omega (arith, none, c.args.slots.now.ok.0);
      parts = omega (arith, none, c.args.slots.now.ok.0, c.requires.parts);
      room = c.requires.room;
      fresh = All-same (λ s. s.desk.desk.receipts ≡ []) _ _ c.requires.none (All-nil (λ s. s.desk.desk.receipts ≡ []));
    }

pub slots-preserved : goal.slots-preserved
slots-preserved g c = record {
  count = omega (arith, c.slots.invariant.count, c.put_slot.ensures.len);
  parts = omega (arith, c.slots.invariant.parts, c.put_slot.ensures.len, c.split_off-share.ensures.left.0);
  room = omega (arith, c.slots.invariant.room, c.put_slot.ensures.capacity);
  fresh = c.put_slot.ensures.fresh;
}
