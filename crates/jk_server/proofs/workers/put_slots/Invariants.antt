-- Each gear so far has its part in a slot, and the share has one for each of the others.
use Rattle.std.proofs.Common.{◌≡◌, ◌+◌, ◌≤◌, ◌++◌, length, map}
use Rattle.std.specs.Prelude.{vec_capacity, vec_len}
use Rattle.std.specs.List.{All}
use Rattle.gear_parts.specs.GearParts.{start_by}
use Rattle.jk_server.specs.Parts.{slot_start}
use Rattle.jk_server.proofs.workers.put_slots.Given as goal

abbrev pub invariant-gears : goal.invariant-gears
invariant-gears g l = record {
  started : map slot_start l.slots.items ++ map (start_by l.common g.L.SiteName.sizes) l.gears.rest.items
      ≡ map (start_by l.common g.L.SiteName.sizes) l.fn.gears.rest.items;
  idle : All (λ x. g.T.Tape.is_idle x.tape) l.gears.rest.items;
  parts_left : l.share.parts ≡ length l.gears.rest.items;
  none_counted : l.share.amount ≡ 0;
  slot_room : vec_len l.slots + length l.gears.rest.items ≤ vec_capacity l.slots;
}

abbrev pub decreases-gears : goal.decreases-gears
decreases-gears g l = length l.gears.rest.items
