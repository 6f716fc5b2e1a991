use Rattle.std.proofs.Common.{◌≡◌, ◌+◌, length}
use Rattle.jk_io.specs.Told.{appended}
use Rattle.gear_parts.proofs.gears.give_each.Given as goal

-- the gears so far came back, and the others are out
abbrev pub invariant-gears : goal.invariant-gears
invariant-gears g l = record {
  came_back : appended (g.W.World.came_back l.world) l.gears.rest.items ≡ appended (g.W.World.came_back l.initial.world) l.fn.gears.rest.items;
  out : g.W.World.out l.world + length l.fn.gears.rest.items ≡ g.W.World.out l.initial.world + length l.gears.rest.items;
  same : (g.W.World.handed l.world ≡ g.W.World.handed l.initial.world) × (g.W.World.faults l.world ≡ g.W.World.faults l.initial.world);
  unshown : g.W.World.shown l.world ≡ g.W.World.shown l.initial.world;
}

abbrev pub decreases-gears : goal.decreases-gears
decreases-gears g l = length l.gears.rest.items
