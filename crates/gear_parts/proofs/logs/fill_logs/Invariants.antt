use Rattle.std.proofs.Common.{◌≡◌, ◌≤◌}
use Rattle.std.specs.Prelude.{vec_capacity, vec_len}
use Rattle.gear_parts.specs.Wants.{AreSuited}
use Rattle.gear_parts.proofs.logs.fill_logs.Given as goal

-- this many logs were made, each for the worker of its place
abbrev pub invariant-logs : goal.invariant-logs
invariant-logs g l = record {
  suited : AreSuited (g.W.World.is_log l.dir) 0 l.logs.items;
  count : vec_len l.logs ≡ l.number;
  same : (g.W.World.handed l.world ≡ g.W.World.handed l.initial.world) × (g.W.World.came_back l.world ≡ g.W.World.came_back l.initial.world)
      × (g.W.World.out l.world ≡ g.W.World.out l.initial.world);
  steady : g.W.World.faults l.world ≡ g.W.World.faults l.initial.world;
  unshown : g.W.World.shown l.world ≡ g.W.World.shown l.initial.world;
  room : l.threads ≤ vec_capacity l.logs;
}
