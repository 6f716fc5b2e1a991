use Rattle.std.proofs.Common.{◌≡◌, ◌≤◌}
use Rattle.std.specs.Prelude.{vec_capacity, vec_len}
use Rattle.gear_parts.specs.Steps.{TakesGears}
use Rattle.gear_parts.proofs.gears.fill_gears.Given as goal

-- this many gears were handed out, each as it was asked for
abbrev pub invariant-gears : goal.invariant-gears
invariant-gears g l = record {
  taken : TakesGears g.W.World g.W.D.Door g.W.T.Tape g.W.K.Clock l.asked l.initial.world l.world l.gears.items;
  count : vec_len l.gears ≡ l.number;
  steady : g.W.World.faults l.world ≡ g.W.World.faults l.initial.world;
  unshown : g.W.World.shown l.world ≡ g.W.World.shown l.initial.world;
  room : l.threads ≤ vec_capacity l.gears;
}
