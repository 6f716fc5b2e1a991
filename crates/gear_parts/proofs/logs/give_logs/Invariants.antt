-- The gears so far have the logs that were taken.
use Rattle.std.proofs.Common.{◌≡◌, ◌+◌, ◌++◌, length, map, take, Some}
use Rattle.gear_parts.specs.Gears.{unlogged}
use Rattle.gear_parts.proofs.logs.give_logs.Given as goal

abbrev pub invariant-loop-gear : goal.invariant-loop-gear
invariant-loop-gear g l = record {
  rest_same : map unlogged l.gears ≡ map unlogged l.initial.gears;
  logs_put : map (λ x. x.log) (take l.gear-index l.gears) ++ map Some l.logs.rest.items ≡ map Some l.initial.logs.rest.items;
  paired : l.gear-index + length l.logs.rest.items ≡ length l.gears;
}
