-- The turn is drawn, and nothing else happened.
use Rattle.std.proofs.Common.{◌≡◌}
use mathlib.Core.Option.{none}
use Rattle.atomic_table.specs.Table.{step}
use Rattle.lb_passes.specs.Plays.{Drew}
use Rattle.lb_passes.proofs.turns.take_turn.Given as goal

abbrev pub invariant-loop : goal.invariant-loop
invariant-loop g l = (l.seat.table_id ≡ l.fn.seat.table_id) × Drew (step 0 0 1 0 none) l.fn.seat.me l.turn l.seat.me
