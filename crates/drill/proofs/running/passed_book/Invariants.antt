-- Where the passes of the drill belong: what the first one knows.
use Rattle.lb_passes.specs.PassDesks.{table_of}
use Rattle.lb_passes.specs.Placed.{no_table, origin_in, table_in_passes}
use Rattle.drill.proofs.running.passed_book.Given as goal

abbrev pub ghosts-serve_in_turns : goal.ghosts-serve_in_turns
ghosts-serve_in_turns g a = record { table = table_in_passes a.passes; origin = origin_in a.passes; given = a.plan.threads }
