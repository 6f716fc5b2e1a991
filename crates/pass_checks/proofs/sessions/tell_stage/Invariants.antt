-- Where two passes with a session each belong: the first one knows.
use Rattle.lb_passes.specs.Placed.{origin_in, table_in_passes}
use Rattle.pass_checks.proofs.sessions.tell_stage.Given as goal

abbrev pub ghosts-over_list : goal.ghosts-over_list
ghosts-over_list g a = record { table = table_in_passes a.passes; origin = origin_in a.passes; given = 2 }
