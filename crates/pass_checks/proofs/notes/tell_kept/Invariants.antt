-- Where two passes that leave a Book belong: the first one knows.
use Rattle.lb_passes.specs.Placed.{origin_in, table_in_passes}
use Rattle.pass_checks.proofs.notes.tell_kept.Given as goal

abbrev pub ghosts-meet_in : goal.ghosts-meet_in
ghosts-meet_in g a = record { table = table_in_passes a.passes; origin = origin_in a.passes; given = 2 }
