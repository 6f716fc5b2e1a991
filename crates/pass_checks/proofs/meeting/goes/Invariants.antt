-- Where two passes that go side by side belong: the first one knows.
use Rattle.lb_passes.specs.Placed.{origin_in, table_in_passes}
use Rattle.pass_checks.proofs.meeting.goes.Given as goal

abbrev pub ghosts-go_in : goal.ghosts-go_in
ghosts-go_in g a = record { table = table_in_passes a.passes; origin = origin_in a.passes; given = 2 }
