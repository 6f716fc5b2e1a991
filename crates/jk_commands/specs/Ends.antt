-- How a command ends, by how the server's call or a drill ended, and the program's status.
use Rattle.std.specs.Prelude.{ℕ}
use Rattle.drill.specs.Written.{status_of_error}
use Rattle.drill.specs.declared.writing.DrillEnd.{DrillEnd}
use Rattle.drill.specs.declared.writing.DrillEnd.TheVariants as drilled
use Rattle.jk_server.specs.declared.orders.ends.CommandEnd.{CommandEnd}
use Rattle.jk_server.specs.declared.orders.ends.CommandEnd.TheVariants as server
use Rattle.jk_commands.specs.declared.ends.EndOf.{EndOf}
use Rattle.jk_commands.specs.declared.ends.EndOf.TheVariants as end

-- the program's status
abbrev pub status_of : {L : Type 0} → EndOf L → ℕ
status_of (end.Status status) = status
status_of (end.Discord discord) = 1
status_of (end.Stray stray) = 7
status_of (end.Drill error) = status_of_error error

-- the end by that of `serve` or `container`
abbrev pub jkd_end : {L : Type 0} → CommandEnd L → EndOf L
jkd_end (server.Status status) = end.Status status
jkd_end (server.Discord discord) = end.Discord discord
jkd_end (server.Stray stray) = end.Stray stray

-- the end by that of a drill
abbrev pub of_drill : {L : Type 0} → DrillEnd → EndOf L
of_drill drilled.Written = end.Status 0
of_drill drilled.OutputFault = end.Status 5
of_drill drilled.NoMemory = end.Status 6
of_drill (drilled.Lacked error) = end.Drill error
