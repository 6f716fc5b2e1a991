-- A command's balancer, and whether the command changes something.
use Rattle.std.specs.Prelude.{ℕ, Bool, true, false, List, Option, Some}
use Rattle.status_worker.specs.declared.command.StatusCommand.{StatusCommand}
use Rattle.status_worker.specs.declared.command.StatusCommand.TheVariants as command

abbrev pub is_change : StatusCommand → Bool
is_change (command.List w) = false
is_change (command.Update w sw change) = true
is_change (command.Reset w sw) = true
is_change (command.Recover w sw) = true

-- the balancer that it names; only the page of all names none
abbrev pub worker_of : StatusCommand → Option (List ℕ)
worker_of (command.List w) = w
worker_of (command.Update w sw change) = Some w
worker_of (command.Reset w sw) = Some w
worker_of (command.Recover w sw) = Some w
