-- The commands of a balancer's Book that a status command asks for, where the balancer has these members.
use Rattle.std.specs.Prelude.{ℕ, List, [], ◌∷◌, length, map, Option, Some, None}
use Rattle.std.specs.List.{range_with_len}
use Rattle.std.specs.Option.{option_map}
use Rattle.lb_model.specs.declared.change.Command.{Command}
use Rattle.lb_model.specs.declared.change.Command.TheVariants as command
use Rattle.lb_model.specs.declared.member.MemberConfig.{MemberConfig}
use Rattle.status_worker.specs.declared.command.NamedChange.{NamedChange}
use Rattle.status_worker.specs.declared.command.StatusCommand.{StatusCommand}
use Rattle.status_worker.specs.declared.command.StatusCommand.TheVariants as asked
use Rattle.status_worker.specs.Targets.{change_for, member_named}
use Rattle.status_worker.specs.Values.{◌>>=◌}

-- none where a name is no member's
abbrev pub update_for : List MemberConfig → List ℕ → NamedChange → Option Command
update_for members sw c = member_named members sw >>= λ m. option_map (command.Update m) (change_for members c)

abbrev pub reset_for : List MemberConfig → List ℕ → Option Command
reset_for members sw = option_map command.Reset (member_named members sw)

abbrev pub recover_for : List MemberConfig → List ℕ → Option Command
recover_for members sw = option_map command.Recover (member_named members sw)

-- a reset of each member, in order
abbrev pub resets : ℕ → List Command
resets count = map command.Reset (range_with_len 0 count)

abbrev pub alone : Option Command → Option (List Command)
alone c = option_map (λ x. x ∷ []) c

-- the commands, in order; none where a name is no member's
abbrev pub commands_for : List MemberConfig → StatusCommand → Option (List Command)
commands_for members (asked.List w) = Some []
commands_for members (asked.Update w sw c) = alone (update_for members sw c)
commands_for members (asked.Reset w None) = Some (resets (length members))
commands_for members (asked.Reset w (Some sw)) = alone (reset_for members sw)
commands_for members (asked.Recover w sw) = alone (recover_for members sw)
