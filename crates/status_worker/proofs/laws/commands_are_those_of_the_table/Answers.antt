use Rattle.status_worker.proofs.PageCommandLaws.{command_read, read_command_asked, one_command}
use Rattle.status_worker.proofs.laws.commands_are_those_of_the_table.Goals as goal

pub returns : goal.returns
returns c = record { read = command_read; only = read_command_asked; one = one_command }
