use Rattle.status_worker.proofs.AskingLaws.{asked_read_again, written_command_read}
use Rattle.status_worker.proofs.laws.asked_commands_are_read.Goals as goal

pub returns : goal.returns
returns c = record { fields = asked_read_again; query = written_command_read }
