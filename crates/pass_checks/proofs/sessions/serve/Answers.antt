use Rattle.status_worker.proofs.DeskLaws.{untouched}
use Rattle.pass_checks.proofs.sessions.serve.Goals as goal

pub returns-in_default : goal.returns-in_default
returns-in_default g c = untouched _ _
