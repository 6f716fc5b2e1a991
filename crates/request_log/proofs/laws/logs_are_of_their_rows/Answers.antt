use Rattle.request_log.proofs.RowLaws.{logs_alike}
use Rattle.request_log.proofs.laws.logs_are_of_their_rows.Goals as goal

pub returns : goal.returns
returns c = logs_alike
