use Rattle.std.proofs.Common.{codes}
use Rattle.plain_commands.proofs.SessionLemmas.{as_words}
use Rattle.plain_commands.proofs.session.lines.put_why.Goals as goal

pub returns-in-ByClient : goal.returns-in-ByClient
returns-in-ByClient c = rw c.in-ByClient.is (as_words _ _ _ (codes "by-client ") _ c.put_number.ensures)
