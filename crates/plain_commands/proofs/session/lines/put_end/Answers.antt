use Rattle.std.proofs.Common.{codes}
use Rattle.plain_commands.proofs.SessionLemmas.{as_words}
use Rattle.plain_commands.proofs.session.lines.put_end.Goals as goal

pub returns-in-Truncated : goal.returns-in-Truncated
returns-in-Truncated c = rw c.in-Truncated.is (as_words _ _ _ (codes "truncated ") _ c.put_number.ensures)
