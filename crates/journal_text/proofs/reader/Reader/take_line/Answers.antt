use Rattle.journal_text.proofs.HeldFacts.{takes_held}
use Rattle.journal_text.proofs.reader.Reader.take_line.Goals as goal

pub returns-in-Some-clause-grown : goal.returns-in-Some-clause-grown
returns-in-Some-clause-grown c = takes_held c.args.self c.args.text.now c.in-Some.further (rw c.in-Some.is at c.in_ok-further.ensures)
