use Rattle.journal_text.proofs.WrittenLaws.{written_back}
use Rattle.journal_text.proofs.laws.a_written_text_is_read.Goals as goal

pub returns : goal.returns
returns c = written_back
