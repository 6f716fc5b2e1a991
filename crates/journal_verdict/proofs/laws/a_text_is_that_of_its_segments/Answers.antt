use Rattle.journal_verdict.proofs.SpelledLaws.{spelled}
use Rattle.journal_verdict.proofs.laws.a_text_is_that_of_its_segments.Goals as goal

pub returns : goal.returns
returns c = spelled
