use Rattle.journal_text.proofs.LineLaws.{line_back, line_spelled}
use Rattle.journal_text.proofs.line_laws.each_line_is_read.Goals as goal

pub returns : goal.returns
returns c = record { read = line_back; spelled = line_spelled }
