use Rattle.status_worker.proofs.PageTextLaws.{line_count-page}
use Rattle.status_worker.proofs.laws.pages_have_a_line_for_each.Goals as goal

pub returns-clause-lines : goal.returns-clause-lines
returns-clause-lines c = line_count-page
