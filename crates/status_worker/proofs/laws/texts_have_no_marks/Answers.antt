use Rattle.status_worker.proofs.MarkLaws.{html-no_marks, label-no_line_ends, label-read}
use Rattle.status_worker.proofs.laws.texts_have_no_marks.Goals as goal

pub returns-clause-table : goal.returns-clause-table
returns-clause-table c = html-no_marks

pub returns-clause-lines : goal.returns-clause-lines
returns-clause-lines c = label-no_line_ends

pub returns-clause-label : goal.returns-clause-label
returns-clause-label c = label-read
