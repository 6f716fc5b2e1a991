use Rattle.real_io.proofs.HeadLaws.{IfNone-map}
use Rattle.real_io.proofs.heads.end_at.Goals as goal

pub returns-clause-none : goal.returns-clause-none
returns-clause-none c = IfNone-map c.empty_line_at.result (λ none len e. none len e.2) c.empty_line_at.ensures.none
