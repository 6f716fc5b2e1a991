use Rattle.http_front.proofs.LineLemmas.{lines-head, lines-counted}
use Rattle.http_front.proofs.laws.a_head_is_lines.Goals as goal

pub returns : goal.returns
returns c = record { cut = lines-head; counted = lines-counted }
