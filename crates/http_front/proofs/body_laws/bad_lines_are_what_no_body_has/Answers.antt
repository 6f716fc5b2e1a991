use Rattle.http_front.proofs.RefusedLemmas.{refuses_unspelled}
use Rattle.http_front.proofs.body_laws.bad_lines_are_what_no_body_has.Goals as goal

pub returns : goal.returns
returns c = refuses_unspelled
