use Rattle.std.proofs.Common.{◌∙◌, ap, Some, sym}
use Rattle.http_front.proofs.PathLemmas.{query-some, query-none}
use Rattle.http_front.proofs.judging.query_of.Goals as goal

pub returns-in_ok-from_slice-in-Some-clause-value : goal.returns-in_ok-from_slice-in-Some-clause-value
returns-in_ok-from_slice-in-Some-clause-value c = ap Some c.in_ok-from_slice-in-Some.ensures ∙ sym (query-some c.args.target.now c.in-Some.at c.in-Some.ensures.found.0 c.in-Some.ensures.found.1)

pub returns-in-None-clause-value : goal.returns-in-None-clause-value
returns-in-None-clause-value c = sym (query-none c.args.target.now c.in-None.ensures.none)
