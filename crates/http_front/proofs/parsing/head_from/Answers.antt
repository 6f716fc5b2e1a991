-- The parts that were copied are those of the parsed head.
use Rattle.std.proofs.Common.{arith, ◌∙◌, ap, ℕ, ◌==◌}
use Rattle.http_front.proofs.MakesLemmas.{makes-front, same-head}
use Rattle.http_front.proofs.parsing.head_from.Goals as goal

pub returns : goal.returns
returns c =
    let found = c.in-Some.ensures.found in
    let at = found.2 in
    makes-front c.args.front.now found.0 _ c.make_head.result (omega arith) found.1
    (same-head _ _ _ _ _ _ _ _ (c.of.ensures ∙ at.method) (c.of-2.ensures ∙ at.path) (ap (λ (n : ℕ). n == 0) at.version) (c.in_ok-headers.ensures ∙ at.fields))
    c.make_head.ensures
