use Rattle.std.proofs.Common.{sym, ◌∙◌}
use Rattle.std.proofs.lemmas.List.{take_rest}
use Rattle.ajp_container.proofs.RequestLaws.{has_text-next}
use Rattle.ajp_container.proofs.request.contains.Goals as goal

pub loop-at-preserved : goal.loop-at-preserved
loop-at-preserved c =
    let other = rw take_rest at (sym c.starts_with.ensures.value ∙ c.if-starts_with.false) in
    sym (has_text-next _ _ c.loop-at.at c.loop-at-test.true other) ∙ c.loop-at.invariant
