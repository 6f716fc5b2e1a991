use Rattle.std.proofs.Common.{Some, sym, ap, ◌∙◌}
use Rattle.ajp_container.proofs.RequestLaws.{value_named-found, value_named-next}
use Rattle.ajp_container.proofs.request.value_of.Goals as goal

pub returns-then-is_named : goal.returns-then-is_named
returns-then-is_named c =
    let same = sym c.is_named.ensures ∙ c.if-is_named.true in
    ap Some c.as_slice.ensures
    ∙ sym (value_named-found _ _ c.loop-header.header-index c.header-item.result c.loop-header-test.true c.header-item.is same)
    ∙ c.loop-header.invariant

pub loop-header-preserved : goal.loop-header-preserved
loop-header-preserved c =
    let other = sym c.is_named.ensures ∙ c.if-is_named.false in
    sym (value_named-next _ _ c.loop-header.header-index c.header-item.result c.loop-header-test.true c.header-item.is other)
    ∙ c.loop-header.invariant
