use Rattle.std.proofs.Common.{◌≡◌, ◌∙◌, sym, ap, subst, arith, length, take}
use Rattle.ajp_request.specs.Reading.{stored_in}
use Rattle.ajp_request.proofs.StoredLaws.{StoreNone, passes, is_found, is_nowhere}
use Rattle.ajp_request.proofs.attribute_reading.take_stored.Goals as goal

pub returns-then-is_stored : goal.returns-then-is_stored
returns-then-is_stored c =
    ap stored_in (sym c.loop-i.invariant.0) ∙ rw c.remove.ensures.items (is_found c.loop-i.attributes.items c.loop-i.i c.index.result.now c.remove.result c.in-Plain.field-0 c.in-Plain.method (omega arith) c.index.ensures (sym c.is_stored.ensures ∙ c.if-is_stored.true) c.remove.ensures.value c.in-Plain.is c.loop-i.invariant.1)

pub loop-i-preserved : goal.loop-i-preserved
loop-i-preserved c =
    (c.loop-i.invariant.0, passes c.loop-i.attributes.items c.loop-i.i c.index.result.now (omega arith) c.index.ensures (sym c.is_stored.ensures ∙ c.if-is_stored.false) c.loop-i.invariant.1)

pub returns : goal.returns
returns c = ap stored_in (sym c.loop-i.invariant.0) ∙ is_nowhere c.loop-i.attributes.items c.loop-i.i (omega (arith, ap length c.loop-i.invariant.0)) c.loop-i.invariant.1
