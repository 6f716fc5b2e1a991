use Rattle.std.proofs.Common.{◌≡◌, ◌∙◌, sym, ap, subst, length}
use Rattle.std.proofs.lemmas.Bool.{ne_eqb}
use Rattle.std.proofs.lemmas.Result.{err_from_is_err_and}
use Rattle.ajp_wire.specs.Reading.{byte_at}
use Rattle.ajp_request.specs.Reading.{attributes_at}
use Rattle.ajp_request.proofs.AttributeLoop.{no_code, ends, no_attribute, goes_on, runs_out}
use Rattle.ajp_request.proofs.attribute_reading.next_attributes.Goals as goal

pub returns-in_err-code : goal.returns-in_err-code
returns-in_err-code c =
    let p = err_from_is_err_and c.from_residual.result c.from_residual.ensures.1 in
    rw (p.1, p.2) (no_code c.in_err-code.field-0.0 c.loop.attributes.items (length c.args.bytes.now) c.loop.counter c.loop.rest.now _ c.loop-test.true c.in_err-code.ensures.read c.loop.invariant)

pub returns-then-code : goal.returns-then-code
returns-then-code c =
    ends c.loop.attributes.items (length c.args.bytes.now) c.loop.counter c.loop.rest.now c.in_ok-code.behind.now _ c.loop-test.true (rw c.if-code.true at c.in_ok-code.ensures.read) c.loop.invariant

pub returns-in_err-attribute : goal.returns-in_err-attribute
returns-in_err-attribute c =
    let p = err_from_is_err_and c.from_residual-in_err-attribute.result c.from_residual-in_err-attribute.ensures.1 in
    rw (p.1, p.2) (no_attribute c.in_err-attribute.field-0.0 c.loop.attributes.items (length c.args.bytes.now) c.loop.counter c.loop.rest.now c.in_ok-code.code c.in_ok-code.behind.now _ c.loop-test.true c.in_ok-code.ensures.read (ne_eqb _ _ c.if-code.false) c.in_err-attribute.ensures c.loop.invariant)

pub loop-preserved : goal.loop-preserved
loop-preserved c =
    rw c.in_ok-push.ensures.items (goes_on c.loop.attributes.items (length c.args.bytes.now) c.loop.counter c.loop.rest.now c.in_ok-code.code c.in_ok-code.behind.now c.in_ok-attribute.attribute c.in_ok-attribute.after.now _ c.loop-test.true c.in_ok-code.ensures.read (ne_eqb _ _ c.if-code.false) c.in_ok-attribute.ensures c.loop.invariant)

pub returns : goal.returns
returns c = rw c.refused.ensures (runs_out c.loop.attributes.items (length c.args.bytes.now) c.loop.counter c.loop.rest.now _ c.loop-test.false c.loop.invariant)
