use Rattle.std.proofs.Common.{◌≡◌, ◌++◌, drop}
use Rattle.std.specs.List.{AllByRecursion}
use Rattle.ajp_request.specs.Writing.{attributes_bytes, FitsAttribute}
use Rattle.ajp_request.proofs.attribute_writing.put_attributes.Given as goal

abbrev pub invariant-loop-attribute : goal.invariant-loop-attribute
invariant-loop-attribute l = (l.out ++ attributes_bytes (drop l.attribute-index l.attributes) ≡ l.fn.out ++ attributes_bytes l.attributes) × AllByRecursion FitsAttribute (drop l.attribute-index l.attributes)
