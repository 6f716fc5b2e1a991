use Rattle.std.proofs.Common.{◌≡◌, take}
use Rattle.ajp_request.proofs.StoredLaws.{StoreNone}
use Rattle.ajp_request.proofs.attribute_reading.take_stored.Given as goal

abbrev pub invariant-loop-i : goal.invariant-loop-i
invariant-loop-i l = (l.attributes.items ≡ l.fn.attributes.items) × StoreNone (take l.i l.attributes.items)
