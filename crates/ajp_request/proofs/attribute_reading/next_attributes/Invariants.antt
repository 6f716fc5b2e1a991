use Rattle.std.proofs.Common.{◌≡◌, ◌-◌, length}
use Rattle.ajp_wire.proofs.HeaderLoop.{with_front}
use Rattle.ajp_request.specs.Reading.{attributes_at}
use Rattle.ajp_request.proofs.attribute_reading.next_attributes.Given as goal

abbrev pub invariant-loop : goal.invariant-loop
invariant-loop l = with_front l.attributes.items (attributes_at (length l.bytes - l.counter) l.rest) ≡ attributes_at (length l.bytes) l.bytes
