use Rattle.std.proofs.Common.{◌≡◌, ◌+◌, ◌<◌, length, drop}
use Rattle.std.specs.List.{AllByRecursion}
use Rattle.ajp_request.specs.Writing.{attributes_bytes, FitsAttribute}
use Rattle.ajp_request.proofs.WritingLaws.{Measured}
use Rattle.ajp_request.proofs.attribute_writing.attributes_len.Given as goal

abbrev pub invariant-loop-attribute : goal.invariant-loop-attribute
invariant-loop-attribute l = Measured l.attributes l.attribute-index l.len
