use Rattle.std.proofs.Common.{◌≡◌, ◌+◌, drop}
use Rattle.ajp_request.specs.Writing.{before_stored}
use Rattle.ajp_request.proofs.attribute_writing.before_stored.Given as goal

abbrev pub invariant-loop-place : goal.invariant-loop-place
invariant-loop-place l = l.place + before_stored (drop l.place l.attributes) ≡ before_stored l.attributes
