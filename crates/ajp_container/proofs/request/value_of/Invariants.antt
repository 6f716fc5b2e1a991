use Rattle.std.proofs.Common.{◌≡◌, drop}
use Rattle.ajp_container.specs.Request.{value_named}
use Rattle.ajp_container.proofs.request.value_of.Given as goal

abbrev pub invariant-loop-header : goal.invariant-loop-header
invariant-loop-header l = value_named l.name (drop l.header-index l.headers) ≡ value_named l.name l.headers
