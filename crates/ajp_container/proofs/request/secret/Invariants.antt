use Rattle.std.proofs.Common.{◌≡◌, drop}
use Rattle.ajp_container.specs.Request.{secret_in}
use Rattle.ajp_container.proofs.request.secret.Given as goal

abbrev pub invariant-loop-attribute : goal.invariant-loop-attribute
invariant-loop-attribute l = secret_in (drop l.attribute-index l.attributes) ≡ secret_in l.attributes
