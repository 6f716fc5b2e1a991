use Rattle.std.proofs.Common.{◌≡◌, drop}
use Rattle.forwarding.specs.Routes.{routed_of}
use Rattle.forwarding.proofs.routes.routed.Given as goal

abbrev pub invariant-loop-id : goal.invariant-loop-id
invariant-loop-id l = routed_of (drop l.id-index l.id-items) l.members ≡ routed_of l.id-items l.members
