-- By the parts, whether the method has a code or not.
use Rattle.std.proofs.Common.{List, ℕ, [], ◌∷◌, ◌++◌, ap}
use Rattle.ajp_request.specs.Tables.{method_code}
use Rattle.forwarding.specs.Forwards.{route_for}
use Rattle.forwarding.proofs.AttributeLaws.{attributes_in_order}
use Rattle.forwarding.proofs.laws.attributes_stand_in_order.Goals as goal

pub returns : goal.returns
returns c = λ d. ap (λ (t : List ℕ). t ++ 255 ∷ [])
    (attributes_in_order (method_code d.head.method) d.head.method d.head.query (route_for d.direct d.member) d.endpoint.secret)
